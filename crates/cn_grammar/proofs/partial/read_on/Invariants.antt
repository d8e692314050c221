use Rattle.std.proofs.Common.{◌-◌, ◌+◌, ◌≤◌, chars, length}
use denote.Shadow.{shadow}
use denote.Text.{Utf8}
use Rattle.cn_grammar.specs.Working.ReadOn.{HasRead}
use Rattle.cn_grammar.proofs.partial.read_on.Given as goal

abbrev pub invariant-reading : goal.invariant-reading
invariant-reading g l = record {
  has : HasRead g.G.Grammar.machine l.fn.state (chars l.fn.text) l.state l.count (chars l.rest);
  within : l.count + length l.rest ≤ length l.fn.text;
  most : l.count ≤ l.most;
  utf8 : shadow (Utf8 l.rest);
}

abbrev pub decreases-reading : goal.decreases-reading
decreases-reading g l = l.most - l.count
