use Rattle.std.proofs.Common.{◌+◌, ◌≤◌, length}
use denote.Shadow.{shadow}
use denote.Text.{Utf8}
use Rattle.cn_grammar.proofs.Reading.{IsReading}
use Rattle.cn_grammar.proofs.reader.read_form.Given as goal

abbrev pub invariant-reading : goal.invariant-reading
invariant-reading g l = record {
  reading : IsReading g.G.Grammar.machine l.fn.text (l.rest) l.state l.char_index;
  within : l.char_index + length l.rest ≤ length l.fn.text;
  utf8 : shadow (Utf8 l.rest);
}

abbrev pub decreases-reading : goal.decreases-reading
decreases-reading g l = length l.rest
