use Rattle.std.proofs.Common.{length}
use denote.Shadow.{shadow}
use denote.Text.{Utf8}
use Rattle.cn_replace.proofs.Tenths.{Sections}
use Rattle.cn_replace.proofs.numbers.put_sections.Given as goal

abbrev pub invariant-putting : goal.invariant-putting
invariant-putting g l = record {
  so_far : Sections g.S.Sink.took l.method l.fn.text l.start l.rest l.fn.sink l.sink;
  utf8_start : shadow (Utf8 l.start);
  utf8 : shadow (Utf8 l.rest);
}

abbrev pub decreases-putting : goal.decreases-putting
decreases-putting g l = length l.rest
