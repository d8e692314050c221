use Rattle.std.proofs.Common.{length}
use denote.Shadow.{shadow}
use denote.Text.{Utf8}
use Rattle.cn_find.specs.Spans.{text_before}
use Rattle.cn_find.proofs.Runs.{Gathered}
use Rattle.cn_find.proofs.run.skip_run.Given as goal

abbrev pub invariant-gathering : goal.invariant-gathering
invariant-gathering g l = record {
  run : Gathered (g.R.SearchRule.rule l.rule) l.whole (text_before l.whole l.ahead)
      l.ahead l.rest l.last;
  utf8 : shadow (Utf8 l.rest);
}

abbrev pub decreases-gathering : goal.decreases-gathering
decreases-gathering g l = length l.rest
