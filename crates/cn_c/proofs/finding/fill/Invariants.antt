use Rattle.std.proofs.Common.{◌≡◌, ◌≤◌, ◌++◌, map, take, drop, length}
use Rattle.cn_c.specs.Finds.{span_told}
use Rattle.cn_c.proofs.finding.fill.Given as goal

abbrev pub invariant-filling : goal.invariant-filling
invariant-filling g l = record {
  within : l.count ≤ length l.fn.runs;
  room : l.count ≤ length l.fn.spans;
  left : l.runs ≡ drop l.count l.fn.runs;
  told : l.spans ≡ map (span_told g.R.SearchRule.doubt) (take l.count l.fn.runs) ++ drop l.count l.fn.spans;
}
