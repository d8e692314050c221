use Rattle.std.proofs.Common.{◌≡◌, length}
use denote.Shadow.{shadow}
use denote.Text.{Utf8}
use Rattle.cn_core.specs.Numeral.{groups_strictly}
use Rattle.cn_core.specs.Text.{marks_of, text_of}
use Rattle.cn_judge.specs.Marked.{unit_mark}
use Rattle.cn_judge.proofs.fault.groups_strictly.Given as goal

abbrev pub invariant-looking : goal.invariant-looking
invariant-looking l = record {
  same : groups_strictly (unit_mark l.unit) (marks_of (text_of l.ahead))
      ≡ groups_strictly (unit_mark l.fn.unit) (marks_of (text_of l.fn.after));
  utf8 : shadow (Utf8 l.ahead);
}

abbrev pub decreases-looking : goal.decreases-looking
decreases-looking l = length l.ahead
