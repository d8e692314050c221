use Rattle.std.proofs.Common.{◌+◌, ◌<◌, ◌≤◌, length}
use denote.Shadow.{shadow}
use denote.Text.{Utf8}
use Rattle.cn_judge.specs.Private.PlainPiece.{IsDigitRun}
use Rattle.cn_judge.proofs.naive.split_digit_run.Given as goal

abbrev pub invariant-gathering : goal.invariant-gathering
invariant-gathering l = record {
  run : IsDigitRun l.fn.text l.rest l.run.count l.run.weight l.run.value;
  within : l.run.count + length l.rest ≤ length l.fn.text;
  small : l.run.value < l.run.weight;
  utf8 : shadow (Utf8 l.rest);
}

abbrev pub decreases-gathering : goal.decreases-gathering
decreases-gathering l = length l.rest
