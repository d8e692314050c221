use Rattle.std.proofs.Common.{◌==◌, ◌+◌, ◌^◌, ◌<◌, ◌≤◌, length}
use denote.Shadow.{shadow}
use denote.Text.{Utf8}
use Rattle.cn_judge.proofs.PlainDigits.{IsReading}
use Rattle.cn_judge.proofs.naive.judge_naive.Given as goal

abbrev pub invariant-reading : goal.invariant-reading
invariant-reading l = record {
  reading : IsReading l.fn.skipped l.fn.text (l.rest) (l.digits + l.others) l.number
      (l.digits == 0);
  fits : l.number < 2 ^ 128;
  within : l.digits + l.others + length l.rest ≤ l.fn.skipped + length l.fn.text;
  utf8 : shadow (Utf8 l.rest);
}

abbrev pub decreases-reading : goal.decreases-reading
decreases-reading l = length l.rest
