use Rattle.std.proofs.Common.{◌≡◌, ◌≤◌}
use Rattle.cn_judge.specs.Private.Firsts.{firsts}
use Rattle.cn_judge.proofs.first_bytes.firsts_of.Given as goal

abbrev pub invariant-bytes : goal.invariant-bytes
invariant-bytes l = record {
  counted : l.count ≡ firsts l.bytes l.index;
  few : l.count ≤ l.index;
}
