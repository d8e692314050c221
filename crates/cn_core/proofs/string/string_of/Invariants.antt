use Rattle.std.proofs.Common.{◌≡◌, take, vec_capacity}
use Rattle.cn_core.proofs.string.string_of.Given as goal

abbrev pub invariant-loop-byte : goal.invariant-loop-byte
invariant-loop-byte l = record {
  bytes : l.bytes.items ≡ take l.byte-index l.text;
  capacity : vec_capacity l.bytes ≡ vec_capacity l.initial.bytes;
}
