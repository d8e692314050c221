use Rattle.std.proofs.Common.{◌≡◌, vec_len, vec_capacity}
use Rattle.cn_spell.proofs.text.zeros.Given as goal

abbrev pub invariant-loop : goal.invariant-loop
invariant-loop l =
    (vec_len l.bytes ≡ l.counter) × (vec_capacity l.bytes ≡ vec_capacity l.initial.bytes)
