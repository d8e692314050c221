use Rattle.std.proofs.Common.{arith, get_or, ◌≡◌, ◌<◌, ◌+◌, ◌*◌, ◌/◌, ◌%◌, ℕ}
use Rattle.cn_judge.proofs.ThreeBytes.{key-bytes}
use Rattle.cn_dynamic.proofs.Characters.{common_is_utf8}
use Rattle.cn_dynamic.proofs.utf8.is_common_alone.Goals as goal

pub returns-in-len3-clause-some : goal.returns-in-len3-clause-some
returns-in-len3-clause-some c = λ is.
    let bytes = c.args.bytes.now in
    let common = c.is_common.ensures in
    let below : (i : ℕ) → get_or bytes i 0 < 256 = λ i. (c.type_inv.bytes i).fits in
    let key = key-bytes (get_or bytes 0 0) (get_or bytes 1 0) (get_or bytes 2 0) (below 0) (below 1) in
    let third : (get_or bytes 0 0 + get_or bytes 1 0 * 256 + get_or bytes 2 0 * 65536) / 65536 % 256
    ≡ get_or bytes 2 0 = omega (arith, key.three, below 2) in
    common_is_utf8 bytes _ _ _ key.one key.two third (common.first is) (common.second is) (common.third is)
