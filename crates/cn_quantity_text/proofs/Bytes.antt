-- The number of bytes of characters.
use Rattle.std.proofs.Common.{◌≡◌, ℕ, true, length, ap}
use Rattle.std.specs.Char.{encode_utf8}
use Rattle.cn_core.proofs.Characters.{takes_three}
use Rattle.cn_spell.proofs.ThreeBytes.{encode-three}

pub length-three : (c : ℕ) → takes_three c ≡ true → length (encode_utf8 c) ≡ 3
length-three c h = ap length (encode-three c h)
