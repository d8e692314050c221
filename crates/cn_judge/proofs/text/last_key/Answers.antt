use Rattle.std.proofs.Common.{◌≡◌, ◌+◌, ◌-◌, ◌<◌, ℕ, get_or, length, refl, arith}
use Rattle.cn_judge.proofs.ThreeBytes.{last-key}
use Rattle.cn_judge.proofs.text.last_key.Goals as goal

pub returns-then-key-eq14 : goal.returns-then-key-eq14
returns-then-key-eq14 c =
    let bytes = c.as_bytes-bytes.result.now in
    let below : (i : ℕ) → get_or bytes i 0 < 256 = λ i. rw c.as_bytes-bytes.ensures.value (c.type_inv.text i).fits in
    let long : length bytes ≡ length bytes - 3 + 3 = omega (arith, c.if-bytes-lt3.false) in
    last-key bytes _ (length bytes - 3) c.as_bytes-bytes.ensures.value c.utf8.text long (below _)
    (below _) _ refl c.if-key-eq14.true
