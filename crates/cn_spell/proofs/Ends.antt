-- The end of a buffer is the text that was written there.
use Rattle.std.proofs.Common.{◌≡◌, ◌-◌, ℕ, List, length, take, drop, ap, ◌∙◌, arith, length-drop}
use Rattle.std.proofs.Math.Seq.{take-length}
use Rattle.cn_spell.specs.Working.Room.{Shows}
use Rattle.cn_spell.specs.Writes.{Puts}

pub Puts-end : (start : ℕ) (room text characters : List ℕ) → Shows start room characters
    → length room ≡ 235 → text ≡ take (235 - start) (drop start room) → Puts characters text
Puts-end start room text characters shows size is =
    let left : 235 - start ≡ length (drop start room) =
    omega (arith, length-drop start room, size) in
    let whole : text ≡ drop start room =
    is ∙ ap (λ n. take n (drop start room)) left ∙ take-length (drop start room) in
    record {
      text = whole ∙ shows.text;
      bound = omega (arith, ap length whole, left);
    }
