-- Where a list's place is, and what stands after it.
use Rattle.std.proofs.Common.{◌≡◌, ℕ, ◌+◌, ◌-◌, ◌<◌, ◌≤◌, true, List, [], ◌∷◌, ◌++◌, length, drop, refl, arith, length-drop}
use Rattle.std.proofs.Math.Decide.{dec_lt}
use Rattle.std.specs.Str.{all_scalars}
use Rattle.cn_core.specs.Characters.{digit_of, rank_of}
use Rattle.cn_core.specs.Mark.{Mark, digit}
use Rattle.cn_core.specs.Numeral.{IsNumeral, Completable}
use Rattle.cn_core.specs.Place.{IsPlace}
use Rattle.cn_core.specs.Text.{marks_of}
use Rattle.cn_core.proofs.Fronts.{completable_by_zero}

drop_past : (n : ℕ) (marks : List Mark) → length marks ≤ n → drop n marks ≡ []
drop_past n marks h = by (drop n marks) (length-drop n marks) where
  by : (l : List Mark) → length l ≡ length marks - n → l ≡ []
  by [] e = refl
  by (mark ∷ rest) e = absurd (omega (arith, e, h))

-- 零 with what stands after the place is a numeral
pub zero_after_place : (marks : List Mark) (place : ℕ) → IsPlace marks place
    → IsNumeral (digit 0 ∷ drop (place + 1) marks)
zero_after_place marks place at = elim (dec_lt (place + 1) (length marks)) [
  | yes within ↦ completable_by_zero (drop (place + 1) marks)
      (at.after (place + 1) (omega arith) within)
  | no past ↦ rw (drop_past (place + 1) marks (omega (arith, past)))
]

-- 零 is a character, and completes what marks can complete
pub completable_by_scalars : (text : List ℕ) → Completable (marks_of text) → (front : List ℕ)
    × (all_scalars front ≡ true) × (0 < length front) × IsNumeral (marks_of (front ++ text))
unfolding digit_of rank_of
completable_by_scalars text h = (
  0x96F6 ∷ [],
  refl,
  omega arith,
  completable_by_zero (marks_of text) h,
)
