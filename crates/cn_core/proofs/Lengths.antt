-- The number of marks in a spelling.
use Rattle.std.proofs.Common.{◌≡◌, ℕ, ◌+◌, ◌-◌, ◌*◌, ◌/◌, ◌%◌, ◌^◌, ◌<◌, ◌≤◌, List, ◌∷◌, ◌++◌, length, ap, ◌∙◌, arith, length-append}
use Rattle.std.proofs.Math.Decide.{dec_lt}
use Rattle.std.proofs.Math.Nat.{pow-le-pow_right, lt_of_mul-lt-mul_right}
use Rattle.std.proofs.lemmas.Nat.{pow-add}
use Rattle.cn_core.specs.declared.method.ChineseCountMethod.{ChineseCountMethod}
use Rattle.cn_core.specs.Mark.{Mark, digit, unit}
use Rattle.cn_core.specs.Scale.{scale, exponent}
use Rattle.cn_core.specs.Spelling.{spelling_within, after_unit, spelling}
use Rattle.cn_core.proofs.ScaleLaws.{exponent-some}
use Rattle.cn_core.proofs.Spellings.{IsCut, spelled-by, after_unit-by, short_spelling-by}

-- a number of at most this many decimal digits has at most twice as many marks, less one
abbrev HasLength : ℕ → List Mark → Type 0
HasLength number marks = (digits : ℕ) → 1 ≤ digits → number < 10 ^ digits
    → length marks + 1 ≤ 2 * digits

-- the marks after a unit are at most twice as many as its scale has zeros, less one
length-after : (e remainder : ℕ) (back : List Mark) → 1 ≤ e → remainder < 10 ^ e
    → HasLength remainder back → length (after_unit remainder (10 ^ e) back) + 1 ≤ 2 * e
length-after e remainder back some less h =
    after_unit-by (λ l. length l + 1 ≤ 2 * e) remainder (10 ^ e) back (λ none. omega (arith, some))
    gap (λ pos full. h e some less) where
      gap : 0 < remainder → remainder < 10 ^ e / 10 → length (digit 0 ∷ back) + 1 ≤ 2 * e
      gap pos low =
          let up : 10 ^ e ≡ 10 ^ (e - 1) * 10 = let s : e ≡ (e - 1) + 1 =
          omega (arith, some) in ap (λ k. 10 ^ k) s ∙ pow-add 10 (e - 1) 1 in
          let below : remainder < 10 ^ (e - 1) = omega (arith, up, low) in
          let two : 1 ≤ e - 1 = elim (dec_lt 1 e) [
            | yes m ↦ omega (arith, m)
            | no m ↦
                absurd (let one : e - 1 ≡ 0 = omega (arith, m) in let p : 10 ^ (e - 1) ≡ 1 =
                ap (λ k. 10 ^ k) one in omega (arith, p, below, pos))
          ] in
          omega (arith, h (e - 1) two below)

HasLength-step : (method : ChineseCountMethod) (number rank : ℕ) (front back : List Mark)
    → IsCut method number rank → HasLength (number / scale method rank) front
    → HasLength (number % scale method rank) back
    → HasLength number (front ++ unit rank
    ∷ after_unit (number % scale method rank) (scale method rank) back)
HasLength-step method number rank front back cut f b digits some h =
    let e = exponent method rank in
    let size = scale method rank in
    let e_some : 1 ≤ e = exponent-some method rank cut.low in
    let e_less : e < digits = elim (dec_lt e digits) [
      | yes a ↦ a
      | no a ↦
          absurd (let p : 10 ^ digits ≤ 10 ^ e =
          pow-le-pow_right (omega arith) (omega (arith, a)) in omega (arith, p, cut.size, h))
    ] in
    let whole : 10 ^ digits ≡ 10 ^ (digits - e) * size = let s : digits ≡ (digits - e) + e =
    omega (arith, e_less) in ap (λ n. 10 ^ n) s ∙ pow-add 10 (digits - e) e in
    let q_small : number / size < 10 ^ (digits - e) =
    lt_of_mul-lt-mul_right size (omega (arith, whole, cut.sum, h)) in
    let q = f (digits - e) (omega (arith, e_less)) q_small in
    let r = length-after e (number % size) back e_some cut.remainder b in
    rw length-append (omega (arith, q, r, e_less))

-- the spelling of a number of at most this many decimal digits has at most twice as many marks,
-- less one
pub length-spelling : (method : ChineseCountMethod) (number digits : ℕ) → 1 ≤ digits
    → number < 10 ^ digits → number < scale method 15 * scale method 15
    → length (spelling method number) + 1 ≤ 2 * digits
length-spelling method number digits some h small =
    let marks = spelling_within number method number in
    let whole = spelled-by method HasLength (λ n low k some below. omega (arith, some))
    (HasLength-step method) number number (omega arith) small digits some h in
    short_spelling-by (λ l. length l + 1 ≤ 2 * digits) marks whole
    (λ rest ten. let e = ap length ten in omega (arith, e, whole))
