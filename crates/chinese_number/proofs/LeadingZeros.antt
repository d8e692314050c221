-- Zeros before the digits of a string, after its sign.
use Rattle.std.proofs.Common.{◌≡◌, ℕ, ℤ, Bool, true, false, ◌||◌, ◌==◌, if◌then◌else◌, List, [], ◌∷◌, ◌++◌, take, drop, All, Option, Some, None, Ok, refl, sym, ap, ◌∙◌, arith}
use Rattle.std.proofs.lemmas.Bool.Decides.{nat_tests}
use Rattle.std.proofs.lemmas.List.Elements.{All-head, All-tail, All-nil, All-cons}
use Rattle.std.proofs.lemmas.List.{map-append}
use Rattle.cn_core.specs.declared.sign.Sign.{Sign}
use Rattle.cn_core.specs.declared.sign.Sign.TheVariants.{Plus, Minus}
use Rattle.cn_core.specs.Characters.{digit_of, sign_of}
use Rattle.cn_core.specs.Mark.{digit, mark_of}
use Rattle.cn_core.specs.Naive.{naive_answer}
use Rattle.cn_core.specs.Text.{text_of, marks_of}
use Rattle.cn_core.specs.Reading.{leading_sign, sign_len, is_minus, typed_number, typed_answer, naive_reading}
use Rattle.cn_core.specs.Whole.{signed_number, Kind}
use Rattle.chinese_number.proofs.PlainDigits.{answered, naive_answer-zeros}
use Rattle.chinese_number.proofs.Reading.{naive_reading-parts}

plus : digit_of 0x6B63 ≡ None
unfolding digit_of
plus = refl

minus : digit_of 0x8CA0 ≡ None
unfolding digit_of
minus = refl

simple_minus : digit_of 0x8D1F ≡ None
unfolding digit_of
simple_minus = refl

-- a digit is no sign
pub sign_no_digit : (c value : ℕ) → digit_of c ≡ Some value → sign_of c ≡ None
unfolding sign_of
sign_no_digit c value h = by (0x6B63 == c) (0x8CA0 == c) (0x8D1F == c) refl refl refl where
  by : (p m s : Bool) → (0x6B63 == c) ≡ p → (0x8CA0 == c) ≡ m → (0x8D1F == c) ≡ s
      → (if p || false then Some Plus else (if m || (s || false) then Some Minus else None)) ≡ None
  by true m s e f g = let is : c ≡ 0x6B63 =
      grind (arith, nat_tests) in let d : digit_of 0x6B63 ≡ Some value = rw is at h in cc (plus)
  by false true s e f g = let is : c ≡ 0x8CA0 =
      grind (arith, nat_tests) in let d : digit_of 0x8CA0 ≡ Some value = rw is at h in cc (minus)
  by false false true e f g = let is : c ≡ 0x8D1F = grind (arith, nat_tests)
      in let d : digit_of 0x8D1F ≡ Some value = rw is at h in cc (simple_minus)
  by false false false e f g = refl

-- zeros after the sign hide no sign and make none
with_zeros : (signed : Bool) (text zeros more : List ℕ) → All (λ c. digit_of c ≡ Some 0) zeros
    → (sign : Option Sign) → leading_sign signed text ≡ sign
    → more ≡ take (sign_len sign) text ++ zeros ++ drop (sign_len sign) text
    → (leading_sign signed more ≡ sign)
    × (marks_of (drop (sign_len sign) more)
    ≡ marks_of zeros ++ marks_of (drop (sign_len sign) text))
with_zeros false text zeros more z (Some sign) s parts = cc
with_zeros false text zeros more z None s parts = rw parts (refl, map-append mark_of zeros text)
with_zeros true [] zeros more z (Some sign) s parts = cc
with_zeros true (c ∷ rest) zeros more z (Some sign) s parts =
    rw parts (s, map-append mark_of zeros rest)
with_zeros true text [] more z None s parts = rw parts (s, refl)
with_zeros true text (c ∷ zeros) more z None s parts =
    let d = All-head (λ c. digit_of c ≡ Some 0) c zeros z in
    rw parts (sign_no_digit c 0 d, map-append mark_of (c ∷ zeros) text)

marks_of-zeros : (zeros : List ℕ) → All (λ c. digit_of c ≡ Some 0) zeros
    → All (λ mark. mark ≡ digit 0) (marks_of zeros)
marks_of-zeros [] z = All-nil (λ mark. mark ≡ digit 0)
marks_of-zeros (c ∷ zeros) z =
    let d = All-head (λ c. digit_of c ≡ Some 0) c zeros z in
    All-cons (λ mark. mark ≡ digit 0) (mark_of c) (marks_of zeros) (rw d)
    (marks_of-zeros zeros (All-tail (λ c. digit_of c ≡ Some 0) c zeros z))

-- so they leave an answered number as it was
pub naive_reading-zeros : (kind : Kind) (bytes more zeros : List ℕ) (number : ℤ)
    → let text = text_of bytes in let sign = sign_len (leading_sign kind.signed text) in
    All (λ c. digit_of c ≡ Some 0) zeros → text_of more ≡ take sign text ++ zeros ++ drop sign text
    → naive_reading kind bytes ≡ Ok number → naive_reading kind more ≡ Ok number
naive_reading-zeros kind bytes more zeros number z parts h =
    let text = text_of bytes in
    let sign = leading_sign kind.signed text in
    let rest = marks_of (drop (sign_len sign) text) in
    let w = with_zeros kind.signed text zeros (text_of more) z sign refl parts in
    let a = answered kind bytes sign number (naive_answer rest) h in
    let same : typed_number kind (signed_number (is_minus sign) a.0) ≡ Ok number =
    ap (typed_answer kind bytes sign) (sym a.1) ∙ h in
    naive_reading-parts kind more sign (marks_of zeros ++ rest)
    (record { sign_is = w.0; marks_is = w.1 })
    ∙ ap (typed_answer kind more sign) (naive_answer-zeros (marks_of zeros) rest a.0
    (marks_of-zeros zeros z) a.1) ∙ same
