-- Numerals alone are answered by a number.
use Rattle.std.proofs.Common.{◌≡◌, ◌⊎◌, inl, inr, ℕ, ◌+◌, ◌-◌, ◌^◌, ◌<◌, ℤ, nat_abs, Bool, true, false, not, ◌&&◌, nat_lt, MatchBool, if◌then◌else◌, List, [], ◌∷◌, length, Result, Ok, Err, is_ok, refl, sym, ap, subst, ◌∙◌, arith, true≢false}
use Rattle.cn_core.specs.declared.method.ChineseCountMethod.{ChineseCountMethod}
use Rattle.cn_core.specs.Judge.{Judges, RefusesBody, numeral_answer, last_mark_answer}
use Rattle.cn_core.specs.Mark.{Mark}
use Rattle.cn_core.specs.Numeral.{IsNumeral, is_numeral}
use Rattle.cn_core.specs.Place.{IsPlace, body, is_early, some_unfit}
use Rattle.cn_core.specs.Refusal.{Refusal, empty, incorrect_at, too_large, too_small}
use Rattle.cn_core.specs.Text.{marks_of}
use Rattle.cn_core.specs.Reading.{Reads, is_minus, typed_number, typed_answer}
use Rattle.cn_core.specs.Value.{numeral_value}
use Rattle.cn_core.specs.Whole.{signed_number, Kind, holds}
use Rattle.chinese_number.specs.Parts.{sign_at, unsigned_text}
use Rattle.chinese_number.proofs.Reading.{IsWhole, Reads-parts, held-typed_number, held_is, size_of}
use Rattle.cn_spell.proofs.SignedNumbers.{typed_number-held}
use Rattle.cn_spell.proofs.SpelledMarks.{Judges-numeral}

-- what a text that is judged as a number is like
pub record IsJudged (method : ChineseCountMethod) (marks : List Mark) (number : ℕ) : Type 0 where
  pub numeral : IsNumeral marks
  pub fits : some_unfit method marks ≡ false
  pub value : numeral_value method marks ≡ number

judged_numeral : (method : ChineseCountMethod) (marks : List Mark) (number : ℕ) → IsNumeral marks
    → Ok number ≡ numeral_answer method marks → IsJudged method marks number
judged_numeral method marks number n h =
    by (some_unfit method marks) (nat_lt (numeral_value method marks) (2 ^ 128)) refl h where
      by : (u s : Bool) → some_unfit method marks ≡ u
          → ◌≡◌ {A = Result ℕ Refusal} (Ok number)
          (if not u && s then Ok (numeral_value method marks) else Err too_large)
          → IsJudged method marks number
      by true s e h = cc
      by false false e h = cc
      by false true e h = record { numeral = n; fits = e; value = cc }

last_no_number : (method : ChineseCountMethod) (marks : List Mark) (number : ℕ)
    → ¬ (Ok number ≡ last_mark_answer method marks)
last_no_number method marks number h = by (is_ok (numeral_answer method (body marks))) h where
  by : (b : Bool) → ¬ (◌≡◌ {A = Result ℕ Refusal} (Ok number)
      (if b then Err (incorrect_at (length marks - 1)) else Err too_large))
  by true h = cc
  by false h = cc

body_no_number : (method : ChineseCountMethod) (marks : List Mark) (number : ℕ)
    → ¬ RefusesBody method marks (Ok number)
body_no_number method marks number (place, at_place, is) = by (is_early method marks place) is where
  by : (b : Bool) → ¬ (◌≡◌ {A = Result ℕ Refusal} (Ok number)
      (if b then Err too_large else Err (incorrect_at place)))
  by true h = cc
  by false h = cc

IsJudged-number : (method : ChineseCountMethod) (marks : List Mark) (number : ℕ)
    → Judges method marks (Ok number) → IsJudged method marks number
IsJudged-number method [] number h = cc
IsJudged-number method (mark ∷ rest) number h =
    by (is_numeral marks) (is_numeral (body marks)) refl h where
      marks : List Mark
      marks = mark ∷ rest

      by : (b c : Bool) → is_numeral marks ≡ b
          → MatchBool b (Ok number ≡ numeral_answer method marks)
          (MatchBool c (Ok number ≡ last_mark_answer method marks)
          (RefusesBody method (body marks) (Ok number)))
          → IsJudged method marks number
      by true c e h = judged_numeral method marks number e h
      by false true e h = absurd (last_no_number method marks number h)
      by false false e h = absurd (body_no_number method (body marks) number h)

-- what a text that is refused at a place is like
pub refused_part : (method : ChineseCountMethod) (marks : List Mark) (place : ℕ)
    → Judges method marks (Err (incorrect_at place))
    → ¬ IsNumeral marks × (((is_numeral (body marks) ≡ false) × IsPlace (body marks) place)
    ⊎ (IsNumeral (body marks) × (place + 1 ≡ length marks)))
refused_part method [] place h = cc
refused_part method (mark ∷ rest) place h =
    by (is_numeral marks) (is_numeral (body marks)) refl refl h where
      marks : List Mark
      marks = mark ∷ rest

      numeral : ¬ (Err (incorrect_at place) ≡ numeral_answer method marks)
      numeral e = in_numeral (not (some_unfit method marks)
          && nat_lt (numeral_value method marks) (2 ^ 128)) e where
            in_numeral : (b : Bool) → ¬ (◌≡◌ {A = Result ℕ Refusal} (Err (incorrect_at place))
                (if b then Ok (numeral_value method marks) else Err too_large))
            in_numeral true e = cc
            in_numeral false e = cc

      last : Err (incorrect_at place) ≡ last_mark_answer method marks → place + 1 ≡ length marks
      last e = in_last (is_ok (numeral_answer method (body marks))) e where
        in_last : (b : Bool) → ◌≡◌ {A = Result ℕ Refusal} (Err (incorrect_at place))
            (if b then Err (incorrect_at (length marks - 1)) else Err too_large)
            → place + 1 ≡ length marks
        in_last true e = let at_last : place ≡ length marks - 1 = cc in omega (arith, at_last)
        in_last false e = cc

      inside : RefusesBody method (body marks) (Err (incorrect_at place))
          → IsPlace (body marks) place
      inside (p, at_p, is) = in_body (is_early method (body marks) p) is where
        in_body : (b : Bool) → ◌≡◌ {A = Result ℕ Refusal} (Err (incorrect_at place))
            (if b then Err too_large else Err (incorrect_at p)) → IsPlace (body marks) place
        in_body true e = cc
        in_body false e = let same : p ≡ place = cc in subst (IsPlace (body marks)) same at_p

      by : (b c : Bool) → is_numeral marks ≡ b → is_numeral (body marks) ≡ c
          → MatchBool b (Err (incorrect_at place) ≡ numeral_answer method marks)
          (MatchBool c (Err (incorrect_at place) ≡ last_mark_answer method marks)
          (RefusesBody method (body marks) (Err (incorrect_at place))))
          → ¬ IsNumeral marks × (((is_numeral (body marks) ≡ false) × IsPlace (body marks) place)
          ⊎ (IsNumeral (body marks) × (place + 1 ≡ length marks)))
      by true c e f h = absurd (numeral h)
      by false true e f h = (λ n. true≢false (sym n ∙ e), inr (f, last h))
      by false false e f h = (λ n. true≢false (sym n ∙ e), inl (f, inside h))

pub refused_at : (method : ChineseCountMethod) (marks : List Mark) (place : ℕ)
    → Judges method marks (Err (incorrect_at place))
    → ¬ IsNumeral marks × (IsPlace (body marks) place
    ⊎ (IsNumeral (body marks) × (place + 1 ≡ length marks)))
refused_at method marks place h =
    let refused = refused_part method marks place h in (
      refused.0,
      elim refused.1 [
        | inl at ↦ inl at.1
        | inr at ↦ inr at
      ],
    )

-- exactly numerals whose scales and signed value fit are answered by that value
pub Reads-number : (kind : Kind) (method : ChineseCountMethod) (bytes : List ℕ) (number : ℤ)
    → Reads kind method bytes (Ok number)
    → let marks = marks_of (unsigned_text kind bytes) in
    IsNumeral marks × (some_unfit method marks ≡ false)
    × (signed_number (is_minus (sign_at kind bytes)) (numeral_value method marks) ≡ number)
    × holds kind number ≡ true
Reads-number kind method bytes number (judged, is, answer) = by judged is (sym answer) where
  marks : List Mark
  marks = marks_of (unsigned_text kind bytes)

  by : (judged : Result ℕ Refusal) → Judges method marks judged
      → typed_answer kind bytes (sign_at kind bytes) judged ≡ Ok number
      → IsNumeral marks × (some_unfit method marks ≡ false)
      × (signed_number (is_minus (sign_at kind bytes)) (numeral_value method marks) ≡ number)
      × holds kind number ≡ true
  by (Err empty) is h = cc
  by (Err (incorrect_at place)) is h = cc
  by (Err too_large) is h = cc
  by (Err too_small) is h = cc
  by (Ok magnitude) is h =
      let j = IsJudged-number method marks magnitude is in (
        j.numeral,
        j.fits,
        ap (signed_number (is_minus (sign_at kind bytes))) j.value
            ∙ held_is kind (signed_number (is_minus (sign_at kind bytes)) magnitude) number h,
        held-typed_number kind (signed_number (is_minus (sign_at kind bytes)) magnitude) number h,
      )

pub Reads-numeral : (kind : Kind) (method : ChineseCountMethod) (bytes : List ℕ) (number : ℤ)
    → IsWhole kind
    → let marks = marks_of (unsigned_text kind bytes) in
    IsNumeral marks × (some_unfit method marks ≡ false)
    × (signed_number (is_minus (sign_at kind bytes)) (numeral_value method marks) ≡ number)
    × holds kind number ≡ true
    → Reads kind method bytes (Ok number)
Reads-numeral kind method bytes number whole (numeral, fits, is, held) =
    let sign = sign_at kind bytes in
    let marks = marks_of (unsigned_text kind bytes) in
    let size = numeral_value method marks in
    let small : size < 2 ^ 128 = omega (
      arith,
      whole.fits number held,
      size_of sign size,
      ap nat_abs is,
    ) in
    subst (Reads kind method bytes) (ap (typed_number kind) is ∙ typed_number-held kind number held)
    (Reads-parts kind method bytes sign marks (Ok size)
    (record { sign_is = refl; marks_is = refl }) (Judges-numeral method marks size numeral fits
    refl small))
