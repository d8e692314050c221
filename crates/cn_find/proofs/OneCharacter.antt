-- The numbers that one character can be.
use Rattle.std.proofs.Common.{◌≡◌, ◌⊎◌, inl, inr, ℕ, ◌<◌, ◌≤◌, ℤ, pos, ◌≤ℤ◌, Bool, true, false, List, [], ◌∷◌, chars, drop, filter, ◌+◌, ◌^◌, ◌==◌, nat_le, if◌then◌else◌, Option, Some, None, Result, Ok, Err, MatchBool, refl, sym, ap, subst, arith}
use Rattle.std.specs.Char.{is_not_whitespace}
use Rattle.std.specs.Option.{option_or}
use Rattle.std.proofs.lemmas.Bool.Decides.{nat_tests}
use Rattle.std.proofs.lemmas.Int.{ints}
use Rattle.cn_core.specs.declared.method.ChineseCountMethod.{ChineseCountMethod}
use Rattle.cn_core.specs.declared.sign.Sign.{Sign}
use Rattle.cn_core.specs.Characters.{digit_of, rank_of}
use Rattle.cn_core.specs.Judge.{Judges, RefusesBody, last_mark_answer, numeral_answer}
use Rattle.cn_core.specs.Mark.{Mark, unit, other, mark_from, mark_of}
use Rattle.cn_core.specs.Naive.{naive_answer, refused_or}
use Rattle.cn_core.specs.Numeral.{is_numeral}
use Rattle.cn_core.specs.Place.{body}
use Rattle.cn_core.specs.Reading.{Reads, is_minus, leading_sign, naive_reading, sign_len, typed_answer}
use Rattle.cn_core.specs.Refusal.{Refusal, empty, incorrect_at, too_large, too_small}
use Rattle.cn_core.specs.Text.{text_of, marks_of}
use Rattle.cn_core.specs.Whole.{Kind, signed_number}
use Rattle.cn_core.proofs.OpenUnits.{digit_of-low}
use Rattle.cn_find.specs.Flags.{is_one_character}
use Rattle.cn_find.specs.Number.{IsAnswer, is_plain}
use Rattle.cn_find.proofs.Types.{number-is}

-- a number of at most ten, or a refusal
abbrev IsSmall : Result ℕ Refusal → Type 0
IsSmall (Ok number) = number ≤ 10
IsSmall (Err refusal) = Unit {0}

naive-one : (d r : Option ℕ) → ((value : ℕ) → d ≡ Some value → value < 10)
    → IsSmall (naive_answer (mark_from d r ∷ []))
naive-one (Some value) r low = by (nat_le (2 ^ 128) (0 + value)) where
  by : (b : Bool)
      → IsSmall (refused_or (option_or (if b then Some too_large else None) None) (0 + value))
  by true = tt
  by false = let l = low value refl in omega arith
naive-one None (Some rank) low = tt
naive-one None None low = tt

either-refusal : (b : Bool) (x y : Refusal) → IsSmall (if b then Err x else Err y)
either-refusal true x y = tt
either-refusal false x y = tt

number-or : (b : Bool) (number : ℕ) (x : Refusal) → number ≤ 10
    → IsSmall (if b then Ok number else Err x)
number-or true number x low = low
number-or false number x low = tt

refused : (method : ChineseCountMethod) (mark : Mark) (judged : Result ℕ Refusal)
    → is_numeral (mark ∷ []) ≡ false → Judges method (mark ∷ []) judged → IsSmall judged
refused method mark judged e h =
    by (is_numeral (body (mark ∷ [])))
    (subst (λ b. MatchBool b (judged ≡ numeral_answer method (mark ∷ []))
    (MatchBool (is_numeral (body (mark ∷ []))) (judged ≡ last_mark_answer method (mark ∷ []))
    (RefusesBody method (body (mark ∷ [])) judged))) e h) where
      by : (b : Bool)
          → MatchBool b (judged ≡ last_mark_answer method (mark ∷ []))
          (RefusesBody method (body (mark ∷ [])) judged) → IsSmall judged
      by true h = subst IsSmall (sym h) (either-refusal _ _ _)
      by false (place, is_place, same) = subst IsSmall (sym same) (either-refusal _ _ _)

judged-ten : (method : ChineseCountMethod) (judged : Result ℕ Refusal)
    → Judges method (unit 1 ∷ []) judged → IsSmall judged
judged-ten method judged h = subst IsSmall (sym h) (number-or _ _ _ (omega arith))

judged-one : (method : ChineseCountMethod) (d r : Option ℕ) (judged : Result ℕ Refusal)
    → ((value : ℕ) → d ≡ Some value → value < 10) → Judges method (mark_from d r ∷ []) judged
    → IsSmall judged
judged-one method (Some value) r judged low h =
    let l = low value refl in subst IsSmall (sym h) (number-or _ _ _ (omega arith))
judged-one method None (Some rank) judged low h = by (rank == 1) refl where
  by : (b : Bool) → (rank == 1) ≡ b → IsSmall judged
  by true e =
      let one : rank ≡ 1 = grind (arith, nat_tests, e) in
      judged-ten method judged (subst (λ r. Judges method (unit r ∷ []) judged) one h)
  by false e = refused method (unit rank) judged (rw e) h
judged-one method None None judged low h = refused method other judged refl h

-- at most one mark, which is that of a character
abbrev IsShort : ℕ → List Mark → Type 0
IsShort c marks = (marks ≡ []) ⊎ (marks ≡ mark_of c ∷ [])

short-text : (c : ℕ) (text : List ℕ) (sign : Option Sign) → (text ≡ []) ⊎ (text ≡ c ∷ [])
    → IsShort c (marks_of (drop (sign_len sign) text))
short-text c text None (inl e) = inl (ap marks_of e)
short-text c text None (inr e) = inr (ap marks_of e)
short-text c text (Some sign) (inl e) = inl (ap (λ l. marks_of (drop 1 l)) e)
short-text c text (Some sign) (inr e) = inl (ap (λ l. marks_of (drop 1 l)) e)

dark-text : (c : ℕ)
    → (filter is_not_whitespace (c ∷ []) ≡ []) ⊎ (filter is_not_whitespace (c ∷ []) ≡ c ∷ [])
dark-text c = by (is_not_whitespace c) where
  by : (b : Bool) → ((if b then c ∷ [] else []) ≡ []) ⊎ ((if b then c ∷ [] else []) ≡ c ∷ [])
  by true = inr refl
  by false = inl refl

naive-small : (c : ℕ) (marks : List Mark) → IsShort c marks → IsSmall (naive_answer marks)
naive-small c marks (inl e) = subst (λ l. IsSmall (naive_answer l)) (sym e) tt
naive-small c marks (inr e) = subst (λ l. IsSmall (naive_answer l)) (sym e)
    (naive-one (digit_of c) (rank_of c) (digit_of-low c))

judged-small : (method : ChineseCountMethod) (c : ℕ) (marks : List Mark)
    (judged : Result ℕ Refusal) → IsShort c marks → Judges method marks judged → IsSmall judged
judged-small method c marks judged (inl e) h =
    subst IsSmall (sym (subst (λ l. Judges method l judged) e h)) tt
judged-small method c marks judged (inr e) h =
    judged-one method (digit_of c) (rank_of c) judged (digit_of-low c)
    (subst (λ l. Judges method l judged) e h)

signed-small : (minus : Bool) (magnitude : ℕ) → magnitude ≤ 10
    → signed_number minus magnitude ≤ℤ pos 10
signed-small false magnitude low = omega (arith, ints)
signed-small true magnitude low = omega (arith, ints)

answer-small : (kind : Kind) (bytes : List ℕ) (sign : Option Sign) (judged : Result ℕ Refusal)
    (number : ℤ) → IsSmall judged → Ok number ≡ typed_answer kind bytes sign judged
    → number ≤ℤ pos 10
answer-small kind bytes sign (Ok magnitude) number low h =
    subst (λ n. n ≤ℤ pos 10) (number-is kind (signed_number (is_minus sign) magnitude) number h)
    (signed-small (is_minus sign) magnitude low)
answer-small kind bytes sign (Err too_large) number low h = cc
answer-small kind bytes sign (Err too_small) number low h = cc
answer-small kind bytes sign (Err empty) number low h = cc
answer-small kind bytes sign (Err (incorrect_at place)) number low h = cc

one-char : (text : List ℕ) → is_one_character text ≡ true → (c : ℕ) × (text ≡ c ∷ [])
one-char [] h = cc
one-char (c ∷ []) h = (c, refl)
one-char (c ∷ next ∷ text) h = cc

pub at-most-ten : (kind : Kind) (method : ChineseCountMethod) (bytes : List ℕ) (number : ℤ)
    → is_one_character (chars bytes) ≡ true → IsAnswer kind method bytes (Ok number)
    → number ≤ℤ pos 10
at-most-ten kind method bytes number one answer = by (is_plain (chars bytes)) answer where
  sign : Option Sign
  sign = leading_sign kind.signed (text_of bytes)

  marks : List Mark
  marks = marks_of (drop (sign_len sign) (text_of bytes))

  c : ℕ
  c = (one-char (chars bytes) one).0

  short : IsShort c marks
  short = short-text c (text_of bytes) sign
      (subst (λ l. (filter is_not_whitespace l ≡ []) ⊎ (filter is_not_whitespace l ≡ c ∷ []))
      (sym (one-char (chars bytes) one).1) (dark-text c))

  by : (b : Bool)
      → MatchBool b (Ok number ≡ naive_reading kind bytes) (Reads kind method bytes (Ok number))
      → number ≤ℤ pos 10
  by true h =
      answer-small kind bytes sign (naive_answer marks) number (naive-small c marks short) h
  by false (judged, judges, same) =
      answer-small kind bytes sign judged number (judged-small method c marks judged short judges)
      same
