-- What is read as a number is that number as a quantity.
use Rattle.std.proofs.Common.{◌≡◌, ℕ, ℤ, ◌^◌, ◌<◌, Bool, true, false, nat_le, List, [], ◌∷◌, length, drop, Option, Some, None, is_some, Result, Ok, Err, refl, sym, ap, ◌∙◌, arith, rules, if◌then◌else◌}
use Rattle.std.specs.List.{list_all}
use Rattle.std.proofs.lemmas.Bool.Decides.{nat_tests}
use Rattle.cn_core.specs.declared.method.ChineseCountMethod.{ChineseCountMethod}
use Rattle.cn_core.specs.declared.sign.Sign.{Sign}
use Rattle.cn_core.specs.Characters.{digit_of, rank_of}
use Rattle.cn_core.specs.Judging.{judge}
use Rattle.cn_core.specs.Mark.{Mark, digit, mark_from, mark_of}
use Rattle.cn_core.specs.Naive.{decimal_value, naive_answer}
use Rattle.cn_core.specs.Numeral.{is_numeral}
use Rattle.cn_core.specs.Reading.{Reads, is_minus, leading_sign, naive_reading, sign_len, typed_answer, typed_number}
use Rattle.cn_core.specs.Refusal.{Refusal, empty, incorrect_at, too_large, too_small}
use Rattle.cn_core.specs.Text.{marks_of, text_of}
use Rattle.cn_core.specs.Whole.{signed_kind, signed_number}
use Rattle.cn_core.proofs.Fronts.{and-left, and-right, both}
use Rattle.cn_core.proofs.Judging.{Judges-judge, Judges-same}
use Rattle.cn_find.specs.Plain.{is_decimal}
use Rattle.cn_find.proofs.Agreement.{one-number}
use Rattle.cn_quantity.specs.declared.quantity.QuantityForm.TheVariants.{Whole}
use Rattle.cn_quantity.specs.Misread.{first_misread, is_misread}
use Rattle.cn_quantity.specs.Reading.{quantity_answer}
use Rattle.cn_quantity.specs.WholeNumber.{is_plain, reader_answer}
use Rattle.cn_quantity.proofs.NumeralsAreQuantities.{answered-numeral, digit-low, judged-numeral, numeral-ratio, plain-marks, plain-ratio, quantity-today}
use Rattle.cn_quantity.proofs.WholeNumbers.{whole-reader}
use Rattle.chinese_number.specs.Digits.{is_digit}
use Rattle.chinese_number.specs.Parts.{unsigned_text}
use Rattle.chinese_number.proofs.PlainDigits.{IsPlain-answered, naive_answer-digits}

-- plain digits as marks
plain-mark : (c : ℕ) → is_some (digit_of c) ≡ true
    → (is_decimal (mark_of c) ≡ true) × (is_digit (mark_of c) ≡ true)
plain-mark c some = by (digit_of c) refl some where
  by : (d : Option ℕ) → digit_of c ≡ d → is_some d ≡ true
      → (is_decimal (mark_of c) ≡ true) × (is_digit (mark_of c) ≡ true)
  by None is some = cc
  by (Some v) is some =
      let mark : mark_of c ≡ digit v = ap (λ d. mark_from d (rank_of c)) is in
      let low : nat_le v 9 ≡ true = grind (arith, nat_tests, digit-low c v is) in
      (rw mark low, rw mark refl)

plain-decimals : (text : List ℕ) → is_plain text ≡ true
    → (list_all is_decimal (marks_of text) ≡ true) × (list_all is_digit (marks_of text) ≡ true)
plain-decimals [] h = (refl, refl)
plain-decimals (c ∷ rest) h =
    let first = plain-mark c (and-left (is_some (digit_of c)) (is_plain rest) h) in
    let others = plain-decimals rest (and-right (is_some (digit_of c)) (is_plain rest) h) in (
      both (is_decimal (mark_of c)) (list_all is_decimal (marks_of rest)) first.0 others.0,
      both (is_digit (mark_of c)) (list_all is_digit (marks_of rest)) first.1 others.1,
    )

digits-plain : (text : List ℕ) → list_all is_digit (marks_of text) ≡ true → is_plain text ≡ true
digits-plain [] h = refl
digits-plain (c ∷ rest) h =
    both (is_some (digit_of c)) (is_plain rest)
    (by (digit_of c) (rank_of c)
    (and-left (is_digit (mark_of c)) (list_all is_digit (marks_of rest)) h))
    (digits-plain rest
    (and-right (is_digit (mark_of c)) (list_all is_digit (marks_of rest)) h)) where
      by : (d r : Option ℕ) → is_digit (mark_from d r) ≡ true → is_some d ≡ true
      by (Some v) r h = refl
      by None (Some rank) h = cc
      by None None h = cc

-- a numeral is answered as a whole number, plain digits or not
reader-judged : (method : ChineseCountMethod) (text : List ℕ) (number : ℕ)
    → judge method (marks_of text) ≡ Ok number → reader_answer method text ≡ Ok number
reader-judged method text number h = by (is_plain text) refl where
  by : (b : Bool) → is_plain text ≡ b
      → (if b then naive_answer (marks_of text) else judge method (marks_of text)) ≡ Ok number
  by false e = h
  by true e =
      let numeral = judged-numeral method (marks_of text) number h in
      let answered = answered-numeral method (marks_of text) number numeral.1 in
      let plain = plain-decimals text e in
      let same : decimal_value (marks_of text) ≡ number =
      sym (one-number method (marks_of text) plain.0 (search (rules, numeral.0))) ∙ answered.1 in
      let small : decimal_value (marks_of text) < 2 ^ 128 = rw same answered.2 in
      naive_answer-digits (marks_of text) (some (marks_of text) numeral.0) plain.1 small
      ∙ ap Ok same where
        some : (marks : List Mark) → is_numeral marks ≡ true → 0 < length marks
        some [] h = cc
        some (mark ∷ rest) h = omega arith

-- a text that is not misread has no first misread character
none-misread : (text : List ℕ) → is_misread text ≡ false → first_misread text ≡ None
none-misread text h = by (first_misread text) refl h where
  by : (found : Option ℕ) → first_misread text ≡ found → is_some found ≡ false
      → first_misread text ≡ None
  by None e h = e
  by (Some place) e h = cc

-- where the answer for a type is a number, so is the judgement
typed-from : (bytes : List ℕ) (sign : Option Sign) (judged : Result ℕ Refusal) (number : ℤ)
    → Ok number ≡ typed_answer (signed_kind 128) bytes sign judged
    → (magnitude : ℕ) × (judged ≡ Ok magnitude)
    × (typed_number (signed_kind 128) (signed_number (is_minus sign) magnitude) ≡ Ok number)
typed-from bytes sign (Ok magnitude) number h = (magnitude, refl, sym h)
typed-from bytes sign (Err empty) number h = cc
typed-from bytes sign (Err (incorrect_at place)) number h = cc
typed-from bytes sign (Err too_small) number h = cc
typed-from bytes sign (Err too_large) number h = cc

pub numeral-stays : (method : ChineseCountMethod) (bytes : List ℕ) (number : ℤ)
    → Reads (signed_kind 128) method bytes (Ok number)
    → is_misread (unsigned_text (signed_kind 128) bytes) ≡ false
    → quantity_answer method bytes
    ≡ Ok (record { numerator = number; denominator = 1; form = Whole })
numeral-stays method bytes number (judged, judges, is) clear =
    let sign = leading_sign true (text_of bytes) in
    let text = drop (sign_len sign) (text_of bytes) in
    let found = typed-from bytes sign judged number is in
    let computed : judge method (marks_of text) ≡ Ok found.0 =
    Judges-same method (marks_of text) (judge method (marks_of text)) judged
    (Judges-judge method (marks_of text)) judges ∙ found.1 in
    let ratio = numeral-ratio method text found.0 computed
    (whole-reader method text (none-misread text clear) ∙ reader-judged method text found.0 computed) in
    quantity-today method bytes number found.0 ratio.0 ratio.1 found.2

pub plain-stays : (method : ChineseCountMethod) (bytes : List ℕ) (number : ℤ)
    → naive_reading (signed_kind 128) bytes ≡ Ok number
    → is_misread (unsigned_text (signed_kind 128) bytes) ≡ false
    → quantity_answer method bytes
    ≡ Ok (record { numerator = number; denominator = 1; form = Whole })
plain-stays method bytes number h clear =
    let sign = leading_sign true (text_of bytes) in
    let text = drop (sign_len sign) (text_of bytes) in
    let found = typed-from bytes sign (naive_answer (marks_of text)) number (sym h) in
    let plain = IsPlain-answered (marks_of text) found.0 found.1 in
    let all = digits-plain text plain.digits in
    let small : decimal_value (marks_of text) < 2 ^ 128 = rw plain.value plain.small in
    let answered : naive_answer (marks_of text) ≡ Ok (decimal_value (marks_of text)) =
    found.1 ∙ ap Ok (sym plain.value) in
    let held : typed_number (signed_kind 128)
    (signed_number (is_minus sign) (decimal_value (marks_of text))) ≡ Ok number =
    rw plain.value found.2 in
    quantity-today method bytes number (decimal_value (marks_of text)) (plain-marks text all)
    (plain-ratio method text all (none-misread text clear) small answered) held
