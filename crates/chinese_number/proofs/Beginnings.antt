-- A beginning of a written number is read as a number, once it is longer than the sign.
use Rattle.std.proofs.Common.{◌≡◌, ℕ, zero, suc, ◌<◌, ℤ, pos, nat_abs, int_lt, Bool, true, false, ◌==◌, if◌then◌else◌, List, [], ◌∷◌, ◌++◌, length, take, drop, encode_utf8_all, Ok, refl, sym, ap, subst, ◌∙◌, arith, take-append-drop}
use Rattle.std.proofs.lemmas.List.{take-map, length-take}
use Rattle.std.specs.List.{list_all}
use Rattle.cn_core.specs.declared.case.ChineseCase.{ChineseCase}
use Rattle.cn_core.specs.declared.method.ChineseCountMethod.{ChineseCountMethod}
use Rattle.cn_core.specs.declared.script.ChineseVariant.{ChineseVariant}
use Rattle.cn_core.specs.Characters.{minus_char}
use Rattle.cn_core.specs.Mark.{Mark, digit, unit, other}
use Rattle.cn_core.specs.Naive.{decimal_digits, decimal_value}
use Rattle.cn_core.specs.Numeral.{with_first_digit, starts_with_digit}
use Rattle.cn_core.specs.Spelling.{spelling}
use Rattle.cn_core.specs.Reading.{Reads, sign_len, is_minus, typed_answer, naive_reading}
use Rattle.cn_core.specs.Value.{numeral_value}
use Rattle.cn_core.specs.Whole.{signed_number, Kind, holds}
use Rattle.cn_core.specs.Printing.{mark_char, signed_text, signed_bytes, naive_text, spelled_text, is_printable}
use Rattle.cn_core.proofs.Beginnings.{starts-alike}
use Rattle.cn_core.proofs.Fronts.{and-left, list_all-front}
use Rattle.cn_core.proofs.ReadBack.{spelling-is_numeral}
use Rattle.chinese_number.specs.Digits.{is_digit}
use Rattle.chinese_number.specs.Parts.{sign_length}
use Rattle.chinese_number.proofs.PlainDigits.{decimal_is, starts, front-le, naive_answer-digits}
use Rattle.cn_spell.proofs.Printed.{is_printed}
use Rattle.chinese_number.proofs.Reading.{IsWhole, HasParts, HasParts-signed_text, Reads-parts, naive_reading-parts, minus_is_signed}
use Rattle.cn_spell.proofs.SignedNumbers.{held-smaller, typed_number-held, written_sign}
use Rattle.cn_spell.proofs.SpelledMarks.{below_square, spelling-printed, Judges-beginning}

-- it is written from a beginning of the marks
take-signed_text : (variant : ChineseVariant) (case : ChineseCase) (negative : Bool) (marks : List Mark) (count : ℕ) → sign_len (written_sign negative) < count
    → (kept : ℕ) × (0 < kept) × (take count (signed_text variant case negative marks) ≡ signed_text variant case negative (take kept marks))
take-signed_text variant case true marks zero h = absurd (omega (arith, h))
take-signed_text variant case true marks (suc kept) h = (kept, omega (arith, h), ap (λ l. minus_char variant ∷ l) (take-map (mark_char variant case) kept marks))
take-signed_text variant case false marks count h = (count, h, take-map (mark_char variant case) count marks)

not_empty : (marks : List Mark) → starts_with_digit (with_first_digit marks) ≡ true
    → 0 < length marks
not_empty [] h = cc
not_empty (mark ∷ rest) h = omega arith

starts-front : (front back : List Mark) → 0 < length front
    → starts_with_digit (with_first_digit (front ++ back)) ≡ true
    → starts_with_digit (with_first_digit front) ≡ true
starts-front [] back some h = absurd (omega (arith, some))
starts-front (digit value ∷ front) back some h = refl
starts-front (unit rank ∷ front) back some h =
    starts-alike (if rank == 1 then digit 10 else unit rank) (front ++ back) front h
starts-front (other ∷ front) back some h = h

-- whose parts are the same sign and that beginning
HasParts-beginning : (kind : Kind) (variant : ChineseVariant) (case : ChineseCase) (negative : Bool) (marks : List Mark) (count : ℕ) → (negative ≡ true → kind.signed ≡ true)
    → list_all is_printed marks ≡ true → starts_with_digit (with_first_digit marks) ≡ true → sign_length kind (signed_bytes variant case negative marks) < count
    → (kept : ℕ) × (0 < length (take kept marks)) × HasParts kind (encode_utf8_all (take count (signed_text variant case negative marks))) (written_sign negative) (take kept marks)
HasParts-beginning kind variant case negative marks count minus printed s longer =
    let t = take-signed_text variant case negative marks count (subst (λ sign. sign_len sign < count) (HasParts-signed_text kind variant case negative marks minus printed s).sign_is longer) in
    let front = take t.0 marks in
    let back = drop t.0 marks in
    let whole : marks ≡ front ++ back = sym (take-append-drop t.0 marks) in
    let some : 0 < length front = omega (arith, length-take t.0 marks, not_empty marks s, t.1) in (
      t.0,
      some,
      subst (λ text. HasParts kind (encode_utf8_all text) (written_sign negative) front) (sym t.2)
          (HasParts-signed_text kind variant case negative front minus (list_all-front is_printed front back (subst (λ l. list_all is_printed l ≡ true) whole printed))
          (starts-front front back some
          (subst (λ l. starts_with_digit (with_first_digit l) ≡ true) whole s))),
    )

-- by units
pub Reads-beginning : (kind : Kind) (method : ChineseCountMethod) (variant : ChineseVariant) (case : ChineseCase) (number : ℤ) (count : ℕ) → IsWhole kind → holds kind (pos 0) ≡ true → holds kind number ≡ true
    → is_printable method number ≡ true → let text = spelled_text variant case method number in sign_length kind (encode_utf8_all text) < count
    → (beginning : ℤ) × Reads kind method (encode_utf8_all (take count text)) (Ok beginning)
Reads-beginning kind method variant case number count whole none held printable longer =
    let small = whole.fits number held in
    let square = below_square method number small printable in
    let marks = spelling method (nat_abs number) in
    let negative = int_lt number (pos 0) in
    let s = and-left (starts_with_digit (with_first_digit marks)) _
    (spelling-is_numeral method (nat_abs number) square).0 in
    let b = HasParts-beginning kind variant case negative marks count (minus_is_signed kind number whole held) (spelling-printed method (nat_abs number) square) s longer in
    let front = take b.0 marks in
    let bytes = encode_utf8_all (take count (spelled_text variant case method number)) in
    let j = Judges-beginning method (nat_abs number) front (drop b.0 marks) small square b.1
    (take-append-drop b.0 marks) in
    let beginning = signed_number (is_minus (written_sign negative)) (numeral_value method front)
    in (
      beginning,
      subst (Reads kind method bytes)
          (typed_number-held kind beginning
          (held-smaller kind number (numeral_value method front) none held
          j.1)) (Reads-parts kind method bytes (written_sign negative) front
          (Ok (numeral_value method front)) b.2 j.0),
    )

-- and as plain digits
pub naive_reading-beginning : (kind : Kind) (variant : ChineseVariant) (case : ChineseCase) (number : ℤ) (count : ℕ) → IsWhole kind → holds kind (pos 0) ≡ true → holds kind number ≡ true
    → let text = naive_text variant case number in sign_length kind (encode_utf8_all text) < count
    → (beginning : ℤ) × (naive_reading kind (encode_utf8_all (take count text)) ≡ Ok beginning)
naive_reading-beginning kind variant case number count whole none held longer =
    let small = whole.fits number held in
    let d = decimal_is (nat_abs number) small in
    let marks = decimal_digits (nat_abs number) in
    let negative = int_lt number (pos 0) in
    let b = HasParts-beginning kind variant case negative marks count (minus_is_signed kind number whole held) d.printed (starts _ d.some) longer in
    let front = take b.0 marks in
    let bytes = encode_utf8_all (take count (naive_text variant case number)) in
    let most = front-le b.0 marks in
    let digits = list_all-front is_digit front (drop b.0 marks)
    (subst (λ l. list_all is_digit l ≡ true) (sym (take-append-drop b.0 marks)) d.digits) in
    let beginning = signed_number (is_minus (written_sign negative)) (decimal_value front) in (
      beginning,
      naive_reading-parts kind bytes (written_sign negative) front b.2
          ∙ ap (typed_answer kind bytes (written_sign negative))
          (naive_answer-digits front b.1 digits (omega (arith, most, d.value, small)))
          ∙ typed_number-held kind beginning
          (held-smaller kind number (decimal_value front) none held (omega (arith, most, d.value))),
    )
