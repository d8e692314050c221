-- What is printed as plain digits, by the standard method or either way is read back either way.
use Rattle.std.proofs.Common.{◌≡◌, ℕ, ℤ, pos, int_lt, nat_abs, nat_lt, nat_le, ◌^◌, ◌<◌, Bool, true, false, ◌&&◌, List, [], ◌∷◌, length, take, drop, decimal, encode_utf8_all, is_some, Option, Some, None, Result, Ok, if◌then◌else◌, refl, sym, ap, subst, ◌∙◌, arith, rules}
use Rattle.std.proofs.lemmas.Bool.Decides.{nat_tests}
use Rattle.std.specs.List.{list_all}
use Rattle.std.specs.Str.{IsUtf8}
use Rattle.cn_core.specs.declared.method.ChineseCountMethod.TheVariants.{TenThousand, Middle}
use Rattle.cn_core.specs.declared.method.ChineseCountMethod.{ChineseCountMethod}
use Rattle.cn_core.specs.declared.case.ChineseCase.{ChineseCase}
use Rattle.cn_core.specs.declared.script.ChineseVariant.{ChineseVariant}
use Rattle.cn_core.specs.declared.script.ChineseVariant.TheVariants.{Traditional, Simple}
use Rattle.cn_core.specs.declared.sign.Sign.{Sign}
use Rattle.cn_core.specs.Characters.{digit_of, rank_of}
use Rattle.cn_core.specs.Mark.{Mark, mark_from, digit, unit, other}
use Rattle.cn_core.specs.Naive.{decimal_digits, decimal_value}
use Rattle.cn_core.specs.Numeral.{IsNumeral, starts_with_digit, with_first_digit}
use Rattle.cn_core.specs.Printing.{signed_bytes, spelled_text}
use Rattle.cn_core.specs.Reading.{naive_reading, sign_len, typed_answer}
use Rattle.cn_core.specs.Refusal.{Refusal}
use Rattle.cn_core.specs.Spelling.{spelling}
use Rattle.cn_core.specs.Text.{text_of, marks_of}
use Rattle.cn_core.specs.Whole.{Kind, holds}
use Rattle.cn_core.proofs.Fronts.{and-left, and-right}
use Rattle.cn_core.proofs.ReadBack.{spelling-is_numeral}
use Rattle.cn_find.specs.Plain.{is_decimal}
use Rattle.cn_find.proofs.Agreement.{one-number}
use Rattle.chinese_number.specs.Digits.{is_digit}
use Rattle.chinese_number.specs.Number.{is_plain}
use Rattle.chinese_number.specs.Parts.{unsigned_text}
use Rattle.chinese_number.proofs.PlainDigits.{decimal_is, starts, naive_answer-digits}
use Rattle.cn_spell.proofs.Printed.{is_printed}
use Rattle.chinese_number.proofs.Reading.{IsWhole, HasParts, HasParts-signed_text, minus_is_signed, naive_reading-parts, typed_answer-held}
use Rattle.cn_spell.proofs.SignedNumbers.{written_sign}
use Rattle.cn_spell.proofs.SpelledMarks.{spelling-printed}
use Rattle.cn_dynamic.specs.Either.{either_way}
use Rattle.cn_dynamic.specs.declared.Way.{Way}
use Rattle.cn_dynamic.specs.declared.Way.TheVariants.{Digits, Units}
use Rattle.cn_dynamic.specs.Ways.{ReadsBy, written_by}
use Rattle.cn_dynamic.specs.declared.IntegerType.{IntegerType}
use Rattle.cn_spell.proofs.ReadByOther.{IsReadBy, IsReadBy-middle}
use Rattle.cn_c.specs.declared.codes.NamedWay.{NamedWay}
use Rattle.cn_c.specs.declared.codes.NamedWay.TheVariants.{By, Either}
use Rattle.cn_c.specs.declared.number.Number.{Number}
use Rattle.cn_c.specs.Codes.{CN_DONE}
use Rattle.cn_c.specs.Prints.{PutsIfItFits, PutsWritten, IsPrintedAs, way_written}
use Rattle.cn_c.proofs.ReadBack.{put-text, IsAnswered, ReadsBackAs, own-read, read-by, read-named, read-spelled}

-- a text is plain digits if each of its marks is a digit
plain-marks : (text : List ℕ) → is_plain text ≡ list_all is_digit (marks_of text)
plain-marks [] = refl
plain-marks (c ∷ text) = by (digit_of c) (rank_of c) (plain-marks text) where
  by : (d r : Option ℕ) → is_plain text ≡ list_all is_digit (marks_of text)
      → (is_some d && is_plain text) ≡ (is_digit (mark_from d r) && list_all is_digit (marks_of text))
  by (Some value) r h = h
  by None (Some rank) h = refl
  by None None h = refl

plain-parts : (kind : Kind) (bytes : List ℕ) (sign : Option Sign) (marks : List Mark)
    → HasParts kind bytes sign marks
    → is_plain (unsigned_text kind bytes) ≡ list_all is_digit marks
plain-parts kind bytes sign marks parts =
    plain-marks (unsigned_text kind bytes)
    ∙ ap (list_all is_digit)
    (ap (λ s. marks_of (drop (sign_len s) (text_of bytes))) parts.sign_is ∙ parts.marks_is)

abbrev way_of : Bool → Way
way_of plain = if plain then Digits else Units TenThousand

pub either-digits : IsAnswered (By Digits) Either
either-digits kind script case number old new len whole held h =
    let small = whole.fits number held in
    let d = decimal_is (nat_abs number) small in
    let negative = int_lt number (pos 0) in
    let marks = decimal_digits (nat_abs number) in
    let bytes = signed_bytes script case negative marks in
    let text : take len new ≡ bytes = put-text bytes old new len h in
    let parts = HasParts-signed_text kind script case negative marks (minus_is_signed kind number whole held) d.printed (starts (decimal (nat_abs number)) d.some) in
    let way : either_way kind (take len new) ≡ Digits =
    ap (either_way kind) text
    ∙ ap way_of (plain-parts kind bytes (written_sign negative) marks parts ∙ d.digits) in
    let back = read-by kind Digits script case number old new len whole held h in (
      back.0,
      λ answer r. back.1 answer (subst (λ w. ReadsBy kind w (take len new) answer) way r),
    )

-- printed digits are those of the decimal system
decimals : (marks : List Mark) → list_all is_printed marks ≡ true
    → list_all is_digit marks ≡ true → list_all is_decimal marks ≡ true
decimals [] printed digits = refl
decimals (digit value ∷ rest) printed digits =
    let low : nat_le value 9 ≡ true =
    (let ten = and-left (nat_lt value 10) _ printed in grind (arith, nat_tests, ten)) in
    rw low (decimals rest (and-right (nat_lt value 10) _ printed) digits)
decimals (unit rank ∷ rest) printed digits = cc
decimals (other ∷ rest) printed digits = cc

some : (marks : List Mark) → starts_with_digit (with_first_digit marks) ≡ true → 0 < length marks
some [] h = cc
some (mark ∷ rest) h = omega arith

either-spelled : (write : ChineseCountMethod) (kind : Kind) (script : ChineseVariant) (case : ChineseCase) (number : ℤ)
    (old new : List ℕ) (len : ℕ) → IsWhole kind → holds kind number ≡ true
    → IsReadBy write TenThousand (nat_abs number)
    → PutsIfItFits (encode_utf8_all (spelled_text script case write number)) old CN_DONE new len
    → IsUtf8 (take len new) × ((answer : Result ℤ Refusal)
    → ReadsBy kind (either_way kind (take len new)) (take len new) answer → answer ≡ Ok number)
either-spelled write kind script case number old new len whole held is h = (back.0, answered) where
  small : nat_abs number < 2 ^ 128
  small = whole.fits number held

  negative : Bool
  negative = int_lt number (pos 0)

  marks : List Mark
  marks = spelling write (nat_abs number)

  bytes : List ℕ
  bytes = signed_bytes script case negative marks

  numeral : IsNumeral marks
  numeral = (spelling-is_numeral write (nat_abs number) is.square).0

  starts_so : starts_with_digit (with_first_digit marks) ≡ true
  starts_so = and-left (starts_with_digit (with_first_digit marks)) _ numeral

  printed : list_all is_printed marks ≡ true
  printed = spelling-printed write (nat_abs number) is.square

  text : take len new ≡ bytes
  text = put-text bytes old new len h

  parts : HasParts kind bytes (written_sign negative) marks
  parts = HasParts-signed_text kind script case negative marks (minus_is_signed kind number whole held) printed starts_so

  way : (plain : Bool) → list_all is_digit marks ≡ plain → either_way kind (take len new) ≡ way_of plain
  way plain e = ap (either_way kind) text ∙ ap way_of (plain-parts kind bytes (written_sign negative) marks parts ∙ e)

  back : IsUtf8 (take len new) × ((answer : Result ℤ Refusal)
      → ReadsBy kind (Units TenThousand) (take len new) answer → answer ≡ Ok number)
  back = read-spelled kind write TenThousand script case number old new len whole held is h

  as_digits : list_all is_digit marks ≡ true → naive_reading kind (take len new) ≡ Ok number
  as_digits digits =
      let value : decimal_value marks ≡ nat_abs number =
      sym (one-number TenThousand marks (decimals marks printed digits) (search (rules, numeral))) ∙ is.value in
      ap (naive_reading kind) text
      ∙ naive_reading-parts kind bytes (written_sign negative) marks parts
      ∙ ap (typed_answer kind bytes (written_sign negative))
      (naive_answer-digits marks (some marks starts_so) digits (omega (arith, value, small)) ∙ ap Ok value)
      ∙ typed_answer-held kind number bytes held

  by : (plain : Bool) → list_all is_digit marks ≡ plain → (answer : Result ℤ Refusal)
      → ReadsBy kind (way_of plain) (take len new) answer → answer ≡ Ok number
  by true e answer r = r ∙ as_digits e
  by false e answer r = back.1 answer r

  answered : (answer : Result ℤ Refusal) → ReadsBy kind (either_way kind (take len new)) (take len new) answer → answer ≡ Ok number
  answered answer r = by (list_all is_digit marks) refl answer
      (subst (λ w. ReadsBy kind w (take len new) answer) (way (list_all is_digit marks) refl) r)

pub either-ten_thousand : IsAnswered (By (Units TenThousand)) Either
either-ten_thousand kind script case number old new len whole held h =
    either-spelled TenThousand kind script case number old new len whole held
    (own-read kind TenThousand number whole held refl) h

either-simple : (kind : Kind) (case : ChineseCase) (number : ℤ) (old new : List ℕ) (len : ℕ)
    → IsWhole kind → holds kind number ≡ true
    → PutsWritten (written_by (way_written Either Simple (nat_abs number)) Simple case number) old CN_DONE new len
    → IsUtf8 (take len new) × ((answer : Result ℤ Refusal)
    → ReadsBy kind (either_way kind (take len new)) (take len new) answer → answer ≡ Ok number)
either-simple kind case number old new len whole held h = by (nat_lt (nat_abs number) (10 ^ 16)) refl h where
  by : (b : Bool) → nat_lt (nat_abs number) (10 ^ 16) ≡ b
      → PutsWritten (written_by (Units (if b then Middle else TenThousand)) Simple case number) old CN_DONE new len
      → IsUtf8 (take len new) × ((answer : Result ℤ Refusal)
      → ReadsBy kind (either_way kind (take len new)) (take len new) answer → answer ≡ Ok number)
  by true e h =
      either-spelled Middle kind Simple case number old new len whole held
      (IsReadBy-middle (nat_abs number) (grind (arith, nat_tests, e))) h
  by false e h = either-ten_thousand kind Simple case number old new len whole held h

pub either-either : IsAnswered Either Either
either-either kind Traditional case number old new len whole held h =
    either-ten_thousand kind Traditional case number old new len whole held h
either-either kind Simple case number old new len whole held h =
    either-simple kind case number old new len whole held h

-- so what is printed in any of these ways is read in that way
pub read-back : (number : Number) (kind : Option IntegerType) (way : Option NamedWay) (script : Option ChineseVariant) (case : Option ChineseCase) (old new : List ℕ) (len : ℕ)
    → IsPrintedAs number kind way script case old CN_DONE new len
    → ReadsBackAs (take len new) kind way number
read-back number None None script case old new len h = absurd (omega (arith, h.0))
read-back number (Some kind) None script case old new len h = absurd (omega (arith, h.0))
read-back number kind (Some (By way)) script case old new len h =
    read-named (By way) (By way) (λ kind. read-by kind way) number kind script case old new len h
read-back number kind (Some Either) script case old new len h =
    read-named Either Either either-either number kind script case old new len h
