-- What is printed is read back as the same number.
use Rattle.std.proofs.Common.{◌≡◌, ℕ, ◌-◌, ◌^◌, ◌<◌, ◌≤◌, ℤ, pos, int_lt, nat_abs, nat_le, Bool, true, false, MatchBool, MatchOption, List, [], ◌∷◌, ◌++◌, length, take, drop, encode_utf8_all, Option, Some, None, Result, Ok, Err, if◌then◌else◌, refl, ◌∙◌, arith}
use Rattle.std.proofs.Math.Seq.{take-append_seam}
use Rattle.std.proofs.lemmas.Int.{ints}
use Rattle.std.proofs.lemmas.Str.{IsUtf8-nil, IsUtf8-append, IsUtf8-encode, is_utf8-from_IsUtf8}
use Rattle.std.specs.List.{list_all}
use Rattle.std.specs.Str.{IsUtf8, all_scalars}
use Rattle.cn_core.specs.declared.case.ChineseCase.{ChineseCase}
use Rattle.cn_core.specs.declared.script.ChineseVariant.{ChineseVariant}
use Rattle.cn_core.specs.declared.method.ChineseCountMethod.{ChineseCountMethod}
use Rattle.cn_core.specs.Reading.{Reads}
use Rattle.cn_core.specs.Refusal.{Refusal, too_large, too_small}
use Rattle.cn_core.specs.Spelling.{spelling}
use Rattle.cn_core.specs.Whole.{Kind, holds, unsigned_kind, signed_kind}
use Rattle.cn_core.specs.Printing.{signed_text, naive_text, spelled_text, is_printable}
use Rattle.cn_core.specs.Mark.{Mark}
use Rattle.cn_core.proofs.Fronts.{and-left, and-right}
use Rattle.cn_spell.proofs.NaiveTexts.{three-naive}
use Rattle.cn_core.proofs.Characters.{takes_three}
use Rattle.cn_spell.proofs.ThreeBytes.{IsUtf8-three, three-minus}
use Rattle.chinese_number.proofs.PlainDigits.{naive_reading-signed_text}
use Rattle.cn_spell.proofs.Printed.{is_printed, IsReadBack-marks}
use Rattle.chinese_number.proofs.Reading.{IsWhole, Reads-by, Reads-same}
use Rattle.cn_spell.proofs.ReadByOther.{IsReadBy, IsReadBy-own}
use Rattle.cn_spell.proofs.SpelledMarks.{below_square, spelling-printed}
use Rattle.cn_dynamic.specs.declared.IntegerType.{IntegerType}
use Rattle.cn_dynamic.specs.declared.IntegerType.TheVariants.{U8, U16, U32, U64, U128, I8, I16, I32, I64, I128}
use Rattle.cn_dynamic.specs.declared.Way.{Way}
use Rattle.cn_dynamic.specs.declared.Way.TheVariants.{Digits, Units}
use Rattle.cn_c.specs.declared.number.Number.{Number}
use Rattle.cn_c.specs.declared.reading.Reading.{Reading}
use Rattle.cn_dynamic.specs.IntegerTypes.{the_kind}
use Rattle.cn_dynamic.specs.Ways.{ReadsBy, unprintable, written_by}
use Rattle.cn_c.specs.declared.codes.NamedWay.{NamedWay}
use Rattle.cn_c.specs.Codes.{CN_DONE, refusal_status}
use Rattle.cn_c.specs.Halves.{number_of}
use Rattle.cn_c.specs.Prints.{PutsNothing, PutsIfItFits, PutsWritten, PrintsNumber, IsPrintedAs, way_written}
use Rattle.cn_c.specs.Reads.{Tells, ReadsInto, IsReadAs, way_meant}

-- the text is written if the status is DONE
pub put-text : (text old new : List ℕ) (len : ℕ) → PutsIfItFits text old CN_DONE new len
    → take len new ≡ text
put-text text old new len = by (nat_le (length text) (length old)) where
  by : (b : Bool) → MatchBool b ((CN_DONE ≡ 0) × (new ≡ text ++ drop (length text) old)
      × (len ≡ length text)) ((CN_DONE ≡ 6) × (new ≡ old) × (len ≡ length text))
      → take len new ≡ text
  by true p = rw (p.1, p.2) (take-append_seam text (drop (length text) old))
  by false p = absurd (omega (arith, p.0))

-- written characters are UTF-8
pub utf8-scalars : (text : List ℕ) → all_scalars text ≡ true → IsUtf8 (encode_utf8_all text)
utf8-scalars [] h = IsUtf8-nil
utf8-scalars (c ∷ text) h = IsUtf8-append _ _ (IsUtf8-encode c (and-left _ (all_scalars text) h))
    (utf8-scalars text (and-right _ (all_scalars text) h))

utf8-three : (text : List ℕ) → list_all takes_three text ≡ true → IsUtf8 (encode_utf8_all text)
utf8-three [] h = IsUtf8-nil
utf8-three (c ∷ text) h = IsUtf8-append _ _ (IsUtf8-three c (and-left (takes_three c) _ h))
    (utf8-three text (and-right (takes_three c) _ h))

utf8-signed_text : (variant : ChineseVariant) (case : ChineseCase) (negative : Bool) (marks : List Mark) → list_all is_printed marks ≡ true → IsUtf8 (encode_utf8_all (signed_text variant case negative marks))
utf8-signed_text variant case true marks h = IsUtf8-append _ _ (IsUtf8-three _ (three-minus variant)) (utf8-scalars _ (IsReadBack-marks variant case marks h).scalars)
utf8-signed_text variant case false marks h = utf8-scalars _ (IsReadBack-marks variant case marks h).scalars

-- a number that one method spells is read by another method that reads it
pub read-spelled : (kind : Kind) (write read : ChineseCountMethod) (script : ChineseVariant) (case : ChineseCase) (number : ℤ) (old new : List ℕ) (len : ℕ) → IsWhole kind → holds kind number ≡ true
    → IsReadBy write read (nat_abs number)
    → PutsIfItFits (encode_utf8_all (spelled_text script case write number)) old CN_DONE new len
    → IsUtf8 (take len new) × ((answer : Result ℤ Refusal) → Reads kind read (take len new) answer
    → answer ≡ Ok number)
read-spelled kind write read script case number old new len whole held is h =
    let text = put-text (encode_utf8_all (spelled_text script case write number)) old new len h in
    let marks = spelling-printed write (nat_abs number) is.square in
    rw text (
      utf8-signed_text script case (int_lt number (pos 0)) (spelling write (nat_abs number)) marks,
      λ answer r. Reads-same kind read (encode_utf8_all (spelled_text script case write number)) answer (Ok number) r (Reads-by kind write read script case number whole held is),
    )

-- a method reads what it writes
pub own-read : (kind : Kind) (method : ChineseCountMethod) (number : ℤ) → IsWhole kind → holds kind number ≡ true
    → is_printable method number ≡ true → IsReadBy method method (nat_abs number)
own-read kind method number whole held e =
    let small = whole.fits number held in
    IsReadBy-own method (nat_abs number) small (below_square method number small e)

-- a number that is printed in a way is read in that way
pub read-by : (kind : Kind) (way : Way) (script : ChineseVariant) (case : ChineseCase) (number : ℤ) (old new : List ℕ) (len : ℕ) → IsWhole kind → holds kind number ≡ true
    → PutsWritten (written_by way script case number) old CN_DONE new len
    → IsUtf8 (take len new) × ((answer : Result ℤ Refusal) → ReadsBy kind way (take len new) answer
    → answer ≡ Ok number)
read-by kind Digits script case number old new len whole held h =
    let small = whole.fits number held in
    let text = put-text (encode_utf8_all (naive_text script case number)) old new len h in
    rw text (
      utf8-three (naive_text script case number) (three-naive script case (int_lt number (pos 0)) (nat_abs number) (omega (arith, small))),
      λ answer r. r ∙ naive_reading-signed_text kind script case number whole held,
    )
read-by kind (Units method) script case number old new len whole held h = by (is_printable method number) refl h where
  by : (b : Bool) → is_printable method number ≡ b
      → PutsWritten (if b then Ok (spelled_text script case method number) else Err (unprintable number)) old CN_DONE new len
      → IsUtf8 (take len new) × ((answer : Result ℤ Refusal)
      → ReadsBy kind (Units method) (take len new) answer → answer ≡ Ok number)
  by true e h = read-spelled kind method method script case number old new len whole held (own-read kind method number whole held e) h
  by false e h = absurd (other (int_lt number (pos 0)) h.0) where
    other : (b : Bool) → CN_DONE ≡ refusal_status (if b then too_small else too_large) → ⊥
    other true e = omega (arith, e)
    other false e = omega (arith, e)

-- each type is one of whole numbers below 2^128
unsigned-whole : (bits : ℕ) → 2 ^ bits ≤ 2 ^ 128 → IsWhole (unsigned_kind bits)
unsigned-whole bits few = record { from_zero = λ e. refl; fits = fits } where
  fits : (z : ℤ) → holds (unsigned_kind bits) z ≡ true → nat_abs z < 2 ^ 128
  fits z held = grind (arith, ints, held, few)

signed-whole : (bits : ℕ) → 2 ^ (bits - 1) ≤ 2 ^ 127 → IsWhole (signed_kind bits)
signed-whole bits few = record { from_zero = λ e. cc; fits = fits } where
  fits : (z : ℤ) → holds (signed_kind bits) z ≡ true → nat_abs z < 2 ^ 128
  fits z held = grind (arith, ints, held, few)

whole : (kind : IntegerType) → IsWhole (the_kind kind)
whole U8 = unsigned-whole 8 (omega arith)
whole U16 = unsigned-whole 16 (omega arith)
whole U32 = unsigned-whole 32 (omega arith)
whole U64 = unsigned-whole 64 (omega arith)
whole U128 = unsigned-whole 128 (omega arith)
whole I8 = signed-whole 8 (omega arith)
whole I16 = signed-whole 16 (omega arith)
whole I32 = signed-whole 32 (omega arith)
whole I64 = signed-whole 64 (omega arith)
whole I128 = signed-whole 128 (omega arith)

-- the result for a number is that number
told : (signed : Bool) (text : List ℕ) (value : ℤ) (status : ℕ) (reading : Reading)
    (answer : Result ℤ Refusal) → answer ≡ Ok value → Tells signed text answer status reading
    → (status ≡ CN_DONE) × (number_of signed reading.number ≡ value)
    × (reading.char_index ≡ 0) × (reading.byte_index ≡ 0)
told signed text value status reading answer e tells = rw e at tells

-- the bytes are read back as the number, by a type and a way that may be named
abbrev pub ReadsBackAs : List ℕ → Option IntegerType → Option NamedWay → Number → Type 0
ReadsBackAs bytes kind way number =
    IsUtf8 bytes × ((status : ℕ) (reading : Reading) → IsReadAs kind way bytes status reading
    → (status ≡ CN_DONE) × MatchOption kind ⊥
    (λ kind. number_of (the_kind kind).signed reading.number
    ≡ number_of (the_kind kind).signed number)
    × (reading.char_index ≡ 0) × (reading.byte_index ≡ 0))

-- what is printed in one way is read in another as its number
abbrev pub IsAnswered : NamedWay → NamedWay → Type 0
IsAnswered way to_read = (kind : Kind) (script : ChineseVariant) (case : ChineseCase) (number : ℤ)
    (old new : List ℕ) (len : ℕ) → IsWhole kind → holds kind number ≡ true
    → PutsWritten (written_by (way_written way script (nat_abs number)) script case number) old CN_DONE new len
    → IsUtf8 (take len new) × ((answer : Result ℤ Refusal)
    → ReadsBy kind (way_meant kind to_read (take len new)) (take len new) answer → answer ≡ Ok number)

read-as : (way to_read : NamedWay) → IsAnswered way to_read
    → (kind : IntegerType) (script : ChineseVariant) (case : ChineseCase) (number : Number) (old new : List ℕ) (len : ℕ)
    → PrintsNumber (the_kind kind) (way_written way script (nat_abs (number_of (the_kind kind).signed number))) script case (number_of (the_kind kind).signed number) old CN_DONE new len
    → ReadsBackAs (take len new) (Some kind) (Some to_read) number
read-as way to_read answered code script case number old new len = by (holds kind value) refl where
  kind : Kind
  kind = the_kind code

  value : ℤ
  value = number_of kind.signed number

  by : (b : Bool) → holds kind value ≡ b → MatchBool b (PutsWritten (written_by (way_written way script (nat_abs value)) script case value) old CN_DONE new len) (PutsNothing 7 old CN_DONE new len)
      → ReadsBackAs (take len new) (Some code) (Some to_read) number
  by true e h =
      let back = answered kind script case value old new len (whole code) e h in (
        back.0,
        λ status reading is.
            let read : ReadsInto kind to_read (take len new) status reading =
            rw (is_utf8-from_IsUtf8 (take len new) back.0) at is in
            told kind.signed (take len new) value status reading read.0 (back.1 read.0 read.1) read.2,
      )
  by false e h = absurd (omega (arith, h.0))

pub read-named : (way to_read : NamedWay) → IsAnswered way to_read
    → (number : Number) (kind : Option IntegerType) (script : Option ChineseVariant) (case : Option ChineseCase) (old new : List ℕ) (len : ℕ)
    → IsPrintedAs number kind (Some way) script case old CN_DONE new len
    → ReadsBackAs (take len new) kind (Some to_read) number
read-named way to_read answered number (Some kind) (Some script) (Some case) old new len h = read-as way to_read answered kind script case number old new len h
read-named way to_read answered number None script case old new len h = absurd (omega (arith, h.0))
read-named way to_read answered number (Some kind) None case old new len h = absurd (omega (arith, h.0))
read-named way to_read answered number (Some kind) (Some script) None old new len h = absurd (omega (arith, h.0))
