-- The answer to a string, from its text; and to the written text of a number.
use Rattle.std.proofs.Common.{◌≡◌, ℕ, zero, suc, ◌^◌, ◌<◌, ℤ, pos, nat_abs, int_lt, Bool, true, false, List, [], ◌∷◌, map, drop, encode_utf8_all, Option, Some, None, Result, Ok, refl, sym, ap, subst, ◌∙◌, arith}
use Rattle.std.proofs.lemmas.Int.{ints}
use Rattle.std.specs.List.{list_all}
use Rattle.cn_core.specs.declared.case.ChineseCase.{ChineseCase}
use Rattle.cn_core.specs.declared.method.ChineseCountMethod.{ChineseCountMethod}
use Rattle.cn_core.specs.declared.script.ChineseVariant.{ChineseVariant}
use Rattle.cn_core.specs.declared.sign.Sign.{Sign}
use Rattle.cn_core.specs.declared.sign.Sign.TheVariants.{Plus, Minus}
use Rattle.cn_core.specs.Judge.{Judges}
use Rattle.cn_core.specs.Mark.{Mark}
use Rattle.cn_core.specs.Naive.{naive_answer}
use Rattle.cn_core.specs.Numeral.{with_first_digit, starts_with_digit}
use Rattle.cn_core.specs.Refusal.{Refusal}
use Rattle.cn_core.specs.Spelling.{spelling}
use Rattle.cn_core.specs.Text.{text_of, marks_of}
use Rattle.cn_core.specs.Reading.{Reads, leading_sign, sign_len, is_minus, typed_number, typed_answer, naive_reading}
use Rattle.cn_core.specs.Whole.{signed_number, Kind, holds}
use Rattle.cn_core.specs.Printing.{mark_char, signed_bytes, spelled_text, is_printable}
use Rattle.cn_core.specs.Judging.{judge}
use Rattle.cn_core.proofs.Fronts.{and-left}
use Rattle.cn_core.proofs.Judging.{Judges-judge, Judges-same}
use Rattle.cn_core.proofs.ReadBack.{spelling-is_numeral}
use Rattle.cn_spell.proofs.Printed.{is_printed, IsReadBack-marks, text_of-signed_text, minus_is_sign, no_sign}
use Rattle.cn_spell.proofs.SignedNumbers.{typed_number-held, written_sign, signed_number-signed_text}
use Rattle.cn_spell.proofs.ReadByOther.{IsReadBy, IsReadBy-own, Judges-read}
use Rattle.cn_spell.proofs.SpelledMarks.{below_square, spelling-printed}

-- what is answered is a number that the type holds
pub held-typed_number : (kind : Kind) (number answer : ℤ) → typed_number kind number ≡ Ok answer
    → holds kind answer ≡ true
held-typed_number kind number answer h = grind (arith, ints, h)

-- that is, the number itself
pub held_is : (kind : Kind) (number answer : ℤ) → typed_number kind number ≡ Ok answer
    → number ≡ answer
held_is kind number answer h = grind (arith, ints, h)

-- a string has one answer
pub Reads-same : (kind : Kind) (method : ChineseCountMethod) (bytes : List ℕ)
    (a b : Result ℤ Refusal) → Reads kind method bytes a → Reads kind method bytes b → a ≡ b
Reads-same kind method bytes a b (x, is_x, a_is) (y, is_y, b_is) =
    let sign = leading_sign kind.signed (text_of bytes) in
    a_is ∙ ap (typed_answer kind bytes sign)
    (Judges-same method (marks_of (drop (sign_len sign) (text_of bytes))) x y is_x is_y)
    ∙ sym b_is

-- the sign of a string, and the marks that follow it
pub record HasParts (kind : Kind) (bytes : List ℕ) (sign : Option Sign)
    (marks : List Mark) : Type 0 where
  pub sign_is : leading_sign kind.signed (text_of bytes) ≡ sign
  pub marks_is : marks_of (drop (sign_len sign) (text_of bytes)) ≡ marks

pub Reads-parts : (kind : Kind) (method : ChineseCountMethod) (bytes : List ℕ) (sign : Option Sign)
    (marks : List Mark) (judged : Result ℕ Refusal)
    → HasParts kind bytes sign marks → Judges method marks judged
    → Reads kind method bytes (typed_answer kind bytes sign judged)
Reads-parts kind method bytes sign marks judged parts j =
    rw (parts.sign_is, parts.marks_is) (judged, j, refl)

pub naive_reading-parts : (kind : Kind) (bytes : List ℕ) (sign : Option Sign) (marks : List Mark)
    → HasParts kind bytes sign marks
    → naive_reading kind bytes ≡ typed_answer kind bytes sign (naive_answer marks)
naive_reading-parts kind bytes sign marks parts = rw (parts.sign_is, parts.marks_is)

-- what a numeral starts with is no sign
unsigned_start : (variant : ChineseVariant) (case : ChineseCase) (signed : Bool) (marks : List Mark) → list_all is_printed marks ≡ true → starts_with_digit (with_first_digit marks) ≡ true
    → leading_sign signed (map (mark_char variant case) marks) ≡ None
unsigned_start variant case false marks h s = refl
unsigned_start variant case true [] h s = refl
unsigned_start variant case true (mark ∷ rest) h s = no_sign variant case mark rest (and-left (is_printed mark) _ h) s

-- a sign leaves the magnitude as it was
pub size_of : (sign : Option Sign) (magnitude : ℕ)
    → nat_abs (signed_number (is_minus sign) magnitude) ≡ magnitude
size_of None magnitude = refl
size_of (Some Plus) magnitude = refl
size_of (Some Minus) zero = refl
size_of (Some Minus) (suc magnitude) = refl

-- the parts of a written text are those that it was written from
pub HasParts-signed_text : (kind : Kind) (variant : ChineseVariant) (case : ChineseCase) (negative : Bool) (marks : List Mark)
    → (negative ≡ true → kind.signed ≡ true) → list_all is_printed marks ≡ true
    → starts_with_digit (with_first_digit marks) ≡ true
    → HasParts kind (signed_bytes variant case negative marks) (written_sign negative) marks
HasParts-signed_text kind variant case true marks minus h s = record {
  sign_is = rw (text_of-signed_text variant case true marks h, minus refl) (minus_is_sign variant);
  marks_is = rw (text_of-signed_text variant case true marks h) (IsReadBack-marks variant case marks h).marks_same;
}
HasParts-signed_text kind variant case false marks minus h s = record {
  sign_is = rw (text_of-signed_text variant case false marks h) (unsigned_start variant case kind.signed marks h s);
  marks_is = rw (text_of-signed_text variant case false marks h) (IsReadBack-marks variant case marks h).marks_same;
}

-- a number is answered where its magnitude is judged
pub typed_answer-held : (kind : Kind) (number : ℤ) (bytes : List ℕ) → holds kind number ≡ true
    → typed_answer kind bytes (written_sign (int_lt number (pos 0))) (Ok (nat_abs number))
    ≡ Ok number
typed_answer-held kind number bytes held =
    ap (typed_number kind) (signed_number-signed_text number) ∙ typed_number-held kind number held

-- what is known of the kind of an integer type
pub record IsWhole (kind : Kind) : Type 0 where
  pub from_zero : kind.signed ≡ false → kind.least ≡ pos 0
  pub fits : (z : ℤ) → holds kind z ≡ true → nat_abs z < 2 ^ 128

-- by the laws of the type
pub IsWhole-laws : (kind : Kind) (signed : Bool) → kind.signed ≡ signed
    → (signed ≡ false → kind.least ≡ pos 0) → ((z : ℤ) → holds kind z ≡ true → nat_abs z < 2 ^ 128)
    → IsWhole kind
IsWhole-laws kind signed same zero_least fits =
    record { from_zero = λ e. zero_least (sym same ∙ e); fits = fits }

pub minus_is_signed : (kind : Kind) (number : ℤ) → IsWhole kind → holds kind number ≡ true
    → int_lt number (pos 0) ≡ true → kind.signed ≡ true
minus_is_signed kind number whole held below = by kind.signed refl where
  by : (b : Bool) → kind.signed ≡ b → b ≡ true
  by true e = refl
  by false e = absurd (grind (arith, ints, whole.from_zero e, held, below))

-- what one method spells is read back by another that reads it
pub Reads-by : (kind : Kind) (write read : ChineseCountMethod) (variant : ChineseVariant) (case : ChineseCase) (number : ℤ) → IsWhole kind → holds kind number ≡ true → IsReadBy write read (nat_abs number)
    → Reads kind read (encode_utf8_all (spelled_text variant case write number)) (Ok number)
Reads-by kind write read variant case number whole held is =
    let small = whole.fits number held in
    let marks = spelling write (nat_abs number) in
    let bytes = encode_utf8_all (spelled_text variant case write number) in
    let negative = int_lt number (pos 0) in
    let n = spelling-is_numeral write (nat_abs number) is.square in
    subst (λ answer. Reads kind read bytes answer) (typed_answer-held kind number bytes held)
    (Reads-parts kind read bytes (written_sign negative) marks (Ok (nat_abs number))
    (HasParts-signed_text kind variant case negative marks (minus_is_signed kind number whole held) (spelling-printed write (nat_abs number) is.square) (and-left (starts_with_digit (with_first_digit marks)) _ n.0))
    (Judges-read write read (nat_abs number) small is))

-- every written spelling is read back
pub Reads-spelled : (kind : Kind) (method : ChineseCountMethod) (variant : ChineseVariant) (case : ChineseCase) (number : ℤ) → IsWhole kind → holds kind number ≡ true → is_printable method number ≡ true
    → Reads kind method (encode_utf8_all (spelled_text variant case method number)) (Ok number)
Reads-spelled kind method variant case number whole held printable =
    let small = whole.fits number held in
    Reads-by kind method method variant case number whole held
    (IsReadBy-own method (nat_abs number) small (below_square method number small printable))

-- and no other number is
pub Reads-only : (kind : Kind) (method : ChineseCountMethod) (bytes : List ℕ)
    (answer number : Result ℤ Refusal) → Reads kind method bytes number
    → (Reads kind method bytes answer → answer ≡ number)
    × (answer ≡ number → Reads kind method bytes answer)
Reads-only kind method bytes answer number is = (
  λ r. Reads-same kind method bytes answer number r is,
  λ e. subst (λ a. Reads kind method bytes a) (sym e) is,
)

-- the answer is there
abbrev pub the_answer : Kind → ChineseCountMethod → List ℕ → Result ℤ Refusal
the_answer kind method bytes =
    let sign = leading_sign kind.signed (text_of bytes) in
    typed_answer kind bytes sign (judge method (marks_of (drop (sign_len sign) (text_of bytes))))

pub Reads-the_answer : (kind : Kind) (method : ChineseCountMethod) (bytes : List ℕ)
    → Reads kind method bytes (the_answer kind method bytes)
Reads-the_answer kind method bytes =
    let sign = leading_sign kind.signed (text_of bytes) in
    let marks = marks_of (drop (sign_len sign) (text_of bytes)) in
    (judge method marks, Judges-judge method marks, refl)

-- two numbers with one text are one
pub same_from_text : (kind : Kind) (method : ChineseCountMethod) (variant : ChineseVariant) (case : ChineseCase) (one second : ℤ) → IsWhole kind → holds kind one ≡ true → holds kind second ≡ true
    → is_printable method one ≡ true → is_printable method second ≡ true
    → encode_utf8_all (spelled_text variant case method one) ≡ encode_utf8_all (spelled_text variant case method second) → one ≡ second
same_from_text kind method variant case one second whole held_one held_second p q same =
    let bytes = λ (number : ℤ). encode_utf8_all (spelled_text variant case method number) in
    let first : Reads kind method (bytes second) (Ok one) = subst (λ b. Reads kind method b (Ok one)) same (Reads-spelled kind method variant case one whole held_one p) in
    let answers : Ok one ≡ Ok second = Reads-same kind method (bytes second) (Ok one) (Ok second) first (Reads-spelled kind method variant case second whole held_second q) in
    cc
