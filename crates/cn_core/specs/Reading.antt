-- The answer to a string that is read as a number of a type.
use Rattle.std.specs.Prelude.{◌≡◌, ℕ, ◌+◌, ℤ, int_lt, Bool, true, false, List, ◌∷◌, drop, Option, Some, None, Result, Ok, Err, if◌then◌else◌}
use Rattle.cn_core.specs.declared.method.ChineseCountMethod.{ChineseCountMethod}
use Rattle.cn_core.specs.declared.sign.Sign.{Sign}
use Rattle.cn_core.specs.declared.sign.Sign.TheVariants.{Minus}
use Rattle.cn_core.specs.Characters.{sign_of}
use Rattle.cn_core.specs.Judge.{Judges}
use Rattle.cn_core.specs.Naive.{naive_answer}
use Rattle.cn_core.specs.Refusal.{Refusal, incorrect_at, too_large, too_small}
use Rattle.cn_core.specs.CharIndex.{char_index_of}
use Rattle.cn_core.specs.Text.{text_of, marks_of}
use Rattle.cn_core.specs.Whole.{Kind, signed_number}

-- the sign at the start of the text, if the type is signed and the text starts with one
abbrev pub leading_sign : Bool → List ℕ → Option Sign
leading_sign true (c ∷ rest) = sign_of c
leading_sign signed text = None

-- the number of characters that the sign takes
abbrev pub sign_len : Option Sign → ℕ
sign_len None = 0
sign_len (Some sign) = 1

-- whether the sign is a minus; false if there is no sign
abbrev pub is_minus : Option Sign → Bool
is_minus (Some Minus) = true
is_minus sign = false

-- the refusal of a number whose magnitude is too large: `too_small` after a minus, else `too_large`
abbrev pub too_far : Option Sign → Refusal
too_far (Some Minus) = too_small
too_far sign = too_large

-- the number if the type holds it, else the refusal that says on which side it is out of range
abbrev pub typed_number : Kind → ℤ → Result ℤ Refusal
typed_number kind number =
    if int_lt kind.greatest number then Err too_large
    else (if int_lt number kind.least then Err too_small else Ok number)

-- the answer for a type and a string, given by its bytes, from its sign and the answer to the text
-- after the sign. A place in that text is moved by the sign's length and becomes a char_index of
-- the string
abbrev pub typed_answer : Kind → List ℕ → Option Sign → Result ℕ Refusal → Result ℤ Refusal
typed_answer kind bytes sign (Ok magnitude) =
    typed_number kind (signed_number (is_minus sign) magnitude)
typed_answer kind bytes sign (Err too_large) = Err (too_far sign)
typed_answer kind bytes sign (Err (incorrect_at place)) =
    Err (incorrect_at (char_index_of bytes (place + sign_len sign)))
typed_answer kind bytes sign (Err refusal) = Err refusal

-- `answer` is the answer to a string that is read with units
abbrev pub Reads : Kind → ChineseCountMethod → List ℕ → Result ℤ Refusal → Type 0
Reads kind method bytes answer =
    let text = text_of bytes in
    let sign = leading_sign kind.signed text in
    (judged : Result ℕ Refusal)
    × Judges method (marks_of (drop (sign_len sign) text)) judged
    × (answer ≡ typed_answer kind bytes sign judged)

-- the answer to a string that is read as plain digits
abbrev pub naive_reading : Kind → List ℕ → Result ℤ Refusal
naive_reading kind bytes =
    let text = text_of bytes in
    let sign = leading_sign kind.signed text in
    typed_answer kind bytes sign (naive_answer (marks_of (drop (sign_len sign) text)))
