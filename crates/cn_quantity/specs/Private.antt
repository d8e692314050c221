-- What contracts of private functions cite: suffixes of a string, and answers to pieces of it.
use Rattle.std.specs.Prelude.{◌≡◌, ℕ, Bool, ◌+◌, List, [], ◌∷◌, ◌++◌, length, ◌<◌, chars, drop, reverse, Option, Some, Result, Ok, Err}
use Rattle.cn_core.specs.declared.sign.Sign.{Sign}
use Rattle.cn_core.specs.Mark.{Mark, mark_of}
use Rattle.cn_core.specs.Reading.{too_far}
use Rattle.cn_core.specs.Refusal.{Refusal, too_large}
use Rattle.cn_core.specs.Text.{marks_of, text_of}
use Rattle.cn_judge.specs.Marked.{marked}
use Rattle.cn_judge.specs.Piece.{StandsAt}
use Rattle.cn_quantity.specs.declared.misread.Before.{Before}
use Rattle.cn_quantity.specs.Decimal.{after_point, before_point}
use Rattle.cn_quantity.specs.Misread.{bare_ten, first_misread}
use Rattle.cn_quantity.specs.declared.quantity.Quantity.{Quantity}
use Rattle.cn_quantity.specs.declared.ratio.Ratio.{Ratio}
use Rattle.cn_quantity.specs.Ratio.{after_bar, after_you, before_bar, before_you}
use Rattle.cn_quantity.specs.declared.characters.DigitKind.TheVariants.{Figure}
use Rattle.cn_quantity.specs.Digits.{begins_with_nought, leading_digits}
use Rattle.cn_quantity.specs.Reading.{signed_ratio}
use Rattle.cn_quantity.specs.Turns.{after_group, number_of, units_of}

-- the string ends with this one
pub record IsEnd (bytes rest : List ℕ) : Type 0 where
  pub front : List ℕ
  pub parts : chars bytes ≡ front ++ chars rest

-- its first character that is not white space is this one, and this string is after it
pub record BeginsWith (bytes : List ℕ) (c : ℕ) (rest : List ℕ) : Type 0 where
  pub text : text_of bytes ≡ c ∷ text_of rest
  pub end : IsEnd bytes rest

-- the string begins with this one
pub record IsFront (bytes front : List ℕ) : Type 0 where
  pub more : List ℕ
  pub parts : chars bytes ≡ chars front ++ more

-- its last character that is not white space is this one, and this string is before it
pub record FinishesWith (bytes : List ℕ) (c : ℕ) (before : List ℕ) : Type 0 where
  pub text : text_of bytes ≡ text_of before ++ c ∷ []
  pub front : IsFront bytes before

-- the string before the first point of a string, and the string after it
pub record SplitsAtPoint (bytes before behind : List ℕ) : Type 0 where
  pub before_is : text_of before ≡ before_point (text_of bytes)
  pub behind_is : text_of behind ≡ after_point (text_of bytes)
  pub front : IsFront bytes before

-- the string before the first 分之 of a string, the number of characters before the string after 分之,
-- and that string
pub record SplitsAtBar (bytes divisor : List ℕ) (index : ℕ) (behind : List ℕ) : Type 0 where
  pub divisor_is : text_of divisor ≡ before_bar (text_of bytes)
  pub behind_is : text_of behind ≡ after_bar (text_of bytes)
  pub front : IsFront bytes divisor
  pub stands : StandsAt bytes (chars behind) index (length (before_bar (text_of bytes)) + 2)

-- the string before 分之, and the numerator, which begins at this place of the text and this
-- char_index of the string
pub record SplitsFraction (bytes divisor : List ℕ) (index place : ℕ)
    (over : List ℕ) : Type 0 where
  pub some : 0 < length (text_of divisor)
  pub front : IsFront bytes divisor
  pub stands : StandsAt bytes (chars over) index place

-- the same for a fraction with a minus sign after 分之
pub record SplitsNegated (bytes divisor : List ℕ) (index : ℕ) (over : List ℕ) : Type 0 where
  pub divisor_is : text_of divisor ≡ before_bar (text_of bytes)
  pub over_is : text_of over ≡ drop 1 (after_bar (text_of bytes))
  pub parts : SplitsFraction bytes divisor index (length (before_bar (text_of bytes)) + 3) over

-- the refusal of a text after a sign
abbrev pub signed_refusal : Option Sign → Refusal → Refusal
signed_refusal sign too_large = too_far sign
signed_refusal sign refusal = refusal

-- the answer with the sign; places are char_indexes already
abbrev pub signed_by : Option Sign → Result Ratio Refusal → Result Quantity Refusal
signed_by sign (Ok ratio) = signed_ratio sign ratio
signed_by sign (Err refusal) = Err (signed_refusal sign refusal)

-- the marks of the three characters before a place, the nearest first
abbrev pub marks_before : Before → List Mark
marks_before before = marked before.first ∷ marked before.second ∷ marked before.third ∷ []

-- the string before the first misread character of a string, the string from that character on,
-- and, if the character is a bare ten, the rank of the unit before it
pub record SplitsAtMisread (bytes before from : List ℕ) (bare : Option ℕ) : Type 0 where
  pub first : ℕ
  pub after : List ℕ
  pub place : first_misread (text_of bytes) ≡ Some (length (text_of before))
  pub parts : chars bytes ≡ chars before ++ chars from
  pub from_is : text_of from ≡ first ∷ after
  pub bare_is : bare ≡ bare_ten (marks_of (reverse (text_of before))) (mark_of first)

-- the group at the start of a text
pub record IsGroup (bytes : List ℕ) (count number : ℕ) (nought : Bool)
    (units rest : List ℕ) : Type 0 where
  pub count_is : count ≡ leading_digits Figure (text_of bytes)
  pub number_is : number_of (text_of bytes) ≡ Some number
  pub nought_is : nought ≡ begins_with_nought (text_of bytes)
  pub units_is : text_of units ≡ units_of (text_of bytes)
  pub rest_is : text_of rest ≡ after_group (text_of bytes)

-- the string before the first 又 of a string, and the string after it
pub record SplitsAtYou (bytes before rest : List ℕ) : Type 0 where
  pub before_is : text_of before ≡ before_you (text_of bytes)
  pub rest_is : text_of rest ≡ after_you (text_of bytes)
