-- What laws say about the char_index of a refusal and the reason for it.
use Rattle.std.specs.Prelude.{◌≡◌, ℕ, ℤ, Bool, true, false, not, ◌&&◌, List, [], ◌∷◌, length, filter, take, slice_get, chars, Some, Result, Err, if◌then◌else◌}
use Rattle.std.specs.Char.{is_whitespace, is_not_whitespace}
use Rattle.cn_core.specs.Mark.{Mark}
use Rattle.cn_core.specs.Place.{body}
use Rattle.cn_core.specs.Numeral.{is_numeral, is_digit_or_unit, separates_digits, multiplies_upwards, counts_a_unit, groups_strictly}
use Rattle.cn_core.specs.Refusal.{Refusal, incorrect_at}
use Rattle.cn_judge.specs.declared.fault.NumeralFault.{NumeralFault}
use Rattle.cn_judge.specs.declared.fault.NumeralFault.TheVariants.{Start, Character, Digits, Units, Ge, Groups}

-- the answer, without the char_index if it is a refusal at a character
abbrev pub without_char_index : Result ℤ Refusal → Result ℤ Refusal
without_char_index (Err (incorrect_at char_index)) = Err (incorrect_at 0)
without_char_index answer = answer

-- the character at this char_index of a string, given by its bytes, is not white space, and exactly
-- `place` such characters are before it
pub record PointsAt (bytes : List ℕ) (char_index place : ℕ) : Type 0 where
  pub character : ℕ
  pub there : slice_get (chars bytes) char_index ≡ Some character
  pub visible : is_whitespace character ≡ false
  pub before : length (filter is_not_whitespace (take char_index (chars bytes))) ≡ place

-- each mark of a list keeps a rule, given the marks to its right
abbrev pub each_keeps : (Mark → List Mark → Bool) → List Mark → Bool
each_keeps rule [] = true
each_keeps rule (mark ∷ rest) = rule mark rest && each_keeps rule rest

-- the first of the rules 2 to 6 of numerals that some mark of a list breaks; rule 1 if none does
abbrev pub first_broken_rule : List Mark → NumeralFault
first_broken_rule marks =
    if not (each_keeps (λ mark rest. is_digit_or_unit mark) marks) then Character
    else if not (each_keeps separates_digits marks) then Digits
    else if not (each_keeps multiplies_upwards marks) then Units
    else if not (each_keeps counts_a_unit marks) then Ge
    else if not (each_keeps groups_strictly marks) then Groups
    else Start

-- the part of a text whose place is reported: the text itself if its body is a numeral, and else its
-- body
abbrev pub judged_part : List Mark → List Mark
judged_part marks = if is_numeral (body marks) then marks else body marks
