-- Why a string is not read as a number of a type.
use Rattle.std.specs.Prelude.{◌≡◌, ℕ, ℤ, not, List, [], ◌∷◌, chars, drop, filter, Option, Some, None, Result, Ok, Err, if◌then◌else◌}
use Rattle.std.specs.Char.{is_not_whitespace}
use Rattle.cn_core.specs.declared.method.ChineseCountMethod.{ChineseCountMethod}
use Rattle.cn_core.specs.Mark.{Mark}
use Rattle.cn_core.specs.Numeral.{is_digit_or_unit, separates_digits, multiplies_upwards, counts_a_unit, groups_strictly}
use Rattle.cn_core.specs.Reading.{Reads, naive_reading}
use Rattle.cn_core.specs.Refusal.{Refusal, empty, incorrect_at, too_large, too_small}
use Rattle.cn_core.specs.Text.{marks_of}
use Rattle.cn_core.specs.Whole.{Kind}
use Rattle.cn_judge.specs.declared.fault.NumeralFault.{NumeralFault}
use Rattle.cn_judge.specs.declared.fault.NumeralFault.TheVariants.{Empty, TooLarge, TooSmall, Start, Character, Digits, Units, Ge, Groups}

-- the first of the rules 2 to 6 of numerals that a mark breaks, given the marks to its right; rule 1
-- if it keeps them: 百 before 十 breaks rule 4, and 百 before 五 only cannot start a numeral
abbrev pub broken_rule : Mark → List Mark → NumeralFault
broken_rule mark rest =
    if not (is_digit_or_unit mark) then Character
    else if not (separates_digits mark rest) then Digits
    else if not (multiplies_upwards mark rest) then Units
    else if not (counts_a_unit mark rest) then Ge
    else if not (groups_strictly mark rest) then Groups
    else Start

-- the rule that the first mark of a list breaks
abbrev pub rule_broken_first : List Mark → NumeralFault
rule_broken_first [] = Start
rule_broken_first (mark ∷ rest) = broken_rule mark rest

-- the text from the character of a string with this char_index on
abbrev pub text_from : List ℕ → ℕ → List ℕ
text_from bytes char_index = filter is_not_whitespace (drop char_index (chars bytes))

-- the rule that the character of a string with this char_index breaks: in 一二三, 二 breaks rule 3
abbrev pub rule_broken_at : List ℕ → ℕ → NumeralFault
rule_broken_at bytes char_index = rule_broken_first (marks_of (text_from bytes char_index))

-- the reason for a refusal, from the reason at the char_index of a character at fault
abbrev pub reason_of : (ℕ → NumeralFault) → Refusal → NumeralFault
reason_of at empty = Empty
reason_of at (incorrect_at char_index) = at char_index
reason_of at too_large = TooLarge
reason_of at too_small = TooSmall

-- that of an answer; none if the answer is a number
abbrev pub reason_in : {N : Type 0} → (ℕ → NumeralFault) → Result N Refusal → Option NumeralFault
reason_in at (Ok number) = None
reason_in at (Err refusal) = Some (reason_of at refusal)

-- `reason` is the reason why a string is not read with units as a number of a type, if it is not: the
-- rule that the reported character breaks, if one is reported
abbrev pub IsReason : Kind → ChineseCountMethod → List ℕ → Option NumeralFault → Type 0
IsReason kind method bytes reason =
    (answer : Result ℤ Refusal) × Reads kind method bytes answer
    × (reason ≡ reason_in (rule_broken_at bytes) answer)

-- the reason why a string is not read as plain digits, if it is not: a reported character is not a
-- digit
abbrev pub naive_reason : Kind → List ℕ → Option NumeralFault
naive_reason kind bytes = reason_in (λ char_index. Character) (naive_reading kind bytes)
