-- Why a string is not read as a quantity.
use Rattle.std.specs.Prelude.{ℕ, ◌-◌, Bool, true, ◌&&◌, nat_lt, List, [], ◌∷◌, ◌++◌, length, take, drop, reverse, Option, Some, None, option_map, is_none, is_some, Result, Ok, Err, if◌then◌else◌}
use Rattle.std.specs.Option.{option_map_or, option_or}
use Rattle.cn_core.specs.declared.method.ChineseCountMethod.{ChineseCountMethod}
use Rattle.cn_core.specs.Judging.{judge}
use Rattle.cn_core.specs.Mark.{Mark, mark_of}
use Rattle.cn_core.specs.Refusal.{Refusal, empty, incorrect_at, too_large, too_small}
use Rattle.cn_core.specs.Text.{marks_of, text_of}
use Rattle.cn_judge.specs.Reason.{reason_in, rule_broken_first}
use Rattle.cn_judge.specs.declared.fault.NumeralFault.TheVariants.{Empty, TooLarge, TooSmall}
use Rattle.cn_quantity.specs.declared.fault.QuantityFault.{QuantityFault}
use Rattle.cn_quantity.specs.declared.fault.QuantityFault.TheVariants.{Numeral, Misread, Denominator}
use Rattle.cn_quantity.specs.declared.misread.MisreadFault.{MisreadFault}
use Rattle.cn_quantity.specs.declared.misread.MisreadFault.TheVariants.{BareTen, RepeatedTen, AfterZero, Weight, TwoReadings, LeftOutZero}
use Rattle.cn_quantity.specs.Decimal.{before_point, is_chinese_decimal}
use Rattle.cn_quantity.specs.Misread.{bare_ten, bare_ten_between, first_misread, has_two_readings, is_liang, multiplies_zero, repeats_ten, weighs}
use Rattle.cn_quantity.specs.Number.{divisor_answer, number_answer, part_answer}
use Rattle.cn_quantity.specs.Ratio.{after_bar, before_bar, is_fraction, is_negated, share}
use Rattle.cn_quantity.specs.Reading.{front_length, number_sign, quantity_answer}
use Rattle.cn_quantity.specs.WholeNumber.{reader_answer, sum_answer}

-- the first of the rules of misread numerals by which a misread character is one, given the marks
-- before it, the nearest first, and the characters after it: the last rule, if it is none of the
-- others
abbrev pub misread_rule : List Mark → ℕ → List ℕ → MisreadFault
misread_rule front c after =
    if is_some (bare_ten front (mark_of c)) then BareTen
    else if repeats_ten front (mark_of c) then RepeatedTen
    else if multiplies_zero front (mark_of c) then AfterZero
    else if is_liang c && weighs front (marks_of after) then Weight
    else if has_two_readings front (mark_of c) then TwoReadings
    else LeftOutZero

-- that of the first character of the second text, which comes after the first text
abbrev pub misread_rule_between : List ℕ → List ℕ → MisreadFault
misread_rule_between before [] = LeftOutZero
misread_rule_between before (c ∷ after) = misread_rule (marks_of (reverse before)) c after

-- the reason for a refusal that reports no character
abbrev pub placeless_fault : Refusal → Option QuantityFault
placeless_fault empty = Some (Numeral Empty)
placeless_fault (incorrect_at place) = None
placeless_fault too_large = Some (Numeral TooLarge)
placeless_fault too_small = Some (Numeral TooSmall)

-- the reason for the refusal in an answer, if there is one, given the reason if it reports a
-- character
abbrev pub fault_in : {T : Type 0} → Result T Refusal → Option QuantityFault → Option QuantityFault
fault_in (Ok value) fault = None
fault_in (Err refusal) fault = option_or (placeless_fault refusal) fault

-- the reason in the answer of a reader of numerals to a text: the rule of numerals that the reported
-- character breaks
abbrev pub numeral_fault : List ℕ → Result ℕ Refusal → Option QuantityFault
numeral_fault text answer =
    option_map Numeral (reason_in (λ place. rule_broken_first (marks_of (drop place text))) answer)

-- the reason why a text and what follows it from a bare ten on have no sum: that of the first part
-- that is refused, or the bare ten
abbrev pub sum_fault : ChineseCountMethod → ℕ → List ℕ → List ℕ → Option QuantityFault
sum_fault method rank before from =
    option_or (numeral_fault before (judge method (marks_of before)))
    (option_or (numeral_fault from (judge method (marks_of from)))
    (fault_in (sum_answer method rank before from) (Some (Misread BareTen))))

-- a refusal is at a later place than another, or has no place
abbrev pub is_later : Refusal → Refusal → Bool
is_later (incorrect_at one) (incorrect_at other) = nat_lt other one
is_later refusal other = true

-- the reason why a text with a misread character at this place is refused, given the answer of the
-- readers of numerals and the rule by which that character is misread: that of the readers, if they
-- refuse the text later
abbrev pub refused_fault : List ℕ → Result ℕ Refusal → ℕ → MisreadFault → Option QuantityFault
refused_fault text (Ok number) place rule = Some (Misread rule)
refused_fault text (Err refusal) place rule =
    if is_later refusal (incorrect_at place) then numeral_fault text (Err refusal)
    else Some (Misread rule)

-- the reason why a text in two parts at its first misread character is not a whole number
abbrev pub misread_fault : ChineseCountMethod → List ℕ → List ℕ → Option QuantityFault
misread_fault method before from =
    option_map_or (λ rank. sum_fault method rank before from) (bare_ten_between before from)
    (refused_fault (before ++ from) (reader_answer method (before ++ from)) (length before)
    (misread_rule_between before from))

-- the reason why a text is not a whole number, if it is not
abbrev pub whole_fault : ChineseCountMethod → List ℕ → Option QuantityFault
whole_fault method text =
    option_map_or (λ place. misread_fault method (take place text) (drop place text))
    (first_misread text) (numeral_fault text (reader_answer method text))

-- the part of a number that is read as a whole number
abbrev pub whole_part : List ℕ → List ℕ
whole_part text = if is_chinese_decimal text then before_point text else text

-- the reason why a text is not a number, if it is not
abbrev pub number_fault : ChineseCountMethod → List ℕ → Option QuantityFault
number_fault method text = fault_in (number_answer method text) (whole_fault method (whole_part text))

-- the same of a part of a fraction
abbrev pub part_fault : ChineseCountMethod → List ℕ → Option QuantityFault
part_fault method text = fault_in (part_answer method text) (number_fault method text)

-- and of its denominator, which must be a whole number above 0
abbrev pub divisor_fault : ChineseCountMethod → List ℕ → Option QuantityFault
divisor_fault method text =
    fault_in (divisor_answer method text) (option_or (part_fault method text) (Some Denominator))

-- the reason why two texts are not the parts of a fraction: that of its denominator comes first
abbrev pub fraction_fault : ChineseCountMethod → List ℕ → List ℕ → Option QuantityFault
fraction_fault method before after =
    option_or (divisor_fault method before) (part_fault method after)

-- the reason why a text without sign is refused at a character
abbrev pub simple_fault : ChineseCountMethod → List ℕ → Option QuantityFault
simple_fault method text =
    if is_fraction text then fraction_fault method (before_bar text) (after_bar text)
    else if is_some (share text) then number_fault method (take (length text - 1) text)
    else number_fault method text

-- the reason why a string, given by its bytes, is refused at a character
abbrev pub signed_fault : ChineseCountMethod → List ℕ → Option QuantityFault
signed_fault method bytes =
    let text = text_of bytes in
    let rest = drop (front_length text) text in
    if is_none (number_sign text) && is_negated rest
    then fraction_fault method (before_bar rest) (drop 1 (after_bar rest))
    else simple_fault method rest

-- the reason why a string is not a quantity, if it is not
abbrev pub quantity_fault : ChineseCountMethod → List ℕ → Option QuantityFault
quantity_fault method bytes = fault_in (quantity_answer method bytes) (signed_fault method bytes)
