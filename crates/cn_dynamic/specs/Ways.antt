-- The names of the ways, and what is read and written in each way.
use Rattle.std.specs.Prelude.{◌≡◌, ℕ, ℤ, pos, int_lt, List, [], ◌∷◌, codes, bytes_eq, encode_utf8_all, Option, Some, None, Result, Ok, Err, if◌then◌else◌}
use Rattle.chinese_number.specs.declared.ChineseCase.{ChineseCase}
use Rattle.chinese_number.specs.declared.ChineseCountMethod.TheVariants.{Low, TenThousand, Middle, High}
use Rattle.chinese_number.specs.declared.ChineseVariant.{ChineseVariant}
use Rattle.chinese_number.specs.declared.NumberToChineseError.{NumberToChineseError}
use Rattle.chinese_number.specs.declared.NumeralFault.{NumeralFault}
use Rattle.chinese_number.specs.declared.NumeralFault.TheVariants.{Character}
use Rattle.chinese_number.specs.declared.NumberToChineseError.TheVariants.{Overflow, Underflow, OutOfMemory}
use Rattle.chinese_number.specs.Printing.{naive_text, spelled_text, is_printable}
use Rattle.chinese_number.specs.Refusal.{Refusal, too_large, too_small}
use Rattle.chinese_number.specs.Reading.{Reads, naive_reading}
use Rattle.chinese_number.specs.Reason.{reason_in, rule_broken_at}
use Rattle.chinese_number.specs.Whole.{Kind, signed_number}
use Rattle.cn_dynamic.specs.declared.way.SignedMagnitude.{SignedMagnitude}
use Rattle.cn_dynamic.specs.declared.way.Way.{Way}
use Rattle.cn_dynamic.specs.declared.way.Way.TheVariants.{Digits, Units}

-- the value in the first row of a table that has this name
abbrev pub named : {A : Type 0} → List ℕ → List (List ℕ × A) → Option A
named name [] = None
named name (row ∷ rows) = if bytes_eq name row.0 then Some row.1 else named name rows

-- the way with this name
abbrev pub way_named : List ℕ → Option Way
way_named name = named name
    ((codes "naive", Digits) ∷ (codes "low", Units Low)
    ∷ (codes "ten_thousand", Units TenThousand) ∷ (codes "middle", Units Middle)
    ∷ (codes "high", Units High) ∷ [])

-- `answer` is the answer to a string that is read in this way
abbrev pub ReadsBy : Kind → Way → List ℕ → Result ℤ Refusal → Type 0
ReadsBy kind Digits text answer = answer ≡ naive_reading kind text
ReadsBy kind (Units method) text answer = Reads kind method text answer

-- the rule that the reported character of a string breaks; as a plain digit, it is none
abbrev pub rule_by : Way → List ℕ → ℕ → NumeralFault
rule_by Digits text char_index = Character
rule_by (Units method) text char_index = rule_broken_at text char_index

-- `reason` is the reason why a string is not read in this way, if it is not
abbrev pub IsReasonBy : Kind → Way → List ℕ → Option NumeralFault → Type 0
IsReasonBy kind way text reason =
    (answer : Result ℤ Refusal) × ReadsBy kind way text answer
    × (reason ≡ reason_in (rule_by way text) answer)

-- the reason why a method does not write a number
abbrev pub unprintable : ℤ → Refusal
unprintable number = if int_lt number (pos 0) then too_small else too_large

-- the characters of a number that is written in this way, or the reason why there are none
abbrev pub written_by : Way → ChineseVariant → ChineseCase → ℤ → Result (List ℕ) Refusal
written_by Digits script case number = Ok (naive_text script case number)
written_by (Units method) script case number =
    if is_printable method number then Ok (spelled_text script case method number)
    else Err (unprintable number)

-- the error is the one for this refusal
abbrev pub Explains : NumberToChineseError → Result (List ℕ) Refusal → Type 0
Explains Overflow written = written ≡ Err too_large
Explains Underflow written = written ≡ Err too_small
Explains OutOfMemory written = ⊥

-- the number is written, and these bytes are its characters
abbrev pub IsText : List ℕ → Result (List ℕ) Refusal → Type 0
IsText bytes written =
    (characters : List ℕ) × (written ≡ Ok characters) × (bytes ≡ encode_utf8_all characters)

-- the number with this sign and magnitude
abbrev pub stands_for : SignedMagnitude → ℤ
stands_for number = signed_number number.negative number.magnitude
