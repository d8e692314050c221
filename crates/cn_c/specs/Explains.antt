-- What the calls on why a text is refused write and return.
use Rattle.std.specs.Prelude.{◌≡◌, ℕ, List, Option, Some, None, slice_get}
use Rattle.std.specs.Option.{option_map_or}
use Rattle.std.specs.Bool.{MatchBool}
use Rattle.std.specs.Str.{is_utf8}
use Rattle.chinese_number.specs.declared.ChineseCountMethod.{ChineseCountMethod}
use Rattle.cn_dynamic.specs.declared.IntegerType.{IntegerType}
use Rattle.cn_dynamic.specs.IntegerTypes.{the_kind}
use Rattle.cn_dynamic.specs.Ways.{IsReasonBy}
use Rattle.cn_judge.specs.declared.fault.NumeralFault.{NumeralFault}
use Rattle.cn_judge.specs.declared.fault.NumeralFault.TheVariants.{Empty, TooLarge, TooSmall, Start, Character, Digits, Units, Ge, Groups}
use Rattle.cn_quantity.specs.declared.fault.QuantityFault.{QuantityFault}
use Rattle.cn_quantity.specs.declared.fault.QuantityFault.TheVariants.{Numeral, Misread, Denominator}
use Rattle.cn_quantity.specs.declared.misread.MisreadFault.{MisreadFault}
use Rattle.cn_quantity.specs.declared.misread.MisreadFault.TheVariants.{BareTen, RepeatedTen, AfterZero, Weight, TwoReadings, LeftOutZero}
use Rattle.cn_quantity.specs.Reason.{quantity_fault}
use Rattle.cn_c.specs.declared.codes.NamedWay.{NamedWay}
use Rattle.cn_c.specs.Codes.{kinds, named_ways, CN_DONE, CN_NOT_UTF8, CN_UNKNOWN}
use Rattle.cn_c.specs.Quantities.{method_of}
use Rattle.cn_c.specs.Reads.{way_meant}

-- the code of the reason why a text is not a number
abbrev pub numeral_code : NumeralFault → ℕ
numeral_code Empty = 1
numeral_code TooLarge = 2
numeral_code TooSmall = 3
numeral_code Start = 4
numeral_code Character = 5
numeral_code Digits = 6
numeral_code Units = 7
numeral_code Ge = 8
numeral_code Groups = 9

-- the code of the rule by which a text is misread
abbrev pub misread_code : MisreadFault → ℕ
misread_code BareTen = 10
misread_code RepeatedTen = 11
misread_code AfterZero = 12
misread_code Weight = 13
misread_code TwoReadings = 14
misread_code LeftOutZero = 15

-- the code of the reason why a text is not a quantity
abbrev pub quantity_code : QuantityFault → ℕ
quantity_code (Numeral fault) = numeral_code fault
quantity_code (Misread fault) = misread_code fault
quantity_code Denominator = 16

-- the code of a reason, and 0 if there is none
abbrev pub code_if : {A : Type 0} → (A → ℕ) → Option A → ℕ
code_if code reason = option_map_or code reason 0

-- the result of asking why bytes are not read as a number of a type in a way
abbrev pub ExplainsNumber : IntegerType → NamedWay → List ℕ → ℕ → ℕ → Type 0
ExplainsNumber integer way bytes status fault =
    (status ≡ CN_DONE) × ((reason : Option NumeralFault)
    × IsReasonBy (the_kind integer) (way_meant (the_kind integer) way bytes) bytes reason
    × (fault ≡ code_if numeral_code reason))

-- the same, or UNKNOWN if a type or a way is not named
abbrev pub IsNumberExplainedAs : Option IntegerType → Option NamedWay → List ℕ → ℕ → ℕ → Type 0
IsNumberExplainedAs (Some integer) (Some way) bytes status fault =
    MatchBool (is_utf8 bytes) (ExplainsNumber integer way bytes status fault)
    ((status ≡ CN_NOT_UTF8) × (fault ≡ 0))
IsNumberExplainedAs integer way bytes status fault = (status ≡ CN_UNKNOWN) × (fault ≡ 0)

-- the same, given the codes of a type and a way
abbrev pub IsNumberExplained : List ℕ → ℕ → ℕ → ℕ → ℕ → Type 0
IsNumberExplained bytes kind way status fault =
    IsNumberExplainedAs (slice_get kinds kind) (slice_get named_ways way) bytes status fault

-- the result of asking why bytes are not read as a quantity, or UNKNOWN if no method is named
abbrev pub IsQuantityExplainedAs : Option ChineseCountMethod → List ℕ → ℕ → ℕ → Type 0
IsQuantityExplainedAs (Some method) bytes status fault =
    MatchBool (is_utf8 bytes)
    ((status ≡ CN_DONE) × (fault ≡ code_if quantity_code (quantity_fault method bytes)))
    ((status ≡ CN_NOT_UTF8) × (fault ≡ 0))
IsQuantityExplainedAs None bytes status fault = (status ≡ CN_UNKNOWN) × (fault ≡ 0)

-- the same, given the code of a method
abbrev pub IsQuantityExplained : List ℕ → ℕ → ℕ → ℕ → Type 0
IsQuantityExplained bytes method status fault =
    IsQuantityExplainedAs (method_of (slice_get named_ways method)) bytes status fault
