-- The question that a line asks.
use Rattle.std.specs.Prelude.{◌==◌, ◌&&◌, ◌+◌, ℕ, ℤ, nat_lt, true, false, List, [], ◌∷◌, length, take, drop, position, codes, bytes_eq, Option, Some, None, option_map, option_and_then, if◌then◌else◌}
use Rattle.std.specs.Char.{is_ascii_digit}
use Rattle.std.specs.List.{list_all}
use Rattle.std.specs.Str.{is_utf8}
use Rattle.chinese_number.specs.declared.ChineseVariant.{ChineseVariant}
use Rattle.chinese_number.specs.declared.ChineseVariant.TheVariants.{Traditional, Simple}
use Rattle.chinese_number.specs.declared.ChineseCase.{ChineseCase}
use Rattle.chinese_number.specs.declared.ChineseCase.TheVariants.{Upper, Lower}
use Rattle.chinese_number.specs.Whole.{signed_number}
use Rattle.cn_dynamic.specs.Decimal.{value_of}
use Rattle.cn_dynamic.specs.Ways.{named, way_named}
use Rattle.cn_dynamic.specs.declared.IntegerType.{IntegerType}
use Rattle.cn_dynamic.specs.declared.IntegerType.TheVariants.{U8, U16, U32, U64, U128, I8, I16, I32, I64, I128}
use Rattle.cn_dynamic.specs.declared.Way.{Way}

infixl 10 ◌>>=◌
abbrev pub ◌>>=◌ : {A B : Type 0} → Option A → (A → Option B) → Option B
o >>= f = option_and_then f o

-- a question: to read a text as a number of a type, or to print a number of a type
pub data Question : Type 0 where
  read : IntegerType → Way → List ℕ → Question
  print : IntegerType → Way → ChineseVariant → ChineseCase → ℤ → Question

-- the integer type with this name
abbrev pub type_named : List ℕ → Option IntegerType
type_named name = named name
    ((codes "u8", U8) ∷ (codes "i8", I8) ∷ (codes "u16", U16) ∷ (codes "i16", I16)
    ∷ (codes "u32", U32) ∷ (codes "i32", I32) ∷ (codes "u64", U64) ∷ (codes "i64", I64)
    ∷ (codes "u128", U128) ∷ (codes "i128", I128) ∷ (codes "usize", U64) ∷ (codes "isize", I64)
    ∷ [])

-- the script with this name
abbrev pub script_named : List ℕ → Option ChineseVariant
script_named name = named name ((codes "traditional", Traditional) ∷ (codes "simple", Simple) ∷ [])

-- the case with this name
abbrev pub case_named : List ℕ → Option ChineseCase
case_named name = named name ((codes "upper", Upper) ∷ (codes "lower", Lower) ∷ [])

-- the magnitude that one or more decimal digits write
abbrev pub magnitude_of : List ℕ → Option ℕ
magnitude_of digits =
    if nat_lt 0 (length digits) && list_all is_ascii_digit digits then Some (value_of digits)
    else None

-- the number that decimal digits after at most one minus sign write
abbrev pub decimal_number : List ℕ → Option ℤ
decimal_number [] = None
decimal_number (byte ∷ digits) =
    if byte == 45 then option_map (signed_number true) (magnitude_of digits)
    else option_map (signed_number false) (magnitude_of (byte ∷ digits))

-- the first field, which ends before a space, and everything after the space
abbrev pub cut : List ℕ → Option (List ℕ × List ℕ)
cut bytes =
    option_map (λ end. (take end bytes, drop (end + 1) bytes)) (position (λ byte. byte == 32) bytes)

-- these bytes, if they are UTF-8
abbrev pub utf8_text : List ℕ → Option (List ℕ)
utf8_text bytes = if is_utf8 bytes then Some bytes else None

-- <type> <way> <text>; the text may be empty and may hold spaces
abbrev pub read_question : List ℕ → Option Question
read_question fields = do
  type ← cut fields
  way ← cut type.1
  integer ← type_named type.0
  by ← way_named way.0
  text ← utf8_text way.1
  Some (read integer by text)

-- <type> <way> <script> <case> <decimal>
abbrev pub print_question : List ℕ → Option Question
print_question fields = do
  type ← cut fields
  way ← cut type.1
  script ← cut way.1
  letters ← cut script.1
  integer ← type_named type.0
  by ← way_named way.0
  variant ← script_named script.0
  case ← case_named letters.0
  number ← decimal_number letters.1
  Some (print integer by variant case number)

-- the question after the first word of a line
abbrev pub question_after : List ℕ → List ℕ → Option Question
question_after word fields =
    if bytes_eq word (codes "read") then read_question fields
    else (if bytes_eq word (codes "print") then print_question fields else None)

-- the question of a line that has one of the two forms; all bytes that they allow before a text are
-- ASCII
unfoldable pub question_of : List ℕ → Option Question
question_of line = option_and_then (λ word. question_after word.0 word.1) (cut line)
