-- What each code means, and what each status says, as in `chinese_number.h`.
use Rattle.std.specs.Prelude.{ℕ, ◌/◌, ◌%◌, ◌==◌, nat_lt, Bool, true, false, List, [], ◌∷◌, ◌++◌, map, Option, Some, None, if◌then◌else◌}
use Rattle.chinese_number.specs.declared.AmountForm.{AmountForm}
use Rattle.chinese_number.specs.declared.ChineseCase.{ChineseCase}
use Rattle.chinese_number.specs.declared.ChineseCase.TheVariants.{Upper, Lower}
use Rattle.chinese_number.specs.declared.ChineseCountMethod.TheVariants.{Low, TenThousand, Middle, High}
use Rattle.chinese_number.specs.declared.ChineseVariant.{ChineseVariant}
use Rattle.chinese_number.specs.declared.ChineseVariant.TheVariants.{Traditional, Simple}
use Rattle.chinese_number.specs.declared.Unit.{Unit as NumeralUnit}
use Rattle.chinese_number.specs.declared.Unit.TheVariants.{Ge, Shi, Bai, Qian, Wan, Yi, Zhao, Jing, Gai, Zi, Rang, Gou, Jian, Zheng, Zai, Ji}
use Rattle.chinese_number.specs.Refusal.{Refusal, empty, incorrect_at, too_large, too_small}
use Rattle.cn_dynamic.specs.declared.IntegerType.{IntegerType}
use Rattle.cn_dynamic.specs.declared.IntegerType.TheVariants.{U8, U16, U32, U64, U128, I8, I16, I32, I64, I128}
use Rattle.cn_message.specs.declared.input.Input.{Input}
use Rattle.cn_message.specs.declared.input.Input.TheVariants.{Amount, SignedAmount, TypedAmount, TypedSignedAmount, Date, Figures}
use Rattle.cn_message.specs.declared.language.Language.{Language}
use Rattle.cn_message.specs.declared.language.Language.TheVariants.{English, Simplified, Traditional}
use Rattle.cn_speech.specs.declared.voice.One.{One}
use Rattle.cn_speech.specs.declared.voice.One.TheVariants.{Yi, Yao}
use Rattle.cn_c.specs.declared.codes.NamedWay.{NamedWay}
use Rattle.cn_c.specs.declared.codes.NamedWay.TheVariants.{By, Either}
use Rattle.cn_dynamic.specs.declared.Way.{Way}
use Rattle.cn_dynamic.specs.declared.Way.TheVariants.{Digits, Units}

-- the integer types, in the order of their codes from 0 on
abbrev pub kinds : List IntegerType
kinds = U8 ∷ U16 ∷ U32 ∷ U64 ∷ U128 ∷ I8 ∷ I16 ∷ I32 ∷ I64 ∷ I128 ∷ []

-- the ways in the order of their codes from 0 on, except either way
abbrev pub ways : List Way
ways = Digits ∷ Units Low ∷ Units TenThousand ∷ Units Middle ∷ Units High ∷ []

-- those ways, and either way after them
abbrev pub named_ways : List NamedWay
named_ways = map By ways ++ Either ∷ []

-- the codes of plain digits, of the standard method and of either way
abbrev pub CN_DIGITS : ℕ
CN_DIGITS = 0

abbrev pub CN_TEN_THOUSAND : ℕ
CN_TEN_THOUSAND = 2

abbrev pub CN_ANY : ℕ
CN_ANY = 5

-- the scripts
abbrev pub scripts : List ChineseVariant
scripts = Traditional ∷ Simple ∷ []

-- the cases
abbrev pub cases : List ChineseCase
cases = Upper ∷ Lower ∷ []

-- a flag, which is a power of two, is among these flags
abbrev pub has_flag : ℕ → ℕ → Bool
has_flag flags flag = flags / flag % 2 == 1

-- the flags of the form of an amount: 人民币 is at its start, 圆 replaces 元, 正 replaces 整, and
-- （负数） replaces 负
abbrev pub CN_CURRENCY : ℕ
CN_CURRENCY = 1

abbrev pub CN_ROUND_YUAN : ℕ
CN_ROUND_YUAN = 2

abbrev pub CN_UPRIGHT_CLOSING : ℕ
CN_UPRIGHT_CLOSING = 4

abbrev pub CN_BRACKETED_SIGN : ℕ
CN_BRACKETED_SIGN = 8

-- the form of an amount, given a sum of any of these flags
abbrev pub form_of : ℕ → Option AmountForm
form_of flags = if nat_lt flags 16 then Some (record {
  currency = has_flag flags CN_CURRENCY;
  round_yuan = has_flag flags CN_ROUND_YUAN;
  upright_closing = has_flag flags CN_UPRIGHT_CLOSING;
  bracketed_sign = has_flag flags CN_BRACKETED_SIGN;
}) else None

-- the units, by rank
abbrev pub units : List NumeralUnit
units =
    Ge ∷ Shi ∷ Bai ∷ Qian ∷ Wan ∷ Yi ∷ Zhao ∷ Jing ∷ Gai ∷ Zi ∷ Rang ∷ Gou ∷ Jian ∷ Zheng ∷ Zai
    ∷ Ji ∷ []

-- what a text is meant to be, in the order of the codes
abbrev pub inputs : List Input
inputs = Amount ∷ SignedAmount ∷ TypedAmount ∷ TypedSignedAmount ∷ Date ∷ Figures ∷ []

-- the languages of messages
abbrev pub languages : List Language
languages = English ∷ Simplified ∷ Traditional ∷ []

-- what is changed in a text
abbrev pub CN_NO_CHANGE : ℕ
CN_NO_CHANGE = 0

abbrev pub CN_INSERT : ℕ
CN_INSERT = 1

abbrev pub CN_REPLACE : ℕ
CN_REPLACE = 2

abbrev pub CN_DELETE : ℕ
CN_DELETE = 3

-- the flags of a number in a text
abbrev pub CN_PLAIN_DIGITS : ℕ
CN_PLAIN_DIGITS = 1

-- the text around the number does not continue it
abbrev pub CN_STANDS_ALONE : ℕ
CN_STANDS_ALONE = 2

-- the number is approximate
abbrev pub CN_ABOUT : ℕ
CN_ABOUT = 4

-- the number is one Chinese character
abbrev pub CN_ONE_CHARACTER : ℕ
CN_ONE_CHARACTER = 8

-- more options of the call that replaces quantities, which are not flags of a number
abbrev pub CN_DOUBTFUL : ℕ
CN_DOUBTFUL = 16

-- great units are not kept
abbrev pub CN_EXPANDED : ℕ
CN_EXPANDED = 32

-- figures are rewritten in ASCII, without commas and leading zeros
abbrev pub CN_CANONICAL : ℕ
CN_CANONICAL = 64

abbrev pub CN_COMPACT : ℕ
CN_COMPACT = 128

abbrev pub CN_CODES : ℕ
CN_CODES = 256

-- the option of the call that speaks a text
abbrev pub CN_YAO : ℕ
CN_YAO = 1

-- the words for 1 in a code, by the options
abbrev pub ones : List One
ones = Yi ∷ Yao ∷ []

-- the codes of doubts
abbrev pub CN_NO_DOUBT : ℕ
CN_NO_DOUBT = 0

abbrev pub CN_DOUBT_WORD : ℕ
CN_DOUBT_WORD = 1

abbrev pub CN_DOUBT_DIGITS : ℕ
CN_DOUBT_DIGITS = 2

abbrev pub CN_DOUBT_TERM : ℕ
CN_DOUBT_TERM = 3

abbrev pub CN_DOUBT_PART : ℕ
CN_DOUBT_PART = 4

abbrev pub CN_DOUBT_TIME : ℕ
CN_DOUBT_TIME = 5

abbrev pub CN_DOUBT_RANGE : ℕ
CN_DOUBT_RANGE = 6

-- the kinds of phrases
abbrev pub CN_PHRASE_KIND_EXPRESSION : ℕ
CN_PHRASE_KIND_EXPRESSION = 0

abbrev pub CN_PHRASE_KIND_DATE : ℕ
CN_PHRASE_KIND_DATE = 1

abbrev pub CN_PHRASE_KIND_YEARS : ℕ
CN_PHRASE_KIND_YEARS = 2

abbrev pub CN_PHRASE_KIND_MONTHS : ℕ
CN_PHRASE_KIND_MONTHS = 3

abbrev pub CN_PHRASE_KIND_DAYS : ℕ
CN_PHRASE_KIND_DAYS = 4

abbrev pub CN_PHRASE_KIND_TIME : ℕ
CN_PHRASE_KIND_TIME = 5

abbrev pub CN_PHRASE_KIND_DURATION : ℕ
CN_PHRASE_KIND_DURATION = 6

abbrev pub CN_PHRASE_KIND_HALF : ℕ
CN_PHRASE_KIND_HALF = 7

abbrev pub CN_PHRASE_KIND_LENGTH : ℕ
CN_PHRASE_KIND_LENGTH = 8

abbrev pub CN_PHRASE_KIND_SCORE : ℕ
CN_PHRASE_KIND_SCORE = 9

abbrev pub CN_PHRASE_KIND_RANGE : ℕ
CN_PHRASE_KIND_RANGE = 10

abbrev pub CN_PHRASE_KIND_MONEY : ℕ
CN_PHRASE_KIND_MONEY = 11

-- what is known of a phrase
abbrev pub CN_PHRASE_STATE_CERTAIN : ℕ
CN_PHRASE_STATE_CERTAIN = 0

abbrev pub CN_PHRASE_STATE_DOUBTFUL : ℕ
CN_PHRASE_STATE_DOUBTFUL = 1

abbrev pub CN_PHRASE_STATE_REFUSED : ℕ
CN_PHRASE_STATE_REFUSED = 2

-- whether a search looks for the forms of the upper case too
abbrev pub uppers : List Bool
uppers = false ∷ true ∷ []

-- the text was read or written, or searched for numbers
abbrev pub CN_DONE : ℕ
CN_DONE = 0

-- the text is empty without its white space and, for a signed type, one sign
abbrev pub CN_EMPTY : ℕ
CN_EMPTY = 1

-- a character cannot be where it is
abbrev pub CN_INCORRECT : ℕ
CN_INCORRECT = 2

-- the number is too large
abbrev pub CN_TOO_LARGE : ℕ
CN_TOO_LARGE = 3

-- the number is too small
abbrev pub CN_TOO_SMALL : ℕ
CN_TOO_SMALL = 4

-- the bytes are not UTF-8, or a search does not begin at a character or at the end of the text
abbrev pub CN_NOT_UTF8 : ℕ
CN_NOT_UTF8 = 5

-- the text does not fit the buffer
abbrev pub CN_NO_ROOM : ℕ
CN_NO_ROOM = 6

-- the type does not hold the number
abbrev pub CN_NOT_HELD : ℕ
CN_NOT_HELD = 7

-- a code names nothing
abbrev pub CN_UNKNOWN : ℕ
CN_UNKNOWN = 8

-- the text is not an amount or a date, but something after it can make it one
abbrev pub CN_UNFINISHED : ℕ
CN_UNFINISHED = 9

-- a row of a column is missing
abbrev pub CN_NONE : ℕ
CN_NONE = 10

-- there is no such date
abbrev pub CN_NOT_A_DATE : ℕ
CN_NOT_A_DATE = 11

-- the denominator of the quantity is 0
abbrev pub CN_NOT_A_QUANTITY : ℕ
CN_NOT_A_QUANTITY = 12

-- the text is too long, which only the C source returns
abbrev pub CN_TOO_LONG : ℕ
CN_TOO_LONG = 4294967295

-- the status that a refusal has
abbrev pub refusal_status : Refusal → ℕ
refusal_status empty = CN_EMPTY
refusal_status (incorrect_at char_index) = CN_INCORRECT
refusal_status too_large = CN_TOO_LARGE
refusal_status too_small = CN_TOO_SMALL
