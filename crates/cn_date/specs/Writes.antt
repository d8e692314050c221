-- How a date is written, and what the printer of dates returns.
use Rattle.std.specs.Prelude.{◌≡◌, ℕ, ◌*◌, List, length, map, codes, slice_index, Result, MatchResult, encode_utf8_all, string_bytes, string_len, string_capacity}
use Rattle.std.specs.declared.string.String.{String}
use Rattle.cn_core.specs.Characters.{digit_char, unit_char}
use Rattle.cn_core.specs.declared.case.ChineseCase.TheVariants.{Upper}
use Rattle.cn_core.specs.declared.script.ChineseVariant.{ChineseVariant}
use Rattle.cn_date.specs.declared.capital.Capital.{Capital}
use Rattle.cn_date.specs.declared.capital.Capital.TheVariants.{Digit, Shi, Nian, Yue, Ri}
use Rattle.cn_date.specs.declared.date.BillDate.{BillDate}
use Rattle.cn_date.specs.declared.error.DateToChineseError.{DateToChineseError}
use Rattle.cn_date.specs.declared.error.DateToChineseError.TheVariants.{NotADate, OutOfMemory}
use Rattle.cn_date.specs.Calendar.{IsDate}
use Rattle.cn_date.specs.Form.{written, date_form}

-- the first character of a text
abbrev pub char_of : List ℕ → ℕ
char_of text = slice_index text 0

-- the character that writes a capital in a script
abbrev pub capital_char : ChineseVariant → Capital → ℕ
capital_char variant (Digit value) = digit_char variant Upper value
capital_char variant Shi = unit_char variant Upper 1
capital_char variant Nian = char_of (codes "年")
capital_char variant Yue = char_of (codes "月")
capital_char variant Ri = char_of (codes "日")

-- the bytes that write capitals
abbrev pub shown : ChineseVariant → List Capital → List ℕ
shown variant capitals = encode_utf8_all (map (capital_char variant) capitals)

-- the characters of a date
abbrev pub date_text : ChineseVariant → BillDate → List ℕ
date_text variant date = map (capital_char variant) (date_form written date)

-- when each refusal occurs: memory is requested only if the date is written
abbrev pub RefusesDate : BillDate → DateToChineseError → Type 0
RefusesDate date NotADate = ¬ IsDate date
RefusesDate date OutOfMemory = IsDate date

-- the text of a date, with three bytes for each character; it holds no more memory than its bytes
pub record IsText {Z : Type 0} (variant : ChineseVariant) (date : BillDate) (text : String Z)
    : Type 0 where
  pub is_date : IsDate date
  pub bytes : string_bytes text ≡ encode_utf8_all (date_text variant date)
  pub len : string_len text ≡ 3 * length (date_text variant date)
  pub capacity : string_capacity text ≡ string_len text

-- the text of a date, or a refusal
abbrev pub WritesDate : {Z : Type 0} → ChineseVariant → BillDate
    → Result (String Z) DateToChineseError → Type 0
WritesDate variant date result = MatchResult result (IsText variant date) (RefusesDate date)
