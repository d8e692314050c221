-- How an amount is written, and what the printers of amounts return.
use Rattle.std.specs.Prelude.{◌≡◌, ℕ, ◌*◌, ◌<◌, ◌≤◌, Bool, true, false, List, length, map, codes, slice_index, Result, MatchResult, encode_utf8_all, string_bytes, string_len, string_capacity}
use Rattle.std.specs.declared.string.String.{String}
use Rattle.cn_core.specs.Characters.{digit_char, minus_char, unit_char}
use Rattle.cn_core.specs.declared.case.ChineseCase.TheVariants.{Upper}
use Rattle.cn_core.specs.declared.script.ChineseVariant.{ChineseVariant}
use Rattle.cn_core.specs.declared.script.ChineseVariant.TheVariants.{Traditional, Simple}
use Rattle.cn_amount.specs.declared.capital.Capital.{Capital}
use Rattle.cn_amount.specs.declared.capital.Capital.TheVariants.{Ling, Digit, Shi, Bai, Qian, Wan, Yi, Yuan, Jiao, Fen, Zheng, Ren, Min, Bi, Fu, Open, Shu, Close}
use Rattle.cn_amount.specs.declared.error.AmountToChineseError.{AmountToChineseError}
use Rattle.cn_amount.specs.declared.error.AmountToChineseError.TheVariants.{Overflow, OutOfMemory}
use Rattle.cn_amount.specs.declared.form.AmountForm.{AmountForm}
use Rattle.cn_amount.specs.declared.form.Hand.{Hand}
use Rattle.cn_amount.specs.Form.{written_as, amount_form}
use Rattle.cn_amount.specs.Places.{amount_limit, places_of}

-- the first character of a text
abbrev pub char_of : List ℕ → ℕ
char_of text = slice_index text 0

-- 元, or 圆 (圓) if the form has it
abbrev pub yuan_char : ChineseVariant → Bool → ℕ
yuan_char variant false = char_of (codes "元")
yuan_char Simple true = char_of (codes "圆")
yuan_char Traditional true = char_of (codes "圓")

-- 整, or 正 if the form has it
abbrev pub closing_char : Bool → ℕ
closing_char false = char_of (codes "整")
closing_char true = char_of (codes "正")

-- 币 (幣)
abbrev pub currency_char : ChineseVariant → ℕ
currency_char Simple = char_of (codes "币")
currency_char Traditional = char_of (codes "幣")

-- 数 (數)
abbrev pub number_char : ChineseVariant → ℕ
number_char Simple = char_of (codes "数")
number_char Traditional = char_of (codes "數")

-- the character that writes a capital in a form
abbrev pub capital_char : ChineseVariant → AmountForm → Capital → ℕ
capital_char variant form Ling = digit_char variant Upper 0
capital_char variant form (Digit value) = digit_char variant Upper value
capital_char variant form Shi = unit_char variant Upper 1
capital_char variant form Bai = unit_char variant Upper 2
capital_char variant form Qian = unit_char variant Upper 3
capital_char variant form Wan = unit_char variant Upper 4
capital_char variant form Yi = unit_char variant Upper 5
capital_char variant form Yuan = yuan_char variant form.round_yuan
capital_char variant form Jiao = char_of (codes "角")
capital_char variant form Fen = char_of (codes "分")
capital_char variant form Zheng = closing_char form.upright_closing
capital_char variant form Ren = char_of (codes "人")
capital_char variant form Min = char_of (codes "民")
capital_char variant form Bi = currency_char variant
capital_char variant form Fu = minus_char variant
capital_char variant form Open = char_of (codes "（")
capital_char variant form Shu = number_char variant
capital_char variant form Close = char_of (codes "）")

-- the character that a hand writes a capital with
abbrev pub char_by : Hand → Capital → ℕ
char_by hand capital = capital_char hand.variant hand.form capital

-- the characters of an amount in a form
abbrev pub amount_text : ChineseVariant → AmountForm → ℕ → List ℕ
amount_text variant form amount =
    map (capital_char variant form) (amount_form (written_as form) (places_of amount))

-- when each refusal occurs: memory is requested only if the amount is written
abbrev pub RefusesAmount : ℕ → AmountToChineseError → Type 0
RefusesAmount amount Overflow = amount_limit ≤ amount
RefusesAmount amount OutOfMemory = amount < amount_limit

-- the text of an amount, with three bytes for each character; it holds no more memory than its
-- bytes
pub record IsText {Z : Type 0} (variant : ChineseVariant) (form : AmountForm) (amount : ℕ)
    (text : String Z) : Type 0 where
  pub below : amount < amount_limit
  pub bytes : string_bytes text ≡ encode_utf8_all (amount_text variant form amount)
  pub len : string_len text ≡ 3 * length (amount_text variant form amount)
  pub capacity : string_capacity text ≡ string_len text

-- the text of an amount in a form, or a refusal
abbrev pub WritesAmountAs : {Z : Type 0} → ChineseVariant → AmountForm → ℕ
    → Result (String Z) AmountToChineseError → Type 0
WritesAmountAs variant form amount result =
    MatchResult result (IsText variant form amount) (RefusesAmount amount)

-- the plain form, which makes none of the choices
abbrev pub plain : AmountForm
plain = record {
  currency = false;
  round_yuan = false;
  upright_closing = false;
  bracketed_sign = false;
}

-- the text of an amount in the plain form, or a refusal
abbrev pub WritesAmount : {Z : Type 0} → ChineseVariant → ℕ
    → Result (String Z) AmountToChineseError → Type 0
WritesAmount variant amount result = WritesAmountAs variant plain amount result
