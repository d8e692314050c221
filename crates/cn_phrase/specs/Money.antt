-- Sums of money in a text, such as 三块五, 三元五角 and ￥3.50.
use Rattle.std.specs.Prelude.{ℕ, ◌^◌, int_lt, pos, nat_abs, nat_lt, Bool, true, false, not, ◌&&◌, ◌||◌, List, [], ◌∷◌, ◌++◌, reverse, codes, chars, Option, Some, None, is_some, Result, Ok, Err, if◌then◌else◌}
use Rattle.std.specs.Char.{char_set_contains}
use Rattle.std.specs.List.{list_any}
use Rattle.std.specs.Option.{option_and_then, option_map, option_map_or, option_or}
use Rattle.cn_core.specs.declared.method.ChineseCountMethod.TheVariants.{TenThousand}
use Rattle.cn_core.specs.FigureCharacters.{figure_of, is_figure}
use Rattle.cn_core.specs.Refusal.{Refusal}
use Rattle.cn_find.specs.declared.wanted.Wanted.{Wanted}
use Rattle.cn_find.specs.Expressions.{expression_rule, is_han}
use Rattle.cn_find.specs.Flags.{is_one_character}
use Rattle.cn_find.specs.Spans.{Span, run_after, span_of}
use Rattle.cn_find.specs.Words.{begins_with_two}
use Rattle.cn_quantity.specs.declared.quantity.Quantity.{Quantity}
use Rattle.cn_quantity.specs.declared.quantity.QuantityForm.{QuantityForm}
use Rattle.cn_quantity.specs.declared.quantity.QuantityForm.TheVariants.{Whole}
use Rattle.cn_quantity.specs.Reading.{quantity_answer}
use Rattle.cn_replace.specs.Clings.{clings}
use Rattle.cn_replace.specs.Pieces.{begins}
use Rattle.cn_phrase.specs.declared.money.Digit.{Digit as CodeDigit}
use Rattle.cn_phrase.specs.declared.money.Money.{Money as CodeMoney}
use Rattle.cn_phrase.specs.declared.money.MoneyForm.{MoneyForm}
use Rattle.cn_phrase.specs.declared.money.MoneyForm.TheVariants.{Signed, Yuan, Kuai, Parts, Small}
use Rattle.cn_phrase.specs.declared.money.Tail.{Tail as CodeTail}
use Rattle.cn_phrase.specs.Between.{characters_before, part_between}
use Rattle.cn_phrase.specs.Phrases.{is_name}
use Rattle.cn_phrase.specs.Pieces.{is_numeral, without_blank}
use Rattle.cn_phrase.specs.Ranges.{is_end, is_percent}
use Rattle.cn_phrase.specs.Shapes.{counting_digit}
use Rattle.cn_phrase.specs.Words.{after_any, after_one, after_two}
use Rattle.cn_phrase.specs.Written.{passed_text}

-- a digit of jiao or fen, and the text after it or after its unit
pub record Digit : Type 0 where
  pub value : ℕ
  pub rest : List ℕ

-- what is after the number of a sum: its jiao and fen, 0 if they are not said, and the text after the
-- sum
pub record Tail : Type 0 where
  pub form : MoneyForm
  pub jiao : ℕ
  pub fen : ℕ
  pub rest : List ℕ

-- a sum of money: the sign before its number, with the blank after that; the number; what is between
-- the number and the end of the sum; the jiao and fen; and the text after the sum
pub record Money : Type 0 where
  pub form : MoneyForm
  pub sign : List ℕ
  pub number : Span
  pub tail : List ℕ
  pub jiao : ℕ
  pub fen : ℕ
  pub rest : List ℕ

-- what a `Digit`, a `Tail` and a `Money` in the code are
abbrev pub digit_of : CodeDigit → Digit
digit_of d = record { value = d.value; rest = chars d.rest.now }

abbrev pub tail_of : CodeTail → Tail
tail_of t = record { form = t.form; jiao = t.jiao; fen = t.fen; rest = chars t.rest.now }

abbrev pub money_of : CodeMoney → Money
money_of m = record {
  form = m.form;
  sign = m.sign.now;
  number = span_of m.number;
  tail = m.tail.now;
  jiao = m.jiao;
  fen = m.fen;
  rest = chars m.rest.now;
}

-- the value of a digit of jiao or fen: a figure, or a Chinese digit from 1 to 9
abbrev pub part_digit : ℕ → Option ℕ
part_digit c = option_or (figure_of c) (counting_digit c)

-- the character may be after 一 in the price of one, such as 一斤
unfoldable pub is_priced : ℕ → Bool
is_priced c = char_set_contains (codes "斤个個公两兩克份张張条條件只隻瓶包箱盒本套台杯碗串双雙把枚颗顆粒根支袋片位人次天晚月年平方米尺度吨噸升桶筒盘盤捆束朵辆輛间間桌副对對罐小") c

-- the text begins with the price of one
abbrev pub begins_one : List ℕ → Bool
begins_one text = option_map_or (λ rest. begins is_priced rest) (after_one (codes "一") text) false

-- the text begins with a Chinese digit and such a character: 两瓶
abbrev pub begins_count : List ℕ → Bool
begins_count [] = false
begins_count (c ∷ rest) = is_some (counting_digit c) && begins is_priced rest

-- the character may be after each sum that ends with a digit
unfoldable pub is_particle : ℕ → Bool
is_particle c = char_set_contains (codes "的了吧啊呢吗嗎嘛呀哦啦哈咯") c

-- the character may be after a sum that ends with a digit other than 一
unfoldable pub is_next_word : ℕ → Bool
is_next_word c = char_set_contains (codes "就也都还還才每左以不够夠涨漲降到至和或与與及跟卖賣买買给給收找退付便太贵貴好行可拿起没沒是那这這很真算要然") c

abbrev pub begins_next_word : List ℕ → Bool
begins_next_word text = begins is_next_word text || begins_with_two (codes "包") (codes "邮郵") text

-- a percent sign, or a mark of names
unfoldable pub is_share : ℕ → Bool
is_share c = char_set_contains (codes "%％‰") c

unfoldable pub is_point : ℕ → Bool
is_point c = char_set_contains (codes ".．,") c

-- the character after a digit goes on with it: a numeral character, a percent sign, a letter or `_`, or,
-- after a figure, a point or a comma with a figure after it
abbrev pub goes_on : ℕ → ℕ → List ℕ → Bool
goes_on digit c rest =
    is_numeral c
    || (is_share c || (is_name c || (is_point c && (is_figure digit && begins is_figure rest))))

unfoldable pub is_one : ℕ → Bool
is_one c = char_set_contains (codes "一") c

-- a sum may end with a digit before this text
abbrev pub may_end : ℕ → List ℕ → Bool
may_end digit [] = true
may_end digit (c ∷ rest) =
    begins_one (c ∷ rest)
    || (is_particle c
    || (if is_han c then not (is_one digit) && begins_next_word (c ∷ rest)
    else not (goes_on digit c rest)))

-- a digit with which a text begins
abbrev pub digit_at : List ℕ → Option Digit
digit_at [] = None
digit_at (c ∷ rest) = option_map (λ n. record { value = n; rest = rest }) (part_digit c)

-- a digit with which a sum may end
abbrev pub open_digit : List ℕ → Option Digit
open_digit [] = None
open_digit (c ∷ rest) = if may_end c rest then digit_at (c ∷ rest) else None

-- the text after the last unit of a sum, and after 钱 if that is next; none if one of these characters
-- is next, which makes a word with the unit
abbrev pub after_last : List ℕ → List ℕ → Option (List ℕ)
after_last refused text =
    if begins (λ c. char_set_contains refused c) text then None else Some (after_any (codes "钱錢") text)

-- after 分 at the end of a sum, but not in 五分钟, 七分熟
abbrev pub after_fen : List ℕ → Option (List ℕ)
after_fen text =
    option_and_then (λ rest. after_last (codes "钟鐘之熟地天甜糖") rest) (after_one (codes "分") text)

-- after 角 or 毛, the text after which is this, at the end of a sum, but not in 三角形, 五角星
abbrev pub after_last_jiao : List ℕ → Option (List ℕ)
after_last_jiao text = after_last (codes "形星板铁鐵架尺旗洲债債恋戀区區巾毯豆线線衣地裤褲钉釘函茴楼樓亭帽梅枫楓鼎落度戏戲色球钢鋼龙龍鲨鯊羊") text

-- a digit and 分
abbrev pub fen_digit : List ℕ → Option Digit
fen_digit text =
    option_and_then (λ d. option_map (λ rest. record { value = d.value; rest = rest }) (after_fen d.rest))
    (digit_at text)

abbrev pub parts : MoneyForm → ℕ → ℕ → List ℕ → Tail
parts form jiao fen rest = record { form = form; jiao = jiao; fen = fen; rest = rest }

-- after some jiao: a digit and 分, or a digit
abbrev pub fen_after : MoneyForm → ℕ → List ℕ → Option Tail
fen_after form jiao text =
    option_map (λ d. parts form jiao d.value d.rest) (option_or (fen_digit text) (open_digit text))

-- after some jiao: a digit and 分, a digit, or the end of the sum
abbrev pub after_jiao : ℕ → List ℕ → Option Tail
after_jiao jiao text =
    option_or (fen_after Parts jiao text)
    (option_map (λ rest. parts Parts jiao 0 rest) (after_last_jiao text))

-- a digit and 角, and what is after that
abbrev pub jiao_at : List ℕ → Option Tail
jiao_at text = option_and_then (λ d.
    option_and_then (λ rest. after_jiao d.value rest) (after_one (codes "角毛") d.rest)) (digit_at text)

-- a digit and 分, without 角
abbrev pub fen_at : List ℕ → Option Tail
fen_at text = option_map (λ d. parts Parts 0 d.value d.rest) (fen_digit text)

-- after 元, and perhaps 零: a digit and 角, or a digit and 分
abbrev pub after_yuan : List ℕ → Option Tail
after_yuan text =
    option_or (jiao_at (after_any (codes "零〇") text)) (fen_at (after_any (codes "零〇") text))

-- after 块: the same, or a digit of jiao
abbrev pub after_kuai : List ℕ → Option Tail
after_kuai text =
    option_or (after_yuan text) (option_map (λ d. parts Parts d.value 0 d.rest) (open_digit text))

-- the jiao and fen after a number of yuan
abbrev pub parts_at : List ℕ → Option Tail
parts_at text =
    option_or (option_and_then (λ rest. after_yuan rest) (after_one (codes "元圆圓") text))
    (option_and_then (λ rest. after_kuai rest) (after_one (codes "块塊") text))

-- the number of yuan that can have jiao and fen: a whole number below 10^16
abbrev pub is_whole_form : QuantityForm → Bool
is_whole_form Whole = true
is_whole_form form = false

abbrev pub below_most : ℕ → Option ℕ
below_most n = if nat_lt n (10 ^ 16) then Some n else None

abbrev pub whole_of : Quantity → Option ℕ
whole_of q =
    if is_whole_form q.form && not (int_lt q.numerator (pos 0)) then below_most (nat_abs q.numerator)
    else None

abbrev pub whole_yuan_of : Result Quantity Refusal → Option ℕ
whole_yuan_of (Ok q) = whole_of q
whole_yuan_of (Err refusal) = None

abbrev pub whole_yuan : List ℕ → Option ℕ
whole_yuan number = whole_yuan_of (quantity_answer TenThousand number)

-- after a number of yuan: jiao and fen, or 元钱
abbrev pub tail_of_yuan : List ℕ → List ℕ → Option Tail
tail_of_yuan number text =
    option_or (option_and_then (λ t. if is_some (whole_yuan number) then Some t else None) (parts_at text))
    (option_map (λ rest. parts Parts 0 0 rest) (after_two (codes "元圆圓块塊") (codes "钱錢") text))

-- the value of a number that is one digit of jiao or fen
abbrev pub single_digit : List ℕ → Option ℕ
single_digit (c ∷ []) = part_digit c
single_digit text = None

-- after a number of jiao: 角 and a digit and 分, 角 and a digit, or 角钱
abbrev pub after_small_jiao : ℕ → List ℕ → Option Tail
after_small_jiao jiao text =
    option_or (fen_after Small jiao text)
    (option_map (λ rest. parts Small jiao 0 rest) (after_one (codes "钱錢") text))

-- after a number that is one digit: the same, or 分钱
abbrev pub after_digit : ℕ → List ℕ → Option Tail
after_digit n text =
    option_or (option_and_then (λ rest. after_small_jiao n rest) (after_one (codes "角毛") text))
    (option_map (λ rest. parts Small 0 n rest) (after_two (codes "分") (codes "钱錢") text))

abbrev pub tail_of_digit : List ℕ → List ℕ → Option Tail
tail_of_digit number text = option_and_then (λ n. after_digit n text) (single_digit number)

-- 元 before this character is a part of a word, as in 元旦, or what is before it is approximate
unfoldable pub is_no_yuan : ℕ → Bool
is_no_yuan c = char_set_contains (codes "半几幾多余餘来來旦宵素组組音件宇桌形周心柱锥錐") c

-- 元月, but not before what is paid by the month, such as 租
abbrev pub begins_first_month : List ℕ → Bool
begins_first_month text = option_map_or
    (λ rest. not (begins (λ c. char_set_contains (codes "租费費供薪卡票均收付缴繳") c) rest))
    (after_one (codes "月") text) false

-- 元 can be a unit without jiao and fen before this text
abbrev pub may_be_alone : List ℕ → Bool
may_be_alone text =
    begins_count text
    || (not (begins is_numeral text) && (not (begins is_no_yuan text) && not (begins_first_month text)))

abbrev pub alone : MoneyForm → List ℕ → Option Tail
alone form rest = if may_be_alone rest then Some (parts form 0 0 rest) else None

-- after a number of yuan: 元 alone, or 块 if the number is not one Chinese character
abbrev pub tail_alone : List ℕ → List ℕ → Option Tail
tail_alone number text =
    option_or (option_and_then (λ rest. alone Yuan rest) (after_one (codes "元圆圓") text))
    (option_and_then (λ rest. if is_one_character number then None else alone Kuai rest)
    (after_one (codes "块塊") text))

-- what is after a number, without a blank: its bytes and its characters are given
abbrev pub tail_by : List ℕ → List ℕ → List ℕ → Option Tail
tail_by bytes number text =
    option_or (tail_of_yuan bytes text) (option_or (tail_of_digit number text) (tail_alone number text))

-- what is after a number; one blank may be after one with figures
abbrev pub tail_at : List ℕ → List ℕ → Option Tail
tail_at number text =
    tail_by number (chars number) (without_blank (list_any is_figure (chars number)) text)

-- an expression can be the number of a sum: a quantity that is no fraction, no percentage, not below 0,
-- not approximate, and not a part of what is before it
abbrev pub is_amount : Span → Bool
is_amount number =
    is_end number && (not (is_percent number.text) && not (clings (chars number.before) []))

-- a sum whose number is this, without a sign before it; the characters after the number are `text`
abbrev pub counted : Span → List ℕ → Option Money
counted number text = option_and_then (λ t. if is_amount number then Some (record {
  form = t.form;
  sign = [];
  number = number;
  tail = passed_text text t.rest;
  jiao = t.jiao;
  fen = t.fen;
  rest = t.rest;
}) else None) (tail_at number.text text)

-- a sum of money that begins with an expression
abbrev pub counted_at : Wanted → List ℕ → List ℕ → Option Money
counted_at wanted front text =
    option_and_then (λ rest. counted (part_between front text rest) rest)
    (run_after (expression_rule wanted) front text)

unfoldable pub is_sign : ℕ → Bool
is_sign c = char_set_contains (codes "￥¥") c

-- a sum whose number, after a sign, is this, and begins with a figure
abbrev pub signed : List ℕ → Span → List ℕ → Option Money
signed sign number text = if begins is_figure (chars number.text) && is_amount number then Some (record {
  form = Signed;
  sign = sign;
  number = number;
  tail = [];
  jiao = 0;
  fen = 0;
  rest = text;
}) else None

-- a sum after a sign, given the text from the sign on and the text after the sign and a blank
abbrev pub signed_from : Wanted → List ℕ → List ℕ → List ℕ → Option Money
signed_from wanted front text start =
    let before = reverse (characters_before text start) ++ front in
    option_and_then (λ rest. signed (passed_text text start) (part_between before start rest) rest)
    (run_after (expression_rule wanted) before start)

-- a sum of money that begins with a sign; none directly after a letter, a figure or `_`
abbrev pub signed_at : Wanted → List ℕ → List ℕ → Option Money
signed_at wanted front [] = None
signed_at wanted front (c ∷ ahead) =
    if is_sign c && (not (begins is_name front) && not (begins is_figure front))
    then signed_from wanted front (c ∷ ahead) (without_blank false ahead) else None

-- the sum of money that begins with a text, if one does; the characters before it are `front`
abbrev pub money_at : Wanted → List ℕ → List ℕ → Option Money
money_at wanted front text = option_or (signed_at wanted front text) (counted_at wanted front text)
