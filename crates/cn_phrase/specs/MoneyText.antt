-- The value of a sum of money, its doubt, and its text in figures.
use Rattle.std.specs.Prelude.{ℕ, ◌+◌, ◌*◌, ◌/◌, ◌%◌, ◌^◌, ◌==◌, pos, nat_abs, nat_lt, Bool, true, false, not, ◌&&◌, ◌||◌, List, [], ◌∷◌, ◌++◌, codes, chars, take, drop, encode_utf8_all, Option, Some, None, is_some, if◌then◌else◌}
use Rattle.std.specs.Char.{char_set_contains, encode_utf8}
use Rattle.std.specs.List.{list_any}
use Rattle.std.specs.Option.{option_and_then, option_map, option_map_or}
use Rattle.std.specs.Result.{result_ok}
use Rattle.cn_core.specs.declared.method.ChineseCountMethod.{ChineseCountMethod}
use Rattle.cn_core.specs.declared.method.ChineseCountMethod.TheVariants.{TenThousand}
use Rattle.cn_core.specs.FigureCharacters.{is_figure}
use Rattle.cn_find.specs.Words.{begins_with_two, is_exactly, is_title_open}
use Rattle.cn_quantity.specs.declared.quantity.Quantity.{Quantity}
use Rattle.cn_quantity.specs.declared.quantity.QuantityForm.TheVariants.{Decimal}
use Rattle.cn_quantity.specs.Reading.{quantity_answer}
use Rattle.cn_quantity_text.specs.Figures.{figures_text}
use Rattle.cn_replace.specs.declared.options.Figures.{Figures}
use Rattle.cn_replace.specs.declared.options.Style.{Style}
use Rattle.cn_replace.specs.declared.options.Style.TheVariants.{Kept, Expanded}
use Rattle.cn_replace.specs.InFigures.{figures_for}
use Rattle.cn_replace.specs.KeptNumbers.{and_text}
use Rattle.cn_replace.specs.Pieces.{is_unit_from}
use Rattle.cn_phrase.specs.declared.money.MoneyForm.{MoneyForm}
use Rattle.cn_phrase.specs.declared.money.MoneyForm.TheVariants.{Signed, Yuan, Kuai, Small}
use Rattle.cn_phrase.specs.Money.{Money, whole_yuan}
use Rattle.cn_phrase.specs.Ranges.{is_doubtful_end, product, text_in_style}
use Rattle.cn_phrase.specs.Shapes.{counting_digit}

-- some jiao or fen are said
abbrev pub has_parts : Money → Bool
has_parts m = nat_lt 0 m.jiao || nat_lt 0 m.fen

-- the number of yuan before jiao and fen
abbrev pub yuan_before : MoneyForm → List ℕ → Option ℕ
yuan_before Small number = Some 0
yuan_before form number = whole_yuan number

-- a number of fen, in yuan
abbrev pub of_fen : ℕ → Quantity
of_fen fen = record { numerator = pos fen; denominator = 100; form = Decimal }

-- the value of a sum, in yuan
abbrev pub yuan_of : Money → Option Quantity
yuan_of m =
    if has_parts m
    then option_map (λ yuan. of_fen (100 * yuan + 10 * m.jiao + m.fen)) (yuan_before m.form m.number.text)
    else result_ok (quantity_answer TenThousand m.number.text)

-- a quotient, if it is a whole number below 10^18
abbrev pub whole_quotient : ℕ → ℕ → Option ℕ
whole_quotient n denominator =
    if denominator == 0 then None
    else (if n % denominator == 0 && nat_lt (n / denominator) (10 ^ 18) then Some (n / denominator) else None)

-- the value in fen of a number of yuan that is not below 0, if it is a whole number below 10^18
abbrev pub fen_of_yuan : Quantity → Option ℕ
fen_of_yuan q =
    option_and_then (λ n. whole_quotient n q.denominator) (product (nat_abs q.numerator) 100)

abbrev pub fen_of : Money → Option ℕ
fen_of m = option_and_then fen_of_yuan (yuan_of m)

-- the number of a sum is written as the expression by itself
abbrev pub is_alone : MoneyForm → Bool
is_alone Signed = true
is_alone Yuan = true
is_alone Kuai = true
is_alone form = false

abbrev pub is_kuai : MoneyForm → Bool
is_kuai Kuai = true
is_kuai form = false

abbrev pub is_yuan : MoneyForm → Bool
is_yuan Yuan = true
is_yuan form = false

-- the number is one Chinese digit
abbrev pub is_one_digit : List ℕ → Bool
is_one_digit (c ∷ []) = is_some (counting_digit c)
is_one_digit text = false

-- 一元 or 二元 may count variables
abbrev pub may_be_variables : Money → Bool
may_be_variables m = is_yuan m.form && is_one_digit (chars m.number.text)

-- the text is a unit and 钱
abbrev pub is_unit_and_qian : List ℕ → Bool
is_unit_and_qian (unit ∷ c ∷ []) = char_set_contains (codes "钱錢") c
is_unit_and_qian text = false

-- 一分钱, 一毛钱 or 一块钱: very little
abbrev pub may_be_little : Money → Bool
may_be_little m = is_exactly (codes "一") (chars m.number.text) && is_unit_and_qian (chars m.tail)

-- another currency is named before a sum. Of the characters before it the nearest is the first
abbrev pub follows_currency : List ℕ → Bool
follows_currency [] = false
follows_currency (c ∷ front) =
    char_set_contains (codes "$＄€£") c
    || (char_set_contains (codes "币幣") c && not (begins_with_two (codes "民") (codes "人") front))

-- a sum may mean something else, is of another currency, or is in a title
abbrev pub is_money_doubtful : List ℕ → Money → Bool
is_money_doubtful front m =
    is_kuai m.form
    || (may_be_variables m
    || (may_be_little m || (follows_currency front || (is_doubtful_end m.number || is_title_open 40 front))))

-- a Chinese digit from 1 to 9 as its figure, and any other character unchanged
abbrev pub part_character : ℕ → List ℕ
part_character c =
    option_map_or (λ n. take 1 (drop n (codes "0123456789"))) (counting_digit c) (encode_utf8 c)

-- each of these characters
abbrev pub part_text : List ℕ → List ℕ
part_text [] = []
part_text (c ∷ text) = part_character c ++ part_text text

-- the style writes out the units of a number
abbrev pub has_expanded : Style → List ℕ → Bool
has_expanded Kept text = false
has_expanded Expanded text = list_any (is_unit_from 2) text

-- the new text of a number; it stays if it has figures and nothing is written out
abbrev pub number_new : Style → List ℕ → Option (List ℕ)
number_new style text =
    if list_any is_figure text && not (has_expanded style text)
    then Some (encode_utf8_all text) else text_in_style style text

-- the number as an expression by itself, with the sign before it and the unit after it
abbrev pub alone_text : ChineseCountMethod → Figures → Money → Option (List ℕ)
alone_text method options m =
    and_text (Some m.sign) (and_text (figures_for method options m.number) (Some m.tail))

-- the number and the jiao and fen in figures
abbrev pub parts_text : Style → Money → Option (List ℕ)
parts_text style m =
    and_text (number_new style (chars m.number.text)) (Some (part_text (chars m.tail)))

-- the yuan in figures, and 元
abbrev pub compact_text : Money → Option (List ℕ)
compact_text m = option_map (λ q. figures_text q ++ encode_utf8_all (codes "元")) (yuan_of m)

abbrev pub written_text : Figures → Money → Option (List ℕ)
written_text options m =
    if options.compact && has_parts m then compact_text m else parts_text options.style m

-- the new text of a sum of money, if it has one; the characters before it are `front`
abbrev pub money_new : ChineseCountMethod → Figures → List ℕ → Money → Option (List ℕ)
money_new method options front m =
    if is_alone m.form then alone_text method options m
    else (if options.included.doubtful || not (is_money_doubtful front m)
    then written_text options m else None)
