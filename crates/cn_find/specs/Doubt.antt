-- Why an expression may mean something else than its quantity. Of the characters before an
-- expression (`front`) the nearest is the first in the list.
use Rattle.std.specs.Prelude.{ℕ, Bool, true, false, not, ◌&&◌, ◌||◌, nat_le, List, [], ◌∷◌, length, reverse, codes, chars, Option, Some, None, if◌then◌else◌}
use Rattle.std.specs.Char.{char_set_contains}
use Rattle.std.specs.List.{list_all}
use Rattle.std.specs.Option.{option_map_or}
use Rattle.cn_core.specs.Characters.{digit_of}
use Rattle.cn_find.specs.declared.doubt.Doubt.{Doubt}
use Rattle.cn_find.specs.declared.doubt.Doubt.TheVariants.{Word, Digits, Term, Part, Time, Range}
use Rattle.cn_find.specs.Belongs.{begins_with, first_is, first_then, is_chinese_digit}
use Rattle.cn_find.specs.Expressions.{is_han}
use Rattle.cn_find.specs.Ranges.{is_end_of_range}
use Rattle.cn_find.specs.Words.{begins_with_two, is_of_word}

-- the text begins with a character of the first set, and no character of the second set follows it
abbrev pub begins_without : List ℕ → List ℕ → List ℕ → Bool
begins_without first second text =
    begins_with first text && not (begins_with_two first second text)

-- each character is a digit, and none is an ASCII digit
abbrev pub are_chinese_digits : List ℕ → Bool
are_chinese_digits text = list_all is_chinese_digit text

-- the value is at most the first digit of the text; this also holds if either is not a digit
abbrev pub is_up_to_first : Option ℕ → List ℕ → Bool
is_up_to_first value [] = true
is_up_to_first value (c ∷ text) =
    option_map_or (λ v. option_map_or (λ next. nat_le v next) (digit_of c) true) value true

-- no digit is smaller than a digit directly before it
abbrev pub do_rise : List ℕ → Bool
do_rise [] = true
do_rise (c ∷ text) = is_up_to_first (digit_of c) text && do_rise text

-- the character is a Chinese digit from 1 to 9
abbrev pub counts : ℕ → Bool
counts c = is_chinese_digit c && not (char_set_contains (codes "零〇") c)

-- the text begins with a digit and 十
abbrev pub begins_tens : List ℕ → Bool
begins_tens text = first_then is_chinese_digit (begins_with (codes "十")) text

-- the text has 十, a digit and 十 one after another, and so is two numbers: 十五十六
abbrev pub has_two_tens : List ℕ → Bool
has_two_tens [] = false
has_two_tens (c ∷ text) = (char_set_contains (codes "十") c && begins_tens text) || has_two_tens text

-- the text may be a list: it is two or three Chinese digits, or more that do not begin with 零 or
-- 〇 and of which none is smaller than the one before it
abbrev pub may_be_list : List ℕ → Bool
may_be_list text =
    are_chinese_digits text
    && (nat_le 2 (length text) && (nat_le (length text) 3
    || (do_rise text && not (begins_with (codes "零〇") text))))

-- the text names a year or a room, or the minutes of a time: 年 without 级, or one of 号室房,
-- follows it, or 办; or it is after a building, such as 楼, or after 号 or 码; or it begins with 零 or 〇 after 点, 分 or 时 and
-- before 分 or 秒
abbrev pub are_of_name : List ℕ → List ℕ → List ℕ → Bool
are_of_name front text after =
    begins_without (codes "年") (codes "级級") after
    || (begins_with (codes "号號室房办辦") after
    || (begins_with (codes "楼樓栋棟座幢号號码碼") front
    || (begins_with (codes "零〇") text
    && (begins_with (codes "点點分时時") front && begins_with (codes "分秒") after))))

-- the text is two numbers, or may be a list and is not such a name
abbrev pub is_doubtful_list : List ℕ → List ℕ → List ℕ → Bool
is_doubtful_list front text after =
    has_two_tens text || (may_be_list text && not (are_of_name front text after))

-- some character of the text is 点 or 點
abbrev pub has_point : List ℕ → Bool
has_point [] = false
has_point (c ∷ text) = char_set_contains (codes "点點") c || has_point text

-- the characters begin with 届, a Chinese digit and 中, as in 十一届三中全会
abbrev pub begins_plenum : List ℕ → Bool
begins_plenum after =
    first_then (char_set_contains (codes "届屆"))
    (first_then is_chinese_digit (begins_with (codes "中"))) after

-- the text is part of a term, as in 负二项, 两点三划线, 十六进制 and 十一届三中
abbrev pub is_term : List ℕ → List ℕ → Bool
is_term text after =
    (begins_with (codes "负負") text && begins_with (codes "项項楼樓層层") after)
    || ((has_point text && begins_with (codes "划劃线線") after)
    || (begins_with_two (codes "进進") (codes "制位") after || begins_plenum after))

-- the text is a percentage before a unit, as in 百分之一秒
abbrev pub is_hundredth : List ℕ → List ℕ → Bool
is_hundredth text after =
    begins_with (codes "秒毫厘釐克") after && begins_with_two (codes "百") (codes "分") text

-- 分之几 is after the text, as in 十六分之几
abbrev pub begins_some_shares : List ℕ → Bool
begins_some_shares after =
    first_then (char_set_contains (codes "分")) (begins_with_two (codes "之") (codes "几幾")) after

-- what is after 条 is no word that 条 counts
abbrev pub is_end_of_article : List ℕ → Bool
is_end_of_article others =
    not (first_is is_han others) || begins_with (codes "第之规規和及与與或至到") others

-- an article of a law, or a national congress or census, goes on with this text
abbrev pub begins_article : List ℕ → Bool
begins_article after =
    first_then (char_set_contains (codes "条條")) is_end_of_article after
    || begins_with_two (codes "次") (codes "全") after

-- the text is the number of an article after 第, as in 第二百六十四条, or of 第二十次全国代表大会
abbrev pub is_of_article : List ℕ → List ℕ → Bool
is_of_article front after = begins_with (codes "第") front && begins_article after

-- the text is part of a phrase with 折, 成, 半 or a share, as in 八五折, 三成, 十五天半, 十六分之几 and
-- 百分之一秒
abbrev pub is_part : List ℕ → List ℕ → Bool
is_part text after =
    begins_without (codes "折") (codes "算合旧舊叠疊磨返") after
    || ((begins_with (codes "成") after
    && (are_chinese_digits text && nat_le (length text) 2))
    || (begins_with_two
    (codes "个個倍天岁歲里年月日号號點点时時分秒刻元圆圓块塊角毛度米斤两兩") (codes "半") after
    || (is_hundredth text after || begins_some_shares after)))

-- the text, given last character first, is an hour from 一 to 二十四
abbrev pub is_hour : List ℕ → Bool
is_hour (c ∷ []) = counts c || char_set_contains (codes "十") c
is_hour (d ∷ c ∷ []) =
    (char_set_contains (codes "十") c && counts d)
    || (char_set_contains (codes "二两兩") c && char_set_contains (codes "十") d)
is_hour (e ∷ d ∷ c ∷ []) =
    char_set_contains (codes "二") c
    && (char_set_contains (codes "十") d && char_set_contains (codes "一二三四") e)
is_hour text = false

-- the text, given last character first, is an hour and 点
abbrev pub ends_hour : List ℕ → Bool
ends_hour text = first_then (char_set_contains (codes "点點")) is_hour text

-- the text may be after a whole amount: it begins with no Han character, with one of these, or
-- with 到 or 至 and a digit or 十
abbrev pub may_follow_amount : List ℕ → Bool
may_follow_amount after =
    not (first_is is_han after)
    || (begins_with (codes "的了吧吗嗎嘛呢啊么麼左以之和与與或就也都还還") after
    || begins_with_two (codes "到至") (codes "一二两兩三四五六七八九十") after)

-- the text may be after a decimal: it may be after an amount, or begins with a measure, 版, 声道, or
-- 个 and 百 or 点, as in 三点一个百分点
abbrev pub may_follow_decimal : List ℕ → Bool
may_follow_decimal after =
    may_follow_amount after
    || (begins_with (codes "米公里升倍元圆圓级級度克吨噸斤尺寸吋厘釐毫微海英美欧歐港平立亩畝秒岁歲环環千兆瓦伏版") after
    || begins_with_two (codes "个個声聲") (codes "百点點道") after)

-- the text, given last character first, is an hour, 点 and 一
abbrev pub ends_hour_and_one : List ℕ → Bool
ends_hour_and_one text = first_then (char_set_contains (codes "一")) ends_hour text

-- the last character of the text is a 一 that begins the next word: it is directly after 百, 千, 万,
-- 亿 or 兆, as in 两百一个月, or after an hour and 点, as in 八点一个人, and what follows may not be after a
-- number; or it is not alone and makes 一共, 一直, 一定, 一旦 or 一律 with what follows, as in 三十一共
abbrev pub ends_in_next_word : List ℕ → List ℕ → Bool
ends_in_next_word text after =
    (begins_with_two (codes "一") (codes "百千万萬亿億兆") (reverse text)
    && not (may_follow_amount after))
    || ((ends_hour_and_one (reverse text) && not (may_follow_decimal after))
    || (begins_with (codes "一") (reverse text)
    && (nat_le 2 (length text) && begins_with (codes "共直定旦律") after)))

-- the text, given last character first, is an hour, 点 and 零
abbrev pub ends_zero_minutes : List ℕ → Bool
ends_zero_minutes text = first_then (char_set_contains (codes "零〇")) ends_hour text

-- an hour of two characters, of which `first` is the first, and 点 begin here
abbrev pub begins_second : ℕ → List ℕ → Bool
begins_second first others = first_then (λ second.
    (char_set_contains (codes "十") first && counts second)
    || (char_set_contains (codes "二两兩") first && char_set_contains (codes "十") second))
    (begins_with (codes "点點")) others

-- the rest of an hour from 二十一 to 二十四 and 点 begin the text
abbrev pub begins_twenties : List ℕ → Bool
begins_twenties others =
    first_then (char_set_contains (codes "十")) (begins_with_two (codes "一二三四") (codes "点點")) others

-- an hour from 一 to 二十四 and 点 begin the text
abbrev pub begins_hour : List ℕ → Bool
begins_hour [] = false
begins_hour (first ∷ others) =
    if begins_with (codes "点點") others then counts first || char_set_contains (codes "十") first
    else begins_second first others
    || (char_set_contains (codes "二") first && begins_twenties others)

-- the text, given last character first, is an hour, 点, 零, and a digit from 1 to 9
abbrev pub is_clock_with_zero : List ℕ → Bool
is_clock_with_zero text = first_then counts ends_zero_minutes text

-- a part of a day, such as 上午 or 早上, is directly before the text
abbrev pub ends_part_of_day : List ℕ → Bool
ends_part_of_day front =
    begins_with (codes "午晨早晚夜") front || begins_with_two (codes "上") (codes "早晚") front

-- the text is a time: it begins with an hour and 点, and a part of a day is before it, as 下午 before
-- 三点五; or it reads as a time with 零 and no measure is after it, as in 十点零五
abbrev pub is_time : List ℕ → List ℕ → List ℕ → Bool
is_time front text after =
    (begins_hour text && ends_part_of_day front)
    || (is_clock_with_zero (reverse text) && not (begins_with (codes "元米度倍吨噸克升") after))

-- the first reason that applies to a text between these texts, all given by their bytes
abbrev pub doubt_of : List ℕ → List ℕ → List ℕ → Option Doubt
doubt_of before text after =
    let front = reverse (chars before) in
    if is_part (chars text) (chars after) || ends_in_next_word (chars text) (chars after)
    then Some Part
    else (if is_of_word front (chars text) (chars after) then Some Word
    else (if is_doubtful_list front (chars text) (chars after) then Some Digits
    else (if is_term (chars text) (chars after) || is_of_article front (chars after) then Some Term
    else (if is_time front (chars text) (chars after) then Some Time
    else (if is_end_of_range before text after then Some Range else None)))))
