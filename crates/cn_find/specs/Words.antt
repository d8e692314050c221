-- Words that begin or end with a number but do not mean it.
use Rattle.std.specs.Prelude.{ℕ, ◌-◌, nat_lt, length, Bool, true, false, ◌&&◌, ◌||◌, ◌==◌, List, [], ◌∷◌, codes, if◌then◌else◌}
use Rattle.std.specs.Char.{char_set_contains, is_ascii_alphabetic}
use Rattle.cn_core.specs.FigureCharacters.{is_figure}
use Rattle.cn_find.specs.Belongs.{begins_with, first_then}
use Rattle.cn_find.specs.Expressions.{is_han}

-- the text consists of exactly these characters
abbrev pub is_exactly : List ℕ → List ℕ → Bool
is_exactly [] [] = true
is_exactly (c ∷ these) (d ∷ text) = c == d && is_exactly these text
is_exactly these text = false

-- the characters begin with one of the first set and then one of the second set
abbrev pub begins_with_two : List ℕ → List ℕ → List ℕ → Bool
begins_with_two first second text =
    first_then (char_set_contains first) (begins_with second) text

-- the number and the text after it begin with one of these: 十二指肠, 十二生肖, 十二月党; 十八般,
-- 十八大, 十八罗汉, 十八层地狱; 十九大, 二十大; 十一放假, 十一假期, 十一长假, 十一黄金周
abbrev pub is_named_group : List ℕ → List ℕ → Bool
is_named_group text after =
    (is_exactly (codes "十二") text
    && (begins_with_two (codes "指") (codes "肠腸") after
    || (begins_with_two (codes "生") (codes "肖") after
    || begins_with_two (codes "月") (codes "党黨") after)))
    || ((is_exactly (codes "十八") text
    && (begins_with (codes "般大") after
    || (begins_with_two (codes "罗羅") (codes "汉漢") after
    || begins_with_two (codes "层層") (codes "地") after)))
    || (((is_exactly (codes "十九") text || is_exactly (codes "二十") text)
    && (begins_with (codes "大") after || begins_with_two (codes "国國") (codes "集") after))
    || (is_exactly (codes "十一") text
    && (begins_with (codes "放回去再出") after
    || (begins_with_two (codes "假") (codes "期") after
    || (begins_with_two (codes "长長") (codes "假") after
    || begins_with_two (codes "黄黃") (codes "金") after))))))

-- the number and the text after it begin with one of these: 三十六计, 七十二变, 七十二行,
-- 三百六十行, 二十四史, 二十四节气, 二十八宿, 十三陵, 十三妹, 一千零一夜, 二八年华
abbrev pub is_title : List ℕ → List ℕ → Bool
is_title text after =
    (is_exactly (codes "三十六") text && begins_with (codes "计計") after)
    || ((is_exactly (codes "七十二") text && begins_with (codes "变變行") after)
    || ((is_exactly (codes "三百六十") text && begins_with (codes "行") after)
    || ((is_exactly (codes "二十四") text
    && (begins_with (codes "史") after || begins_with_two (codes "节節") (codes "气氣") after))
    || ((is_exactly (codes "二十八") text && begins_with (codes "宿") after)
    || ((is_exactly (codes "十三") text && begins_with (codes "陵妹") after)
    || ((is_exactly (codes "一千零一") text && begins_with (codes "夜") after)
    || (is_exactly (codes "二八") text
    && begins_with_two (codes "年") (codes "华華") after)))))))

-- the number is 二百五 or 亿万
abbrev pub is_word_by_itself : List ℕ → Bool
is_word_by_itself text =
    is_exactly (codes "二百五") text
    || (is_exactly (codes "亿万") text || is_exactly (codes "億萬") text)

-- the number and the text after it begin with one of these: 三十而立, 三十年河东, 四十不惑,
-- 五十步笑, 十五个吊桶
abbrev pub is_saying_of_tens : List ℕ → List ℕ → Bool
is_saying_of_tens text after =
    (is_exactly (codes "三十") text
    && (begins_with_two (codes "而") (codes "立") after
    || begins_with_two (codes "年") (codes "河") after))
    || ((is_exactly (codes "四十") text && begins_with_two (codes "不") (codes "惑") after)
    || ((is_exactly (codes "五十") text && begins_with_two (codes "步") (codes "笑") after)
    || (is_exactly (codes "十五") text && begins_with_two (codes "个個只隻") (codes "吊") after)))

-- the same with those, 十万火急, 十万八千里 and 一千道一万; or the number is 二百五 or 亿万
abbrev pub is_saying : List ℕ → List ℕ → Bool
is_saying text after =
    ((is_exactly (codes "十万") text || is_exactly (codes "十萬") text)
    && begins_with_two (codes "火") (codes "急") after)
    || (((is_exactly (codes "十万八千") text || is_exactly (codes "十萬八千") text)
    && begins_with (codes "里") after)
    || ((is_exactly (codes "一千") text && begins_with_two (codes "道") (codes "一") after)
    || (is_saying_of_tens text after || is_word_by_itself text)))

-- the number is 一万
abbrev pub is_ten_thousand : List ℕ → Bool
is_ten_thousand text = is_exactly (codes "一万") text || is_exactly (codes "一萬") text

-- the number ends one of these: 双十一, 双十二, 年三十, 初一十五, 说一千道一万; or it is a day after 正月 or 腊月. Of the
-- characters before the number the nearest is the first in the list
abbrev pub ends_word : List ℕ → List ℕ → Bool
ends_word front text =
    (begins_with (codes "双雙") front
    && (is_exactly (codes "十一") text || is_exactly (codes "十二") text))
    || ((begins_with (codes "年") front && is_exactly (codes "三十") text)
    || ((begins_with (codes "初") front && is_exactly (codes "一十五") text)
    || ((begins_with_two (codes "道") (codes "千") front && is_ten_thousand text)
    || begins_with_two (codes "月") (codes "正腊臘") front)))

-- the number begins one of the words above
abbrev pub begins_word : List ℕ → List ℕ → Bool
begins_word text after = is_named_group text after || (is_title text after || is_saying text after)

-- a Chinese era ends the text: 康熙, 雍正, 乾隆, 嘉庆, 嘉靖, 道光, 咸丰, 元丰, 同治, 顺治, 光绪, 宣统, 正统, 洪武, 建武,
-- 永乐, 万历, 大历, 庆历, 崇祯, 贞观, 开元, 天宝; 民国, but not in traditional characters
abbrev pub ends_era : List ℕ → Bool
ends_era front =
    begins_with_two (codes "熙") (codes "康") front
    || (begins_with_two (codes "正") (codes "雍") front
    || (begins_with_two (codes "隆") (codes "乾") front
    || (begins_with_two (codes "庆慶靖") (codes "嘉") front
    || (begins_with_two (codes "光") (codes "道") front
    || (begins_with_two (codes "丰豐") (codes "咸元") front
    || (begins_with_two (codes "治") (codes "同顺順") front
    || (begins_with_two (codes "绪緒") (codes "光") front
    || (begins_with_two (codes "统統") (codes "宣正") front
    || (begins_with_two (codes "武") (codes "洪建") front
    || (begins_with_two (codes "乐樂") (codes "永") front
    || (begins_with_two (codes "历曆") (codes "万萬大庆慶") front
    || (begins_with_two (codes "祯禎") (codes "崇") front
    || (begins_with_two (codes "观觀") (codes "贞貞") front
    || (begins_with_two (codes "元") (codes "开開") front
    || (begins_with_two (codes "宝寶") (codes "天") front
    || begins_with_two (codes "国") (codes "民") front)))))))))))))))

-- a title can have the character: it is a Chinese character, a figure, a letter or one of a few signs
abbrev pub is_of_title : ℕ → Bool
is_of_title c =
    is_han c || (is_figure c || (is_ascii_alphabetic c || char_set_contains (codes " ,，、-.〇") c))

-- 《 is among this many characters before a number, and only characters of a title are nearer
abbrev pub is_title_open : ℕ → List ℕ → Bool
is_title_open most [] = false
is_title_open most (c ∷ front) =
    if most == 0 then false
    else (if char_set_contains (codes "《") c then true
    else (if is_of_title c then is_title_open (most - 1) front else false))

-- an era ends the text, or the calendar of the moon: 农历, 阴历, 旧历, 夏历, 藏历, 老历
abbrev pub ends_old_calendar : List ℕ → Bool
ends_old_calendar front =
    ends_era front || begins_with_two (codes "历曆") (codes "农農阴陰旧舊夏藏老") front

-- the number between these texts is in a title between 《 and 》, which began at most 40 characters before
-- it, or is the year of an era
abbrev pub is_of_history : List ℕ → List ℕ → Bool
is_of_history front after =
    is_title_open 40 front || (begins_with (codes "年") after && ends_era front)

-- 周, 星期 or 礼拜 ends the text
abbrev pub ends_week : List ℕ → Bool
ends_week front =
    begins_with (codes "周週") front
    || (begins_with_two (codes "期") (codes "星") front
    || begins_with_two (codes "拜") (codes "礼禮") front)

-- the text begins with a weekday and goes on, as 一十二 does in 周一十二月
abbrev pub begins_weekday : List ℕ → Bool
begins_weekday text =
    first_then (char_set_contains (codes "一二三四五六")) (λ rest. nat_lt 0 (length rest)) text

-- the number between these texts is part of a word or a title, the year of an era, or begins with the day
-- of a week
abbrev pub is_of_word : List ℕ → List ℕ → List ℕ → Bool
is_of_word front text after =
    ends_word front text
    || ((begins_weekday text && ends_week front)
    || (is_of_history front after || begins_word text after))
