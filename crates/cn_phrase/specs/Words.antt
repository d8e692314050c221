-- The words of phrases.
use Rattle.std.specs.Prelude.{ℕ, List, [], ◌∷◌, codes, Option, Some, None, is_some, if◌then◌else◌}
use Rattle.std.specs.Char.{char_set_contains}
use Rattle.std.specs.Option.{option_and_then, option_or}
use Rattle.cn_phrase.specs.declared.word.Word.{Word}
use Rattle.cn_phrase.specs.declared.word.Word.TheVariants.{Nian, Yue, Ri, Dian, Shi, Fen, Miao, Half, Ke, Colon, Dash, Slash, Bi, Mi, Link, Hours, Minutes, Seconds, HalfOf, HalfAfter, PartOfMonth, HalfDay, Weekday}

-- the text after its first character, if that is one of these
abbrev pub after_one : List ℕ → List ℕ → Option (List ℕ)
after_one these [] = None
after_one these (c ∷ rest) = if char_set_contains these c then Some rest else None

-- the text after its first two characters, if they are one of the first and one of the second
abbrev pub after_two : List ℕ → List ℕ → List ℕ → Option (List ℕ)
after_two first second text =
    option_and_then (λ rest. after_one second rest) (after_one first text)

-- the text after a character, if there is one of these, or the text itself
abbrev pub after_any : List ℕ → List ℕ → List ℕ
after_any these text = elim (after_one these text) [
  | None ↦ text
  | Some rest ↦ rest
]

-- after 小时 or 钟头
abbrev pub after_hour_word : List ℕ → Option (List ℕ)
after_hour_word text =
    option_or (after_two (codes "小") (codes "时時") text)
    (after_two (codes "钟鐘") (codes "头頭") text)

-- after a word that 半 can be before: 一个半小时, 三个半月
abbrev pub after_halved : List ℕ → Option (List ℕ)
after_halved text =
    option_or (after_hour_word text)
    (option_or (after_one (codes "月") text)
    (option_or (after_two (codes "星") (codes "期") text)
    (option_or (after_two (codes "礼禮") (codes "拜") text)
    (after_two (codes "世") (codes "纪紀") text))))

-- after 早 or 晚, but not before 一点: 早一点 is no time of day
abbrev pub after_early : List ℕ → Option (List ℕ)
after_early text =
    option_and_then (λ rest. if is_some (after_two (codes "一") (codes "点點") rest) then None
    else Some rest) (after_one (codes "早晚") text)

-- after a word of half a day: 早, 晚; 凌晨, 清晨, 早晨; 上午, 中午, 下午, 正午; 傍晚; 今早, 昨晚, 今晨; 深夜, 半夜,
-- 午夜; 早上, 晚上; 夜里, 晚间; 午后
unfoldable pub after_half_day : List ℕ → Option (List ℕ)
after_half_day text =
    option_or (after_two (codes "凌清早") (codes "晨") text)
    (option_or (after_two (codes "上中下正") (codes "午") text)
    (option_or (after_two (codes "傍") (codes "晚") text)
    (option_or (after_two (codes "今明昨当當") (codes "早晚晨") text)
    (option_or (after_two (codes "深半午") (codes "夜") text)
    (option_or (after_two (codes "早晚") (codes "上") text)
    (option_or (after_two (codes "夜晚") (codes "里裡间間") text)
    (option_or (after_two (codes "午") (codes "后後") text)
    (after_early text))))))))

-- after 初, but not before a day of the moon's calendar, such as 初三
abbrev pub after_beginning : List ℕ → Option (List ℕ)
after_beginning text =
    option_and_then (λ rest. if is_some (after_one (codes "一二三四五六七八九十") rest) then None
    else Some rest) (after_one (codes "初") text)

-- after a part of a month: 底, 份, 末; 上旬, 中旬, 下旬; 初
abbrev pub after_part_of_month : List ℕ → Option (List ℕ)
after_part_of_month text =
    option_or (after_one (codes "底份末") text)
    (option_or (after_two (codes "上中下") (codes "旬") text) (after_beginning text))

-- after 周, 星期 or 礼拜
abbrev pub after_week : List ℕ → Option (List ℕ)
after_week text =
    option_or (after_one (codes "周週") text)
    (option_or (after_two (codes "星") (codes "期") text)
    (after_two (codes "礼禮") (codes "拜") text))

-- after a weekday, such as 周五
unfoldable pub after_weekday : List ℕ → Option (List ℕ)
after_weekday text =
    option_and_then (λ rest. after_one (codes "一二三四五六") rest) (after_week text)

-- after a word with 钟 or without
abbrev pub after_with_zhong : ℕ → List ℕ → Option (List ℕ)
after_with_zhong word text =
    option_or (after_two (word ∷ []) (codes "钟鐘") text) (after_one (word ∷ []) text)

-- the text after a word, if it begins with it
abbrev pub after_word : Word → List ℕ → Option (List ℕ)
after_word Nian text = after_one (codes "年") text
after_word Yue text = after_one (codes "月") text
after_word Ri text = after_one (codes "日号號") text
after_word Dian text = after_one (codes "点點") text
after_word Shi text = after_one (codes "点點时時") text
after_word Fen text = after_one (codes "分") text
after_word Miao text = after_one (codes "秒") text
after_word Half text = after_one (codes "半") text
after_word Ke text = after_one (codes "刻") text
after_word Colon text = after_one (codes ":：") text
after_word Dash text = after_one (codes "-") text
after_word Slash text = after_one (codes "/") text
after_word Bi text = after_one (codes "比") text
after_word Mi text = after_one (codes "米度秒") text
after_word Link text = after_one (codes "到至~～－–—〜-") text
after_word Hours text = after_hour_word (after_any (codes "个個") text)
after_word Minutes text = after_with_zhong 20998 text
after_word Seconds text = after_with_zhong 31186 text
after_word HalfOf text =
    option_and_then (λ rest. after_halved rest) (after_two (codes "个個") (codes "半") text)
after_word HalfAfter text = after_two (codes "年天周週岁歲斤里吨噸倍米度") (codes "半") text
after_word PartOfMonth text = after_part_of_month text
after_word HalfDay text = after_half_day text
after_word Weekday text = after_weekday text
