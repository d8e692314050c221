-- Two short runs of figures with a sign between, which people speak by what is around them.
use Rattle.std.specs.Prelude.{ℕ, zero, suc, ◌==◌, nat_le, nat_lt, Bool, false, not, ◌&&◌, ◌||◌, List, [], ◌∷◌, ◌++◌, length, drop, chars, codes, Option, Some, None, is_some, unwrap_or, if◌then◌else◌}
use Rattle.std.specs.Char.{char_set_contains}
use Rattle.std.specs.Option.{option_and_then, option_map, option_or}
use Rattle.cn_core.specs.FigureCharacters.{is_figure}
use Rattle.cn_phrase.specs.declared.word.Word.TheVariants as word_of
use Rattle.cn_phrase.specs.Words.{after_word as after_phrase_word}
use Rattle.cn_find.specs.Belongs.{begins_with}
use Rattle.cn_replace.specs.Pieces.{after_leading, begins, leading}
use Rattle.cn_codes.specs.Beside.{touches_after, touches_before}
use Rattle.cn_codes.specs.Digits.{number_of}
use Rattle.cn_codes.specs.Words.{after_word, begins_any, ends_any}
use Rattle.cn_speech.specs.declared.pairs.Pair.{Pair as PairCode}
use Rattle.cn_speech.specs.declared.pairs.PairKind.{PairKind}
use Rattle.cn_speech.specs.declared.pairs.PairKind.TheVariants.{Date, Pressure, Share, Years, Score, OfBook}
use Rattle.cn_speech.specs.declared.pairs.SaidPair.{SaidPair as SaidPairCode}
use Rattle.cn_speech.specs.declared.voice.Voice.{Voice}
use Rattle.cn_speech.specs.Numbers.{figures_said, is_ordinal, one_by_one, small_number}
use Rattle.cn_speech.specs.Voice.{word as in_voice}

-- two runs, the sign between them, and the text after them
pub record Pair : Type 0 where
  pub first : List ℕ
  pub sign : ℕ
  pub second : List ℕ
  pub rest : List ℕ

-- what a `Pair` in the code is
abbrev pub pair_of : PairCode → Pair
pair_of p = record {
  first = chars p.first.now;
  sign = p.sign;
  second = chars p.second.now;
  rest = chars p.rest.now;
}

unfoldable pub is_slash : ℕ → Bool
is_slash c = char_set_contains (codes "/") c

unfoldable pub is_dash : ℕ → Bool
is_dash c = char_set_contains (codes "-") c

unfoldable pub is_sign : ℕ → Bool
is_sign c = char_set_contains (codes "-/:：") c

abbrev pub is_short : List ℕ → Bool
is_short run = nat_le 1 (length run) && nat_le (length run) 4

abbrev pub pair_if : Pair → Option Pair
pair_if pair =
    if is_sign pair.sign && (is_short pair.first && is_short pair.second) then Some pair else None

-- the pair of this run, with the text after that
abbrev pub pair_from : List ℕ → List ℕ → Option Pair
pair_from first [] = None
pair_from first (c ∷ text) = pair_if (record {
  first = first;
  sign = c;
  second = leading is_figure text;
  rest = after_leading is_figure text;
})

-- the pair with which a text begins
abbrev pub runs_at : List ℕ → Option Pair
runs_at text = pair_from (leading is_figure text) (after_leading is_figure text)

-- ---- What a pair is

-- words of games: before them two numbers are a score
abbrev pub games : List (List ℕ)
games =
    codes "领先" ∷ codes "領先" ∷ codes "胜" ∷ codes "勝" ∷ codes "战胜" ∷ codes "戰勝" ∷ codes "负" ∷ codes "負"
    ∷ codes "击败" ∷ codes "擊敗" ∷ codes "逆转" ∷ codes "逆轉" ∷ codes "获胜" ∷ codes "獲勝" ∷ codes "淘汰" ∷ codes "落后"
    ∷ codes "落後" ∷ codes "落败" ∷ codes "落敗" ∷ codes "险胜" ∷ codes "險勝" ∷ codes "大胜" ∷ codes "大勝" ∷ codes "完胜"
    ∷ codes "完勝" ∷ codes "小胜" ∷ codes "小勝" ∷ codes "拿下" ∷ codes "战平" ∷ codes "戰平" ∷ codes "横扫" ∷ codes "橫掃"
    ∷ codes "力克" ∷ codes "不敌" ∷ codes "不敵" ∷ codes "惜败" ∷ codes "惜敗"
    ∷ codes "赢" ∷ codes "贏" ∷ codes "输" ∷ codes "輸" ∷ []

abbrev pub begins_game : List ℕ → Bool
begins_game text = begins_any games text

-- only figures, signs and 为 are between 比分 and a place, and at most so many characters
unfoldable pub is_between_scores : ℕ → Bool
is_between_scores c = is_figure c || char_set_contains (codes ":：;；、，和与與 -为為是") c

abbrev pub score_words : List (List ℕ)
score_words = codes "比分" ∷ []

abbrev pub ends_score_word : List ℕ → Bool
ends_score_word front = ends_any score_words front

abbrev pub follows_scores : ℕ → List ℕ → Bool
follows_scores zero front = false
follows_scores (suc most) [] = false
follows_scores (suc most) (c ∷ front) =
    ends_score_word (c ∷ front) || (is_between_scores c && follows_scores most front)

abbrev pub have_three : Pair → Bool
have_three pair = nat_le (length pair.first) 3 && nat_le (length pair.second) 3

unfoldable pub follows_with : List ℕ → Bool
follows_with front = begins_with (codes "以") front

-- words of ratios, before and after two numbers
abbrev pub ratios_before : List (List ℕ)
ratios_before =
    codes "比例" ∷ codes "比例为" ∷ codes "比例為" ∷ codes "比例是" ∷ codes "比例约" ∷ codes "比例約" ∷ codes "比为"
    ∷ codes "比為" ∷ []

abbrev pub ratios_after : List (List ℕ)
ratios_after =
    codes "的比例" ∷ codes "稀释" ∷ codes "稀釋" ∷ codes "配制" ∷ codes "配製" ∷ codes "混合" ∷ codes "竖屏"
    ∷ codes "豎屏" ∷ codes "横屏" ∷ codes "橫屏" ∷ []

abbrev pub ends_ratio : List ℕ → Bool
ends_ratio front = ends_any ratios_before front

abbrev pub begins_ratio : List ℕ → Bool
begins_ratio text = begins_any ratios_after text

-- with a colon they are a score after 以, and a ratio beside its words
abbrev pub is_ratio : List ℕ → Pair → Bool
is_ratio front pair =
    not (is_dash pair.sign)
    && (follows_with front || (ends_ratio front || begins_ratio pair.rest))

abbrev pub is_score : List ℕ → Pair → Bool
is_score front pair =
    have_three pair
    && (begins_game pair.rest || (follows_scores 20 front || is_ratio front pair))

-- the number of a run is from 1 to this one
abbrev pub is_from_one : ℕ → List ℕ → Bool
is_from_one most run = not (nat_le (number_of run) 0) && nat_le (number_of run) most

-- M/D before a word of half a day
abbrev pub is_date : Pair → Bool
is_date pair =
    is_from_one 12 pair.first
    && (is_from_one 31 pair.second && is_some (after_phrase_word word_of.HalfDay pair.rest))

-- the text after the first of these words with which it begins
abbrev pub after_first : List (List ℕ) → List ℕ → Option (List ℕ)
after_first [] text = None
after_first (word ∷ words) text = option_or (after_word word text) (after_first words text)

-- the text after the measure of blood pressure: 120/80mmHg
abbrev pub pressures : List (List ℕ)
pressures = codes "mmHg" ∷ codes "毫米汞柱" ∷ []

abbrev pub after_pressure : List ℕ → Option (List ℕ)
after_pressure rest = after_first pressures rest

abbrev pub is_pressure : Pair → Bool
is_pressure pair = is_slash pair.sign && is_some (after_pressure pair.rest)

-- a number up to 10 is greater than this one, which is not 0
abbrev pub is_divisor : Option ℕ → Option ℕ → Bool
is_divisor (Some divisor) (Some number) =
    nat_le divisor 10 && (nat_le 1 number && nat_lt number divisor)
is_divisor divisor number = false

unfoldable pub is_shared : List ℕ → Bool
is_shared text = begins_with (codes "的以左多片粒杯勺个個袋包") text

unfoldable pub has_share : List ℕ → Bool
has_share front =
    begins_with (codes "有中约約近超过過") front
    || (begins_with (codes "到足") front && begins_with (codes "不") (drop 1 front))

-- a share such as 3/4的, 有1/2, 不到1/5
abbrev pub is_share : List ℕ → Pair → Bool
is_share front pair =
    is_divisor (small_number pair.second) (small_number pair.first)
    && (not (begins is_ordinal front) && (is_shared pair.rest || has_share front))

-- years before 赛季 and so on: 2025-26赛季
abbrev pub seasons : List (List ℕ)
seasons =
    codes "赛季" ∷ codes "賽季" ∷ codes "学年" ∷ codes "學年" ∷ codes "财年" ∷ codes "財年" ∷ codes "年度" ∷ []

abbrev pub begins_season : List ℕ → Bool
begins_season text = begins_any seasons text

abbrev pub are_years : Pair → Bool
are_years pair =
    (not (nat_le (number_of pair.first) 1899) && nat_le (number_of pair.first) 2099)
    && ((length pair.second == 2 || length pair.second == 4) && begins_season pair.rest)

-- a figure or a table of a book: 图1-2
unfoldable pub follows_book : List ℕ → Bool
follows_book front = begins_with (codes "图圖表") front

abbrev pub is_of_book : List ℕ → Pair → Bool
is_of_book front pair = follows_book front && have_three pair

-- what a pair with a slash, a bar or a colon is
abbrev pub kind_by_slash : List ℕ → Pair → Option PairKind
kind_by_slash front pair =
    if is_date pair then Some Date
    else (if is_pressure pair then Some Pressure
    else (if is_share front pair then Some Share else None))

abbrev pub kind_by_dash : List ℕ → Pair → Option PairKind
kind_by_dash front pair =
    if are_years pair then Some Years
    else (if is_score front pair then Some Score
    else (if is_of_book front pair then Some OfBook else None))

abbrev pub kind_by_colon : List ℕ → Pair → Option PairKind
kind_by_colon front pair = if is_score front pair then Some Score else None

abbrev pub kind_by_sign : List ℕ → Pair → Option PairKind
kind_by_sign front pair =
    if is_slash pair.sign then kind_by_slash front pair
    else (if is_dash pair.sign then kind_by_dash front pair else kind_by_colon front pair)

-- what a pair is, if nothing beside it goes on with it
abbrev pub kind_of : List ℕ → Pair → Option PairKind
kind_of front pair =
    if touches_before front || (touches_after pair.rest && not (is_pressure pair)) then None
    else kind_by_sign front pair

-- ---- What is said

-- a pair that is spoken, and the text after it
pub record SaidPair : Type 0 where
  pub kind : PairKind
  pub first : List ℕ
  pub second : List ℕ
  pub rest : List ℕ

-- what a `SaidPair` in the code is
abbrev pub said_of : SaidPairCode → SaidPair
said_of said = record {
  kind = said.kind;
  first = chars said.first.now;
  second = chars said.second.now;
  rest = chars said.rest.now;
}

-- the measure of blood pressure is spoken with it
abbrev pub rest_of : PairKind → Pair → List ℕ
rest_of Pressure pair = unwrap_or (after_pressure pair.rest) pair.rest
rest_of kind pair = pair.rest

abbrev pub said_as : Pair → PairKind → SaidPair
said_as pair kind = record {
  kind = kind;
  first = pair.first;
  second = pair.second;
  rest = rest_of kind pair;
}

abbrev pub said_if : List ℕ → Pair → Option SaidPair
said_if front pair = option_map (said_as pair) (kind_of front pair)

-- the pair with which a text begins, if people speak it
abbrev pub pair_at : List ℕ → List ℕ → Option SaidPair
pair_at front text = option_and_then (said_if front) (runs_at text)

-- two numbers with a word between
abbrev pub both : Voice → List ℕ → List ℕ → List ℕ → List ℕ
both voice first between second =
    figures_said voice first ++ (in_voice voice between ++ figures_said voice second)

abbrev pub date_said : Voice → List ℕ → List ℕ → List ℕ
date_said voice month day = both voice month (codes "月") day ++ codes "日"

abbrev pub pressure_said : Voice → List ℕ → List ℕ → List ℕ
pressure_said voice high low = both voice high (codes "比") low ++ codes "毫米汞柱"

abbrev pub share_said : Voice → List ℕ → List ℕ → List ℕ
share_said voice divisor number =
    figures_said voice divisor ++ (codes "分之" ++ figures_said voice number)

abbrev pub years_said : Voice → List ℕ → List ℕ → List ℕ
years_said voice first second =
    one_by_one voice first ++ (codes "到" ++ one_by_one voice second)

abbrev pub text_by : Voice → PairKind → List ℕ → List ℕ → List ℕ
text_by voice Date first second = date_said voice first second
text_by voice Pressure first second = pressure_said voice first second
text_by voice Share first second = share_said voice second first
text_by voice Years first second = years_said voice first second
text_by voice Score first second = both voice first (codes "比") second
text_by voice OfBook first second = both voice first (codes "杠") second

abbrev pub pair_said : Voice → SaidPair → List ℕ
pair_said voice said = text_by voice said.kind said.first said.second
