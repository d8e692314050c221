-- Signs between numbers as they are spoken: links, × and /.
use Rattle.std.specs.Prelude.{ℕ, Bool, true, not, ◌&&◌, ◌||◌, List, [], ◌∷◌, ◌++◌, drop, codes, chars, Option, Some, None, if◌then◌else◌}
use Rattle.std.specs.Char.{char_set_contains}
use Rattle.std.specs.Option.{option_map, option_or}
use Rattle.cn_core.specs.FigureCharacters.{is_figure}
use Rattle.cn_find.specs.Belongs.{begins_with}
use Rattle.cn_find.specs.Expressions.{is_han}
use Rattle.cn_phrase.specs.Between.{characters_before}
use Rattle.cn_phrase.specs.Ranges.{is_link}
use Rattle.cn_replace.specs.Pieces.{after_leading, begins}
use Rattle.cn_codes.specs.Counted.{is_counted}
use Rattle.cn_codes.specs.Words.{begins_any}
use Rattle.cn_speech.specs.declared.tail.Sign.{Sign as CodeSign}
use Rattle.cn_speech.specs.declared.tail.Tail.{Tail as CodeTail}
use Rattle.cn_speech.specs.declared.voice.Voice.{Voice}
use Rattle.cn_speech.specs.Numbers.{is_of_figures}
use Rattle.cn_speech.specs.Voice.{word}

-- a figure, or a minus sign and a figure
unfoldable pub begins_number : List ℕ → Bool
begins_number text =
    begins is_figure text || (begins_with (codes "-−") text && begins is_figure (drop 1 text))

abbrev pub next_days : List (List ℕ)
next_days =
    codes "次日" ∷ codes "翌日" ∷ codes "当日" ∷ codes "當日" ∷ codes "当天" ∷ codes "當天" ∷ codes "第二天" ∷ []

-- a text begins with a word of the next day
unfoldable pub begins_day : List ℕ → Bool
begins_day text = begins_any next_days text

-- the next day, or a word of half a day: 次日, 凌晨
abbrev pub begins_next_day : List ℕ → Bool
begins_next_day text = begins_day text || begins_with (codes "早上中下晚凌深") text

unfoldable pub is_bar : ℕ → Bool
is_bar c = char_set_contains (codes "-－") c

-- a link that is a sign
unfoldable pub is_link_sign : ℕ → Bool
is_link_sign c = is_link c && not (char_set_contains (codes "到至") c)

-- a link with which a text begins is spoken 到 before a number; a bar only after a date or a time
abbrev pub is_to : Bool → ℕ → List ℕ → Bool
is_to of_day c rest =
    is_link_sign c
    && ((begins_number rest && (of_day || not (is_bar c))) || (of_day && begins_next_day rest))

-- × is before figures, and no = after those
unfoldable pub is_times : ℕ → List ℕ → Bool
is_times c rest =
    char_set_contains (codes "×") c
    && (begins is_figure rest && not (begins_with (codes "=") (after_leading is_of_figures rest)))

-- / is before a measure word, after a unit: 元/份
unfoldable pub is_each : Bool → ℕ → List ℕ → Bool
is_each has_unit c rest = char_set_contains (codes "/") c && (has_unit && begins is_counted rest)

-- what is said for a sign, and the text after it
pub record Sign : Type 0 where
  pub word : List ℕ
  pub rest : List ℕ

-- what a `Sign` in the code is
abbrev pub sign_of : CodeSign → Sign
sign_of sign = record { word = chars sign.word.now; rest = chars sign.rest.now }

abbrev pub sign : List ℕ → List ℕ → Option Sign
sign word rest = Some (record { word = word; rest = rest })

-- the sign with which a text begins, after a date or a time or not, and after a unit or not
abbrev pub sign_at : Bool → Bool → List ℕ → Option Sign
sign_at of_day has_unit [] = None
sign_at of_day has_unit (c ∷ rest) =
    if is_to of_day c rest then sign (codes "到") rest
    else (if is_times c rest then sign (codes "乘") rest
    else (if is_each has_unit c rest then sign (codes "每") rest else None))

-- what is after a number: a unit that stays, or nothing, and what is said for a sign
pub record Tail : Type 0 where
  pub unit : List ℕ
  pub word : List ℕ
  pub rest : List ℕ

-- what a `Tail` in the code is
abbrev pub tail_of : CodeTail → Tail
tail_of tail = record {
  unit = chars tail.unit.now;
  word = chars tail.word.now;
  rest = chars tail.rest.now;
}

abbrev pub with_unit : List ℕ → Sign → Tail
with_unit unit sign = record { unit = unit; word = sign.word; rest = sign.rest }

-- a text without a Han character at its start
abbrev pub without_han : List ℕ → List ℕ
without_han text = if begins is_han text then drop 1 text else text

-- the text after a measure word and at most two more Han characters
abbrev pub after_unit : List ℕ → List ℕ
after_unit text = without_han (without_han (drop 1 text))

abbrev pub tail_after_unit : Bool → List ℕ → Option Tail
tail_after_unit of_day text =
    if begins is_counted text
    then option_map (with_unit (characters_before text (after_unit text)))
    (sign_at of_day true (after_unit text))
    else None

-- the tail with which a text begins
abbrev pub tail_at : Bool → Bool → List ℕ → Option Tail
tail_at of_day has_unit text =
    option_or (option_map (with_unit []) (sign_at of_day has_unit text))
    (tail_after_unit of_day text)

-- what is said for it
abbrev pub known_said : Voice → Tail → List ℕ
known_said voice tail = tail.unit ++ word voice tail.word

abbrev pub tail_said : Voice → Option Tail → List ℕ
tail_said voice None = []
tail_said voice (Some tail) = known_said voice tail
