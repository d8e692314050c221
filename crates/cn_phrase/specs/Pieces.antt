-- The pieces of a form, read one after another.
use Rattle.std.specs.Prelude.{ℕ, ◌==◌, Bool, true, false, ◌&&◌, ◌||◌, List, [], ◌∷◌, codes, chars, Option, Some, None, if◌then◌else◌}
use Rattle.std.specs.Char.{char_set_contains, is_ascii_alphabetic}
use Rattle.std.specs.Option.{option_and_then, option_map}
use Rattle.cn_core.specs.FigureCharacters.{is_figure}
use Rattle.cn_replace.specs.Pieces.{after_leading, begins, leading}
use Rattle.cn_phrase.specs.declared.piece.Piece.{Piece}
use Rattle.cn_phrase.specs.declared.piece.Piece.TheVariants.{Slot, Fixed, NotBefore, End}
use Rattle.cn_phrase.specs.declared.piece.Guard.{Guard}
use Rattle.cn_phrase.specs.declared.piece.Guard.TheVariants.{Lunar, Prime, Number, OfDate, Share, MoreMinutes, OfClock, OfHalf, OfLength, OfScore, Name}
use Rattle.cn_phrase.specs.declared.piece.Numbers.{Numbers}
use Rattle.cn_phrase.specs.declared.piece.Progress.{Progress}
use Rattle.cn_phrase.specs.Shapes.{value_of}
use Rattle.cn_phrase.specs.Words.{after_word}

-- the character occurs in the number of a slot
unfoldable pub is_numeral : ℕ → Bool
is_numeral c = is_figure c || char_set_contains (codes "零〇一二两兩三四五六七八九十百") c

-- what has been read of a form: its numbers, whether a figure was the last character, and the text
-- that is left
pub record Reading : Type 0 where
  pub numbers : Numbers
  pub after_figure : Bool
  pub rest : List ℕ

-- the reading that a `Progress` in the code is
abbrev pub reading_of : Progress → Reading
reading_of progress = record {
  numbers = progress.numbers;
  after_figure = progress.after_figure;
  rest = chars progress.rest.now;
}

-- nothing has been read yet of a text
abbrev pub reading_at : List ℕ → Reading
reading_at text = record {
  numbers = record { first = 0; second = 0; last = 0 };
  after_figure = false;
  rest = text;
}

-- the numbers with one more, which is the last; the first of them is forgotten
abbrev pub with_number : Numbers → ℕ → Numbers
with_number numbers number = record { first = numbers.second; second = numbers.last; last = number }

-- one blank may be between a figure and the next character, or the one before
abbrev pub without_blank : Bool → List ℕ → List ℕ
without_blank after_figure (c ∷ d ∷ text) =
    if c == 32 && (after_figure || is_figure d) then d ∷ text else c ∷ d ∷ text
without_blank after_figure text = text

abbrev pub is_name : Guard → Bool
is_name Name = true
is_name guard = false

-- the characters that may not come after a form
unfoldable pub refused_by : Guard → List ℕ
refused_by Lunar = codes "初"
refused_by OfDate = codes "-/.:"
refused_by Prime = codes "华華"
refused_by Number = codes "零〇一二两兩三四五六七八九十百"
refused_by Share = codes "钟鐘"
refused_by MoreMinutes = codes "分几幾多元米度倍吨噸克升%％‰万萬亿億千"
refused_by OfClock = codes ":：."
refused_by OfHalf = codes "载載夜天年价價"
refused_by OfLength =
    codes "年月日点點人个個分秒米度几幾多重層层关關种種次间間位条條名项項只隻元块塊倍级級楼樓座套台臺辆輛张張本天周週岁歲斤里"
refused_by OfScore = codes "点點.年月日万萬千亿億"
refused_by Name = codes "_"

abbrev pub is_share : Guard → Bool
is_share Share = true
is_share guard = false

-- the character begins the numerator of a share, as 二 in 五分之二 does
abbrev pub is_numerator : ℕ → Bool
is_numerator c = is_numeral c || char_set_contains (codes "几幾") c

-- the text may not come after a form; a name has letters too, and a share has 之 and a numerator
abbrev pub refuses : Guard → List ℕ → Bool
refuses guard [] = false
refuses guard (c ∷ rest) =
    char_set_contains (refused_by guard) c
    || ((is_name guard && is_ascii_alphabetic c)
    || (is_share guard && (char_set_contains (codes "之") c && begins is_numerator rest)))

-- the reading of a slot
abbrev pub slot_read : Numbers → List ℕ → Option ℕ → Option Reading
slot_read numbers text number = option_map (λ n. record {
  numbers = with_number numbers n;
  after_figure = begins is_figure text;
  rest = after_leading is_numeral text;
}) number

-- the reading after one more piece
abbrev pub piece_read : Piece → Reading → Option Reading
piece_read (Slot shape) reading =
    slot_read reading.numbers (without_blank reading.after_figure reading.rest)
    (value_of shape (leading is_numeral (without_blank reading.after_figure reading.rest)))
piece_read (Fixed word) reading =
    option_map (λ rest. record { numbers = reading.numbers; after_figure = false; rest = rest })
    (after_word word (without_blank reading.after_figure reading.rest))
piece_read (NotBefore guard) reading =
    if refuses guard reading.rest then None else Some reading
piece_read End reading = Some reading

-- the reading after some pieces
abbrev pub pieces_read : List Piece → Reading → Option Reading
pieces_read [] reading = Some reading
pieces_read (piece ∷ pieces) reading =
    option_and_then (λ next. pieces_read pieces next) (piece_read piece reading)
