-- Ranges as they are spoken, with the measures after them.
use Rattle.std.specs.Prelude.{ℕ, nat_le, Bool, not, ◌&&◌, ◌||◌, List, [], ◌++◌, codes, chars, is_some, if◌then◌else◌}
use Rattle.std.specs.Char.{char_set_contains}
use Rattle.std.specs.List.{list_any}
use Rattle.cn_core.specs.FigureCharacters.{is_share_sign}
use Rattle.cn_phrase.specs.Ranges.{Ends, is_great, range_of, shared_units}
use Rattle.cn_replace.specs.Pieces.{leading}
use Rattle.cn_codes.specs.Counted.{begins_counted}
use Rattle.cn_codes.specs.Digits.{number_of}
use Rattle.cn_speech.specs.declared.voice.Voice.{Voice}
use Rattle.cn_speech.specs.Joined.{has_figure}
use Rattle.cn_speech.specs.Measures.{measure_at}
use Rattle.cn_speech.specs.Numbers.{is_of_whole, number_said}
use Rattle.cn_speech.specs.SpokenExpressions.{is_counted_two, measure_said}
use Rattle.cn_speech.specs.Voice.{two, word}

unfoldable pub is_bar : ℕ → Bool
is_bar link = char_set_contains (codes "-－–—") link

-- a unit from 百 up, a percent sign, a measure word or a measure is at the end of a range
abbrev pub is_measured : List ℕ → List ℕ → Bool
is_measured high rest =
    list_any is_great high
    || (list_any is_share_sign high || (begins_counted rest || is_some (measure_at rest)))

-- the range has a value, and one whose link is a bar is measured
abbrev pub is_range_said : Ends → Bool
is_range_said ends =
    is_some (range_of ends.low.text ends.high.text)
    && (not (is_bar ends.link) || is_measured (chars ends.high.text) ends.rest)

-- an end of a range after these characters; one in Chinese characters stays
abbrev pub end_said : Voice → List ℕ → List ℕ → List ℕ
end_said voice front end =
    if has_figure end then number_said voice front end else end

-- only the second end has a percent sign
abbrev pub is_share_of_both : List ℕ → List ℕ → Bool
is_share_of_both low high = list_any is_share_sign high && not (list_any is_share_sign low)

-- the whole part of a number in figures is 100 or more
abbrev pub is_from_hundred : List ℕ → Bool
is_from_hundred number = not (nat_le (number_of (leading is_of_whole number)) 99)

-- the units of the second end that count for the first: after one from 100 on they are spoken too,
-- as 一百到三百万 may be from 100
abbrev pub units_said : Ends → List ℕ
units_said ends =
    if is_from_hundred (chars ends.low.text)
    then chars (shared_units ends.low.text ends.high.text) else []

-- what is said for the first end as a percentage, after these characters
abbrev pub share_said : Voice → List ℕ → List ℕ → List ℕ
share_said voice front low = word voice (codes "百分之") ++ end_said voice front low

abbrev pub with_units : Voice → List ℕ → Ends → List ℕ
with_units voice front ends = end_said voice front (chars ends.low.text) ++ units_said ends

-- what is said for the first end, after these characters
abbrev pub low_said : Voice → List ℕ → Ends → List ℕ
low_said voice front ends =
    if is_share_of_both (chars ends.low.text) (chars ends.high.text)
    then share_said voice front (chars ends.low.text)
    else (if is_counted_two front (chars ends.low.text) ends.rest then two voice
    else with_units voice front ends)

-- what is said for the second end, after the characters before the first
unfoldable pub high_said : Voice → List ℕ → Ends → List ℕ
high_said voice front ends =
    if is_counted_two front (chars ends.high.text) ends.rest then two voice
    else end_said voice front (chars ends.high.text)

-- 到 for a link that is a sign
abbrev pub link_said : ℕ → List ℕ
link_said link = if char_set_contains (codes "至") link then codes "至" else codes "到"

-- what is said for a range, after these characters, and the measure after it
abbrev pub range_said : Voice → List ℕ → Ends → List ℕ
range_said voice front ends =
    low_said voice front ends
    ++ (link_said ends.link
    ++ (high_said voice front ends ++ measure_said voice ends.rest))
