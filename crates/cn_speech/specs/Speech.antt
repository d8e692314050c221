-- A text as it is spoken, and what is left of its figures.
use Rattle.std.specs.Prelude.{ℕ, Bool, true, false, ◌&&◌, zero, suc, ◌-◌, List, [], ◌∷◌, ◌++◌, length, take, drop, reverse, chars, encode_utf8_all, Option, Some, None, if◌then◌else◌}
use Rattle.cn_find.specs.declared.wanted.Wanted.{Wanted}
use Rattle.cn_find.specs.Spans.{Span}
use Rattle.cn_phrase.specs.Between.{characters_before, part_between}
use Rattle.cn_speech.specs.declared.voice.Voice.{Voice}
use Rattle.cn_speech.specs.Joined.{has_figure}
use Rattle.cn_speech.specs.Meant.{as_meant}
use Rattle.cn_speech.specs.SpokenParts.{Part, left, part_at, part_text, rest_of_part}

-- the text after a part with which a text begins, or after its first character
abbrev pub rest_here : List ℕ → Option Part → List ℕ
rest_here ahead None = ahead
rest_here ahead (Some part) = rest_of_part part

-- how many of the characters `ahead` belong to the part that began one character before them
abbrev pub passed_by : List ℕ → Option Part → ℕ
passed_by ahead part = length ahead - length (rest_here ahead part)

-- the new text of the part with which a text begins, or of one character that is in none
abbrev pub text_here : Voice → List ℕ → List ℕ → List ℕ → Option Part → List ℕ
text_here voice front text given None = given
text_here voice front text given (Some part) = part_text voice front text given part

-- The text is read with its signs as they are meant, and given as it is: two lists of as many
-- characters. `passed` of them belong to the part that began before.
abbrev pub speech_from : Voice → Wanted → ℕ → List ℕ → List ℕ → List ℕ → List ℕ
speech_from voice wanted passed front [] given = []
speech_from voice wanted (suc passed) front (c ∷ ahead) given =
    speech_from voice wanted passed (c ∷ front) ahead (drop 1 given)
speech_from voice wanted zero front (c ∷ ahead) given =
    let part = part_at wanted front (c ∷ ahead) in
    text_here voice front (c ∷ ahead) (take (suc (passed_by ahead part)) given) part
    ++ speech_from voice wanted (passed_by ahead part) (c ∷ front) ahead (drop 1 given)

-- a text as it is spoken
unfoldable pub text_in_speech : Voice → Wanted → List ℕ → List ℕ
text_in_speech voice wanted bytes =
    encode_utf8_all (speech_from voice wanted 0 [] (chars (as_meant bytes)) (chars bytes))

abbrev pub is_left : Option Part → Bool
is_left (Some (left rest)) = true
is_left other = false

-- the characters of a part, with those before and after them, if it has figures and is left
abbrev pub left_here : List ℕ → List ℕ → List ℕ → Option Part → List Span
left_here gone given rest part =
    if is_left part && has_figure (characters_before given rest)
    then part_between gone given rest ∷ [] else []

-- the parts that are left, where `gone` are the characters before those of the text that is given
abbrev pub left_from : Wanted → ℕ → List ℕ → List ℕ → List ℕ → List ℕ → List Span
left_from wanted passed front [] gone given = []
left_from wanted (suc passed) front (c ∷ ahead) gone given =
    left_from wanted passed (c ∷ front) ahead (reverse (take 1 given) ++ gone) (drop 1 given)
left_from wanted zero front (c ∷ ahead) gone given =
    let part = part_at wanted front (c ∷ ahead) in
    left_here gone given (drop (suc (passed_by ahead part)) given) part
    ++ left_from wanted (passed_by ahead part) (c ∷ front) ahead (reverse (take 1 given) ++ gone) (drop 1 given)

-- the parts with figures that are left as they are
unfoldable pub left_spans : Wanted → List ℕ → List Span
left_spans wanted bytes = left_from wanted 0 [] (chars (as_meant bytes)) [] (chars bytes)
