-- Whether an expression clings to a name, an address or a number beside it, as if it were a part of
-- it.
use Rattle.std.specs.Prelude.{ℕ, Bool, false, not, ◌&&◌, ◌||◌, List, [], ◌∷◌, reverse, codes, bytes_eq, encode_utf8_all}
use Rattle.std.specs.Char.{char_set_contains, is_ascii_alphabetic}
use Rattle.cn_core.specs.FigureCharacters.{is_figure}
use Rattle.cn_replace.specs.Pieces.{after_leading, begins, is_letter_or_figure, leading}

-- an expression clings to this character beside it
unfoldable pub is_bound : ℕ → Bool
is_bound c = is_letter_or_figure c || char_set_contains (codes "_幺廿卅卌") c

-- an expression clings to a letter or a figure beyond this character beside it
unfoldable pub is_bridge : ℕ → Bool
is_bridge c = char_set_contains (codes "-./:") c

-- an expression clings to these characters, which are given nearest first
abbrev pub clings_to : List ℕ → Bool
clings_to [] = false
clings_to (c ∷ text) = is_bound c || (is_bridge c && begins is_letter_or_figure text)

-- the bytes are one of these words
abbrev pub is_word_of : List (List ℕ) → List ℕ → Bool
is_word_of [] bytes = false
is_word_of (word ∷ words) bytes = bytes_eq bytes word || is_word_of words bytes

-- what may be written directly after a number
abbrev pub measures : List (List ℕ)
measures =
    codes "km" ∷ codes "m" ∷ codes "cm" ∷ codes "mm" ∷ codes "nm" ∷ codes "kg" ∷ codes "g"
    ∷ codes "mg" ∷ codes "t" ∷ codes "L" ∷ codes "l" ∷ codes "mL" ∷ codes "ml" ∷ codes "cc"
    ∷ codes "kW" ∷ codes "W" ∷ codes "kWh" ∷ codes "MW" ∷ codes "GW" ∷ codes "kPa" ∷ codes "MPa"
    ∷ codes "kcal" ∷ codes "kHz" ∷ codes "MHz" ∷ codes "GHz" ∷ codes "Hz" ∷ codes "dB"
    ∷ codes "KB" ∷ codes "MB" ∷ codes "GB" ∷ codes "TB" ∷ codes "kB" ∷ codes "K" ∷ codes "M"
    ∷ codes "G" ∷ codes "T" ∷ codes "Mbps" ∷ codes "Gbps" ∷ codes "V" ∷ codes "A" ∷ codes "mA"
    ∷ codes "mAh" ∷ codes "px" ∷ codes "pt" ∷ codes "s" ∷ codes "ms" ∷ codes "h" ∷ codes "min" ∷ []

-- the characters begin with letters that are a measure, and no figure follows these
unfoldable pub begins_measure : List ℕ → Bool
begins_measure text =
    is_word_of measures (encode_utf8_all (leading is_ascii_alphabetic text))
    && not (begins is_figure (after_leading is_ascii_alphabetic text))

-- an expression between these characters clings to them
unfoldable pub clings : List ℕ → List ℕ → Bool
clings before after =
    clings_to (reverse before) || (clings_to after && not (begins_measure after))
