-- Signs as they are meant: a colon that ends a label, and a bar between two numbers with units. The new
-- characters have as many bytes as the old ones, so that each place of the text stays one of it.
use Rattle.std.specs.Prelude.{ℕ, ◌==◌, Bool, false, not, ◌&&◌, ◌||◌, List, [], ◌∷◌, drop, codes, chars, encode_utf8_all, if◌then◌else◌}
use Rattle.std.specs.Char.{char_set_contains, is_ascii_alphabetic}
use Rattle.cn_core.specs.FigureCharacters.{is_figure}
use Rattle.cn_find.specs.Belongs.{begins_with}
use Rattle.cn_find.specs.Expressions.{is_han}
use Rattle.cn_replace.specs.Pieces.{begins, is_letter_or_figure}
use Rattle.cn_codes.specs.Counted.{is_counted, without_blank}

unfoldable pub is_colon : ℕ → Bool
is_colon c = char_set_contains (codes ":：") c

unfoldable pub is_minus : ℕ → Bool
is_minus c = char_set_contains (codes "-−－") c

-- a letter or a sign of a measure
unfoldable pub is_of_measure : ℕ → Bool
is_of_measure c = is_ascii_alphabetic c || char_set_contains (codes "μ℃°㎡‰半") c

-- a figure is before a place, perhaps with a blank between
abbrev pub follows_figure : List ℕ → Bool
follows_figure front = begins is_figure (without_blank front)

abbrev pub follows_word : List ℕ → Bool
follows_word front = begins is_counted front && follows_figure (drop 1 front)

-- a measure word of one to three Han characters is before a place, and a figure before that: 5元, 5公里;
-- the word does not end with 到 or 至, after which a bar is a minus sign: 5度到-3度
unfoldable pub follows_counted : List ℕ → Bool
follows_counted front =
    not (begins_with (codes "到至") front)
    && (follows_word front
    || (begins is_han front && (follows_word (drop 1 front)
    || (begins is_han (drop 1 front) && follows_word (drop 1 (drop 1 front))))))

-- the characters before a place without a letter or a sign of a measure
abbrev pub without_letter : List ℕ → List ℕ
without_letter front = if begins is_of_measure front then drop 1 front else front

-- one to four letters or signs of a measure are before a place, and a figure before that: 5kg
unfoldable pub follows_measure : List ℕ → Bool
follows_measure front =
    begins is_of_measure front
    && follows_figure (without_letter (without_letter (without_letter (drop 1 front))))

-- two figures and a colon are before a place, and a figure before that: 9:00
unfoldable pub follows_clock : List ℕ → Bool
follows_clock front =
    begins is_figure front && (begins is_figure (drop 1 front)
    && (begins is_colon (drop 1 (drop 1 front)) && begins is_figure (drop 1 (drop 1 (drop 1 front)))))

-- a bar before a figure is a link after these characters, and no minus sign
abbrev pub is_link_after : List ℕ → Bool
is_link_after front = follows_counted front || (follows_measure front || follows_clock front)

-- the sign that is meant by a colon which ends a label: ; or ；
unfoldable pub label_sign : ℕ → ℕ
label_sign c = if c == 0x3A then 0x3B else 0xFF1B

-- the sign that is meant by a bar which is a link: ~ or ～
unfoldable pub link_sign : ℕ → ℕ
link_sign c = if c == 0x2D then 0x7E else 0xFF5E

-- a character between these characters, as it is meant
abbrev pub meant : List ℕ → ℕ → List ℕ → ℕ
meant front c rest =
    if is_colon c && not (begins is_letter_or_figure front) then label_sign c
    else (if is_minus c && (begins is_figure rest && is_link_after front) then link_sign c else c)

abbrev pub meant_from : List ℕ → List ℕ → List ℕ
meant_from front [] = []
meant_from front (c ∷ rest) = meant front c rest ∷ meant_from (c ∷ front) rest

-- a text with its signs as they are meant
unfoldable pub as_meant : List ℕ → List ℕ
as_meant bytes = encode_utf8_all (meant_from [] (chars bytes))
