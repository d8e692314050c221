-- What the words of a command line ask for. Words are given by their bytes.
use Rattle.std.specs.Prelude.{ℕ, ◌==◌, ◌&&◌, ◌||◌, nat_lt, not, Bool, true, false, List, [], ◌∷◌, codes, bytes_eq, chars, position, slice_index, Option, Some, None, if◌then◌else◌}
use Rattle.std.specs.Char.{is_ascii_digit, char_set_contains}
use Rattle.std.specs.List.{list_any}
use Rattle.chinese_number.specs.DateWrites.{char_of}
use Rattle.cheque.specs.declared.request.Request.{Request}
use Rattle.cheque.specs.declared.request.Request.TheVariants.{Help, Write, Read, WriteDate, ReadDate}

-- what words can ask for: the usage; the capitals of an amount in figures, with or without 人民币
-- before them; the figures of an amount in capitals; and both for a date
pub data Asked : Type 0 where
  help : Asked
  write : List ℕ → Bool → Asked
  read : List ℕ → Asked
  write_date : List ℕ → Asked
  read_date : List ℕ → Asked

-- what a request asks for
abbrev pub asked_of : Request → Asked
asked_of Help = help
asked_of (Write figures prefixed) = write figures.now prefixed
asked_of (Read capitals) = read capitals.now
asked_of (WriteDate figures) = write_date figures.now
asked_of (ReadDate capitals) = read_date capitals.now

-- a word that begins with this character is read as figures: it is ASCII, ¥ or a full-width digit
abbrev pub begins_figures : ℕ → Bool
begins_figures c = nat_lt c 128 || char_set_contains (codes "¥￥０１２３４５６７８９") c

-- the text begins with such a character
abbrev pub is_begun : List ℕ → Bool
is_begun [] = false
is_begun (c ∷ text) = begins_figures c

-- the word is read as figures
abbrev pub are_figures : List ℕ → Bool
are_figures bytes = is_begun (chars bytes)

-- there is a hyphen at this place, and something before it
abbrev pub is_inner_hyphen : List ℕ → Option ℕ → Bool
is_inner_hyphen bytes None = false
is_inner_hyphen bytes (Some place) = nat_lt 0 place && slice_index bytes place == 45

-- the word is the figures of a date: it begins with digits, and a hyphen follows them
abbrev pub are_date_figures : List ℕ → Bool
are_date_figures bytes = is_inner_hyphen bytes (position (λ byte. not (is_ascii_digit byte)) bytes)

-- the word is the capitals of a date: it has a 年
abbrev pub are_date_capitals : List ℕ → Bool
are_date_capitals bytes = list_any (λ c. c == char_of (codes "年")) (chars bytes)

-- what a single word asks for
abbrev pub asked_alone : List ℕ → Option Asked
asked_alone word =
    if bytes_eq word (codes "--help") then Some help
    else (if bytes_eq word (codes "--prefix") then None
    else (if are_date_figures word then Some (write_date word)
    else (if are_figures word then Some (write word false)
    else (if are_date_capitals word then Some (read_date word) else Some (read word)))))

-- what a word after an option asks for
abbrev pub asked_with_option : List ℕ → List ℕ → Option Asked
asked_with_option option word =
    if bytes_eq option (codes "--prefix") && (are_figures word && not (are_date_figures word))
    then Some (write word true) else None

-- what the words ask for; none if they ask for nothing
abbrev pub asked : List (List ℕ) → Option Asked
asked (word ∷ []) = asked_alone word
asked (option ∷ word ∷ []) = asked_with_option option word
asked words = None
