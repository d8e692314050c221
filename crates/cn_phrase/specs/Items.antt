-- The phrases of a text, and its expressions that are in none.
use Rattle.std.specs.Prelude.{ℕ, zero, suc, ◌-◌, ◌==◌, Bool, true, not, ◌&&◌, List, [], ◌∷◌, ◌++◌, length, reverse, chars, encode_utf8_all, Option, Some, None, option_map, if◌then◌else◌}
use Rattle.std.specs.Option.{option_and_then, option_map_or}
use Rattle.cn_find.specs.declared.wanted.Wanted.{Wanted}
use Rattle.cn_find.specs.Expressions.{expression_rule}
use Rattle.cn_find.specs.Spans.{Span, in_front, run_after, text_before}
use Rattle.cn_phrase.specs.declared.items.Item.{Item as CodeItem}
use Rattle.cn_phrase.specs.declared.items.Item.TheVariants as code
use Rattle.cn_phrase.specs.Between.{characters_before, part_between}
use Rattle.cn_phrase.specs.Money.{Money, begins_one, money_at, money_of}
use Rattle.cn_phrase.specs.Phrases.{Found, found_of, phrase_at}
use Rattle.cn_phrase.specs.Ranges.{Ends, ends_of, range_at}

-- a phrase of one of the forms, a sum of money, a range, or an expression in none, each with the text
-- after it
pub data Item : Type 0 where
  phrase : Found → Item
  money : Money → Item
  range : Ends → Item
  expression : List ℕ → Item

-- what an `Item` in the code is
abbrev pub item_of : CodeItem → Item
item_of (code.Phrase found) = phrase (found_of found)
item_of (code.Money m) = money (money_of m)
item_of (code.Range ends) = range (ends_of ends)
item_of (code.Expression rest) = expression (chars rest.now)

abbrev pub rest_of : Item → List ℕ
rest_of (phrase found) = found.rest
rest_of (money m) = m.rest
rest_of (range ends) = ends.rest
rest_of (expression rest) = rest

-- what ends before `rest` does not end within an expression, given the characters of the text up to
-- there, the nearest first
abbrev pub ends_whole : Wanted → List ℕ → List ℕ → Bool
ends_whole wanted [] rest = true
ends_whole wanted (last ∷ front) rest =
    option_map_or (λ after. length (encode_utf8_all after) == length (encode_utf8_all rest))
    (run_after (expression_rule wanted) front (last ∷ rest)) true

-- the phrase with which a text begins, unless it ends within an expression, as 三米2 of 三米2.5公里 does
abbrev pub whole_phrase : Wanted → List ℕ → List ℕ → Option Found
whole_phrase wanted front text =
    option_and_then (λ found.
    if ends_whole wanted (reverse (characters_before text found.rest) ++ front) found.rest
    then Some found else None) (phrase_at front text)

-- the first that there is: a phrase, a sum of money, a range or an expression. No two of the first three
-- begin at one place, since another word is after the number in each
abbrev pub first_of : Option Found → Option Money → Option Ends → Option (List ℕ) → Option Item
first_of (Some found) m ends rest = Some (phrase found)
first_of None (Some m) ends rest = Some (money m)
first_of None None (Some ends) rest = Some (range ends)
first_of None None None (Some rest) = Some (expression rest)
first_of None None None None = None

-- the text begins with the price of one, and within an expression, as after the sum of 三块八一斤
abbrev pub is_price_within : Wanted → List ℕ → List ℕ → Bool
is_price_within wanted front text = begins_one text && not (ends_whole wanted front text)

-- the item that begins with a text, if one does. The characters before it are `front`, the nearest
-- first
abbrev pub item_at : Wanted → List ℕ → List ℕ → Option Item
item_at wanted front text =
    if is_price_within wanted front text then None
    else first_of (whole_phrase wanted front text) (money_at wanted front text)
    (range_at wanted front text) (run_after (expression_rule wanted) front text)

abbrev pub item_rest : Wanted → List ℕ → List ℕ → Option (List ℕ)
item_rest wanted front text = option_map rest_of (item_at wanted front text)

abbrev pub item_here : List ℕ → List ℕ → Option (List ℕ) → List Span
item_here front text None = []
item_here front text (Some rest) = part_between front text rest ∷ []

-- how many characters of a text belong to the item that began one character before it
abbrev pub still_passed : List ℕ → Option (List ℕ) → ℕ
still_passed ahead None = 0
still_passed ahead (Some rest) = length ahead - length rest

-- the items that begin among these characters, after the first `passed` of them
abbrev pub items_after : Wanted → ℕ → List ℕ → List ℕ → List Span
items_after wanted passed front [] = []
items_after wanted (suc passed) front (c ∷ ahead) = items_after wanted passed (c ∷ front) ahead
items_after wanted zero front (c ∷ ahead) =
    item_here front (c ∷ ahead) (item_rest wanted front (c ∷ ahead))
    ++ items_after wanted (still_passed ahead (item_rest wanted front (c ∷ ahead))) (c ∷ front) ahead

-- the items of a text
abbrev pub items : Wanted → List ℕ → List Span
items wanted bytes = items_after wanted 0 [] (chars bytes)

-- the items that a search finds in the suffix `rest` of a text
abbrev pub items_left : Wanted → List ℕ → List ℕ → List Span
items_left wanted whole rest =
    items_after wanted 0 (in_front (text_before whole rest)) (chars rest)
