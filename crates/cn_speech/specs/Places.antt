-- Places of a text, for contracts.
use Rattle.std.specs.Prelude.{◌≡◌, ℕ, List, ◌++◌, chars}
use Rattle.cn_find.specs.declared.wanted.Wanted.{Wanted}
use Rattle.cn_find.specs.Spans.{Span, in_front, text_before}
use Rattle.cn_speech.specs.declared.speech.Place.{Place}
use Rattle.cn_speech.specs.Speech.{left_from}

-- a place of a text and of the text with its signs as they are meant
pub record IsPlace (text meant : List ℕ) (place : Place) : Type 0 where
  pub given : text_before text place.given.now ++ place.given.now ≡ text
  pub ahead : text_before meant place.meant.now ++ place.meant.now ≡ meant

-- the parts that a search finds from a place on
abbrev pub left_at : Wanted → List ℕ → List ℕ → Place → List Span
left_at wanted text meant place =
    left_from wanted 0 (in_front (text_before meant place.meant.now)) (chars place.meant.now)
    (in_front (text_before text place.given.now)) (chars place.given.now)
