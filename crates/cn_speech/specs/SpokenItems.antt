-- Items of phrases as they are spoken, with the measures after them.
use Rattle.std.specs.Prelude.{Bool, true, false, List, ℕ, is_some}
use Rattle.cn_phrase.specs.declared.described.PhraseKind.{PhraseKind}
use Rattle.cn_phrase.specs.declared.described.PhraseKind.TheVariants as kind
use Rattle.cn_phrase.specs.declared.form.Form.{Form}
use Rattle.cn_phrase.specs.Between.{characters_before}
use Rattle.cn_phrase.specs.Described.{kind_of}
use Rattle.cn_phrase.specs.Items.{Item, phrase, money, range, expression}
use Rattle.cn_speech.specs.declared.voice.Voice.{Voice}
use Rattle.cn_speech.specs.Measures.{measure_at}
use Rattle.cn_speech.specs.SpokenExpressions.{after_measure, expression_said, is_expression_said}
use Rattle.cn_speech.specs.SpokenMoney.{is_money_said, money_said}
use Rattle.cn_speech.specs.SpokenPhrases.{is_phrase_said, phrase_said}
use Rattle.cn_speech.specs.SpokenRanges.{is_range_said, range_said}

abbrev pub is_date_or_time : PhraseKind → Bool
is_date_or_time kind.Date = true
is_date_or_time kind.Time = true
is_date_or_time other = false

abbrev pub is_form_of_day : Form → Bool
is_form_of_day form = is_date_or_time (kind_of form)

-- an item is a date or a time of day
abbrev pub is_of_day : Item → Bool
is_of_day (phrase found) = is_form_of_day found.form
is_of_day other = false

-- a unit ends what is said: that of a sum of money, or a measure
abbrev pub has_unit : Item → Bool
has_unit (phrase found) = false
has_unit (money m) = true
has_unit (range ends) = is_some (measure_at ends.rest)
has_unit (expression rest) = is_some (measure_at rest)

-- the text after an item, and after the measure of a number
abbrev pub after_item : Item → List ℕ
after_item (phrase found) = found.rest
after_item (money m) = m.rest
after_item (range ends) = after_measure ends.rest
after_item (expression rest) = after_measure rest

-- an item that begins with a text, after these characters, is spoken
abbrev pub is_item_said : List ℕ → List ℕ → Item → Bool
is_item_said front text (phrase found) = is_phrase_said front found text
is_item_said front text (money m) = is_money_said front m
is_item_said front text (range ends) = is_range_said ends
is_item_said front text (expression rest) =
    is_expression_said front (characters_before text rest) rest

-- what is said for it
abbrev pub item_said : Voice → List ℕ → List ℕ → Item → List ℕ
item_said voice front text (phrase found) = phrase_said voice front found text
item_said voice front text (money m) = money_said voice m
item_said voice front text (range ends) = range_said voice front ends
item_said voice front text (expression rest) =
    expression_said voice front (characters_before text rest) rest
