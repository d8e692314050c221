-- Of each law that has premises, values that meet all of them.
use Rattle.std.proofs.Common.{◌≡◌, true, false, codes, encode_utf8_all, refl}
use Rattle.std.specs.Char.{encode_utf8}
use Rattle.std.specs.Str.{chars, IsUtf8}
use Rattle.cn_core.specs.declared.unit.Unit.TheVariants.{Zhao}
use Rattle.cn_core.specs.Characters.{digit_of, rank_of}
use Rattle.cn_core.specs.FigureCharacters.{tens_of}
use Rattle.cn_find.specs.declared.wanted.Wanted.{Wanted}
use Rattle.cn_find.specs.Belongs.{begins_measure, belongs, is_upper}
use Rattle.cn_find.specs.Expressions.{is_item, is_kilo, is_numeric, is_tens, is_weight, joins}
use Rattle.cn_phrase.specs.Money.{is_sign}
use Rattle.cn_phrase.specs.Phrases.{is_blank}
use Rattle.cn_phrase.specs.Pieces.{is_numeral}
use Rattle.cn_phrase.specs.Plain.{has_no_phrase}
use Rattle.cn_phrase.specs.Words.{after_half_day, after_weekday}

abbrev everyday : Wanted
everyday = record { upper = false; greatest = Zhao }

items_are_expressions_without_phrases : has_no_phrase everyday (encode_utf8_all (codes "去")) ≡ true
unfolding chars encode_utf8 digit_of rank_of belongs is_upper begins_measure is_numeric is_tens joins is_weight is_item is_kilo tens_of is_blank is_sign is_numeral after_half_day after_weekday
items_are_expressions_without_phrases = refl

texts_without_phrases_are_written_as_their_quantities : IsUtf8 (encode_utf8_all (codes "去"))
    × (has_no_phrase everyday (encode_utf8_all (codes "去")) ≡ true)
unfolding encode_utf8
texts_without_phrases_are_written_as_their_quantities =
    ((codes "去", (refl, refl)), items_are_expressions_without_phrases)
