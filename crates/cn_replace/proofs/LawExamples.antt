-- Of each law that has premises, values that meet all of them.
use Rattle.std.proofs.Common.{[], ◌∷◌, ◌++◌, ◌≡◌, ℕ, true, false, List, Option, None, codes, encode_utf8_all, refl}
use Rattle.std.specs.Char.{encode_utf8}
use Rattle.std.specs.List.{Contains}
use Rattle.std.specs.Str.{chars, IsUtf8}
use Rattle.cn_core.specs.declared.unit.Unit.TheVariants.{Zhao}
use Rattle.cn_find.specs.declared.wanted.Wanted.{Wanted}
use Rattle.cn_core.specs.Characters.{digit_of, rank_of}
use Rattle.cn_core.specs.FigureCharacters.{tens_of}
use Rattle.cn_find.specs.Belongs.{begins_measure, belongs, is_upper, is_wanted}
use Rattle.cn_find.specs.Expressions.{binds_minus, is_extra, is_han, is_item, is_kilo, is_numeric, is_tens, is_weight, joins}
use Rattle.cn_find.specs.Parting.{is_named}
use Rattle.cn_find.specs.Spans.{Span, expressions}
use Rattle.cn_quantity.specs.Characters.{is_fen}
use Rattle.cn_replace.specs.InFigures.{is_in_figures}
use Rattle.cn_replace.specs.Parting.{is_noticed}

abbrev everyday : Wanted
everyday = record { upper = false; greatest = Zhao }

-- nothing has a new text
abbrev nothing : Span → Option (List ℕ)
nothing span = None

texts_stay_where_nothing_is_new : IsUtf8 (encode_utf8_all (codes "一起去"))
    × ((span : Span) → Contains (expressions everyday (encode_utf8_all (codes "一起去"))) span
    → nothing span ≡ None)
unfolding encode_utf8
texts_stay_where_nothing_is_new = ((codes "一起去", (refl, refl)), λ span found. refl)

figures_stay : is_in_figures (chars (codes "3.5")) ≡ true
unfolding chars is_fen
figures_stay = refl

texts_without_expressions_stay : expressions everyday (encode_utf8_all (codes "去吧")) ≡ []
unfolding chars encode_utf8 digit_of rank_of belongs is_upper begins_measure is_numeric is_tens joins is_weight is_item is_kilo tens_of
texts_without_expressions_stay = refl

-- a line feed
texts_are_put_in_figures_in_parts : IsUtf8 (encode_utf8_all (codes "占12.5%"))
    × IsUtf8 (encode_utf8 10 ++ encode_utf8_all (codes "共三百二十人"))
    × (is_wanted everyday 10 ≡ false) × (is_named 10 ≡ false) × (is_noticed 10 ≡ false)
unfolding encode_utf8 digit_of rank_of is_upper is_named is_noticed is_han binds_minus is_extra is_tens tens_of
texts_are_put_in_figures_in_parts =
    ((codes "占12.5%", (refl, refl)), (10 ∷ codes "共三百二十人", (refl, refl)), refl, refl, refl)
