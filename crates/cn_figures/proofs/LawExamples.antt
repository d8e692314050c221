-- For each law with premises, values that meet all of them. So too for the laws of cn_grammar,
-- which hold for any grammar.
use Rattle.std.proofs.Common.{◌-◌, ◌^◌, ◌<◌, inr, false, [], ◌∷◌, ◌++◌, Some, Err, codes, refl, arith}
use Rattle.cn_amount.specs.Places.{amount_limit}
use Rattle.cn_grammar.specs.Answers.{Answers}
use Rattle.cn_grammar.specs.Expected.{IsExpected}
use Rattle.cn_grammar.specs.declared.refusal.Refusal.TheVariants.{Incorrect}
use Rattle.cn_core.specs.FigureCharacters.{figure_of}
use Rattle.cn_figures.specs.Figures.{IsFigures, WriteAmount}
use Rattle.cn_figures.specs.Parts.{part_of}
use Rattle.cn_figures.proofs.Examples.{made, after_fifteen, zeros_follow, third_place}

-- the greatest amount
shown_amounts_are_read : 10 ^ 18 - 1 < amount_limit
shown_amounts_are_read = omega arith

figures : IsFigures (codes "1,409.50") 140950
unfolding part_of figure_of
figures =
    made (codes "1,409.50") false (1 ∷ []) ((4, 0, 9) ∷ []) (5 ∷ 0 ∷ []) (omega arith) (inr (omega arith)) refl refl

-- the law each_text_is_one_value of cn_grammar
each_text_is_one_value : WriteAmount (codes "1,409.50") (Some 140950)
    × WriteAmount (codes "1,409.50") (Some 140950)
each_text_is_one_value = ((140950, figures, refl), (140950, figures, refl))

-- the law beginnings_are_begun of cn_grammar
beginnings_are_begun : WriteAmount (codes "1,4" ++ codes "09.50") (Some 140950)
beginnings_are_begun = (140950, figures, refl)

-- the law expectations_agree of cn_grammar
expectations_agree : IsExpected WriteAmount (codes "15.005") after_fifteen
    × IsExpected WriteAmount (codes "15.005") after_fifteen
expectations_agree = (zeros_follow, zeros_follow)

-- the law refusals_are_where_expected of cn_grammar
refusals_are_where_expected : IsExpected WriteAmount (codes "15.005") after_fifteen
    × Answers WriteAmount (codes "15.005") (Err (Incorrect 5))
refusals_are_where_expected = (zeros_follow, third_place)
