use Rattle.std.proofs.Common.{◌∙◌, ◌||◌, ap, arith}
use Rattle.cn_core.specs.FigureCharacters.{is_wide_figure}
use Rattle.cn_core.proofs.FigureRows.{figure_value}
use Rattle.cn_core.proofs.figure_characters.is_figure.Goals as goal

-- `is_figure` returns after the first test succeeded
pub returns-then-is_ascii_digit-clause-value : goal.returns-then-is_ascii_digit-clause-value
returns-then-is_ascii_digit-clause-value c =
    c.if-is_ascii_digit.true ∙ ap (λ b. b || is_wide_figure c.args.c) c.if-is_ascii_digit.ensures.value
    ∙ figure_value c.args.c

-- `is_figure` returns after the first test failed
pub returns-else-is_ascii_digit-clause-value : goal.returns-else-is_ascii_digit-clause-value
returns-else-is_ascii_digit-clause-value c =
    let e = figure_value c.args.c in grind (arith, e)
