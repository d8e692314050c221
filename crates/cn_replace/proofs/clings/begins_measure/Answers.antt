use Rattle.std.proofs.Common.{chars, not, ◌&&◌, sym, ap, ◌∙◌, rules}
use Rattle.cn_replace.specs.Clings.{is_word_of, measures}
use Rattle.cn_core.specs.FigureCharacters.{is_figure}
use Rattle.cn_replace.specs.Pieces.{begins}
use Rattle.cn_replace.proofs.Measures.{measure_is}
use Rattle.cn_replace.proofs.clings.begins_measure.Goals as goal

pub returns-then-is_measure : goal.returns-then-is_measure
returns-then-is_measure c =
    ap not c.begins.ensures
    ∙ ap (λ b. b && not (begins is_figure (chars c.split_leading.result.1.now)))
    (sym c.if-is_measure.true)
    ∙ measure_is (chars c.args.text.now) c.split_leading.result.0.now c.split_leading.result.1.now
    c.is_measure.result (search rules) c.split_leading.ensures.leading c.split_leading.ensures.after
    (c.is_measure.ensures ∙ ap (is_word_of measures) c.as_bytes.ensures.value)

pub returns-else-is_measure : goal.returns-else-is_measure
returns-else-is_measure c =
    c.if-is_measure.false
    ∙ ap (λ b. b && not (begins is_figure (chars c.split_leading.result.1.now)))
    (sym c.if-is_measure.false)
    ∙ measure_is (chars c.args.text.now) c.split_leading.result.0.now c.split_leading.result.1.now
    c.is_measure.result (search rules) c.split_leading.ensures.leading c.split_leading.ensures.after
    (c.is_measure.ensures ∙ ap (is_word_of measures) c.as_bytes.ensures.value)
