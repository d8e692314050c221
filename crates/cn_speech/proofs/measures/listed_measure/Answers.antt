use Rattle.std.proofs.Common.{ap, refl, chars, ◌∙◌}
use Rattle.std.specs.Char.{encode_utf8}
use Rattle.cn_speech.specs.Measures.{first_measure, measures}
use Rattle.cn_speech.proofs.MeasuresWritten.{measures-are}
use Rattle.cn_speech.proofs.measures.listed_measure.Goals as goal

pub returns : goal.returns
unfolding encode_utf8
returns c = c.first_measure.ensures
    ∙ ap (λ l. first_measure c.args.after_blank l (chars c.args.text.now)) (measures-are measures refl)
