use Rattle.std.specs.Char.{encode_utf8}
use Rattle.std.proofs.Common.{ap, refl, chars, ◌∙◌}
use Rattle.cn_codes.proofs.WordsWritten.{words-are}
use Rattle.cn_speech.specs.Pairs.{after_first, pressures}
use Rattle.cn_speech.proofs.pairs.after_pressure.Goals as goal

pub returns : goal.returns
unfolding encode_utf8
returns c =
    c.after_first.ensures ∙ ap (λ l. after_first l (chars c.args.text.now)) (words-are pressures refl)
