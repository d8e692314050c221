use Rattle.std.proofs.Common.{ap, refl, chars, ◌∙◌}
use Rattle.std.specs.Char.{encode_utf8}
use Rattle.cn_codes.specs.Words.{begins_any}
use Rattle.cn_codes.proofs.WordsWritten.{words-are}
use Rattle.cn_speech.specs.Pairs.{seasons}
use Rattle.cn_speech.proofs.pairs.begins_season.Goals as goal

pub returns : goal.returns
unfolding encode_utf8
returns c = c.begins_any.ensures ∙ ap (λ l. begins_any l (chars c.args.text.now)) (words-are seasons refl)
