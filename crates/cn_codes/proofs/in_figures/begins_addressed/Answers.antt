use Rattle.std.proofs.Common.{ap, refl, chars, ◌∙◌}
use Rattle.std.specs.Char.{encode_utf8}
use Rattle.cn_codes.specs.CodesInFigures.{addressed, begins_addressed}
use Rattle.cn_codes.specs.Words.{begins_any}
use Rattle.cn_codes.proofs.WordsWritten.{words-are}
use Rattle.cn_codes.proofs.in_figures.begins_addressed.Goals as goal

pub returns : goal.returns
unfolding encode_utf8 begins_addressed
returns c = c.begins_any.ensures ∙ ap (λ l. begins_any l (chars c.args.text.now)) (words-are addressed refl)
