use Rattle.std.proofs.Common.{ap, refl, ◌∙◌}
use Rattle.std.specs.Char.{encode_utf8}
use Rattle.cn_find.specs.Spans.{in_front}
use Rattle.cn_codes.specs.Words.{ends_any}
use Rattle.cn_codes.proofs.WordsWritten.{words-are}
use Rattle.cn_speech.specs.SpokenExpressions.{ends_ordinal, ordinals}
use Rattle.cn_speech.proofs.expressions.ends_ordinal.Goals as goal

pub returns : goal.returns
unfolding encode_utf8 ends_ordinal
returns c = c.ends_any.ensures ∙ ap (λ l. ends_any l (in_front c.args.before.now)) (words-are ordinals refl)
