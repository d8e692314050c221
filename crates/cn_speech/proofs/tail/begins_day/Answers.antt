use Rattle.std.proofs.Common.{ap, refl, chars, ◌∙◌}
use Rattle.std.specs.Char.{encode_utf8}
use Rattle.cn_codes.specs.Words.{begins_any}
use Rattle.cn_codes.proofs.WordsWritten.{words-are}
use Rattle.cn_speech.specs.Tails.{begins_day, next_days}
use Rattle.cn_speech.proofs.tail.begins_day.Goals as goal

pub returns : goal.returns
unfolding encode_utf8 begins_day
returns c = c.begins_any.ensures ∙ ap (λ l. begins_any l (chars c.args.text.now)) (words-are next_days refl)
