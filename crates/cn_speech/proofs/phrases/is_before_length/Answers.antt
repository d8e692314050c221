use Rattle.std.proofs.Common.{ap, refl, chars, ◌∙◌}
use Rattle.std.specs.Char.{encode_utf8}
use Rattle.cn_codes.specs.Words.{begins_any}
use Rattle.cn_codes.proofs.WordsWritten.{words-are}
use Rattle.cn_speech.specs.SpokenPhrases.{after_length}
use Rattle.cn_speech.proofs.phrases.is_before_length.Goals as goal

pub returns : goal.returns
unfolding encode_utf8 after_length
returns c = c.begins_any.ensures ∙ ap (λ l. begins_any l (chars c.args.rest.now)) (words-are after_length refl)
