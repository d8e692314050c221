use Rattle.std.proofs.Common.{ap, refl, ◌∙◌}
use Rattle.std.specs.Char.{encode_utf8}
use Rattle.cn_find.specs.Spans.{in_front}
use Rattle.cn_codes.specs.CodeWords.{links, without_link}
use Rattle.cn_codes.specs.Words.{without_any}
use Rattle.cn_codes.proofs.WordsWritten.{words-are}
use Rattle.cn_codes.proofs.code_words.without_link.Goals as goal

pub returns : goal.returns
unfolding encode_utf8 without_link
returns c = c.without_any.ensures ∙ ap (λ l. without_any l (in_front c.args.before.now)) (words-are links refl)
