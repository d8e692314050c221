use Rattle.std.proofs.Common.{ap, refl, ◌∙◌}
use Rattle.std.specs.Char.{encode_utf8}
use Rattle.cn_find.specs.Spans.{in_front}
use Rattle.cn_codes.specs.CodeWords.{ends_word_of_codes, words_of_codes}
use Rattle.cn_codes.specs.Words.{ends_any}
use Rattle.cn_codes.proofs.WordsWritten.{words-are}
use Rattle.cn_codes.proofs.code_words.ends_word_of_codes.Goals as goal

pub returns : goal.returns
unfolding encode_utf8 ends_word_of_codes
returns c = c.ends_any.ensures ∙ ap (λ l. ends_any l (in_front c.args.before.now)) (words-are words_of_codes refl)
