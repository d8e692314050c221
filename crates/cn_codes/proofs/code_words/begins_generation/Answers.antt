use Rattle.std.proofs.Common.{ap, refl, chars, ◌∙◌}
use Rattle.std.specs.Char.{encode_utf8}
use Rattle.cn_codes.specs.CodeWords.{begins_generation, generations}
use Rattle.cn_codes.specs.Digits.{begins_any_number}
use Rattle.cn_codes.proofs.WordsWritten.{words-are}
use Rattle.cn_codes.proofs.code_words.begins_generation.Goals as goal

pub returns : goal.returns
unfolding encode_utf8 begins_generation
returns c = c.begins_any_number.ensures ∙ ap (λ l. begins_any_number l (chars c.args.run.now)) (words-are generations refl)
