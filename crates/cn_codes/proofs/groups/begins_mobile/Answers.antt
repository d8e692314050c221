use Rattle.std.proofs.Common.{ap, refl, chars, ◌∙◌}
use Rattle.std.specs.Char.{encode_utf8}
use Rattle.cn_codes.specs.Groups.{begins_mobile, mobiles}
use Rattle.cn_codes.specs.Digits.{begins_any_number}
use Rattle.cn_codes.proofs.WordsWritten.{words-are}
use Rattle.cn_codes.proofs.groups.begins_mobile.Goals as goal

pub returns : goal.returns
unfolding encode_utf8 begins_mobile
returns c = c.begins_any_number.ensures ∙ ap (λ l. begins_any_number l (chars c.args.run.now)) (words-are mobiles refl)
