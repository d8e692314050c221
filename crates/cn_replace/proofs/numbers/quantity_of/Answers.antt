use Rattle.std.proofs.Common.{sym, ap, ◌∙◌}
use Rattle.std.proofs.lemmas.Str.{encodes-chars}
use Rattle.cn_quantity.specs.Reading.{quantity_answer}
use Rattle.cn_replace.specs.KeptNumbers.{quantity_of}
use Rattle.cn_replace.proofs.numbers.quantity_of.Goals as goal

pub returns : goal.returns
unfolding quantity_of
returns c =
    c.chinese_to_quantity.ensures
    ∙ ap (quantity_answer c.args.method) (sym (encodes-chars c.args.text.now c.utf8.text))
