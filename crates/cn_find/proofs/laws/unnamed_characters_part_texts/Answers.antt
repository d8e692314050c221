use Rattle.cn_find.specs.Expressions.{expression_rule}
use Rattle.cn_find.proofs.Parting.{parts-text}
use Rattle.cn_find.proofs.Unnamed.{unnamed-parts}
use Rattle.cn_find.proofs.laws.unnamed_characters_part_texts.Goals as goal

pub returns : goal.returns
returns c = λ left right d first second unwanted unnamed.
    parts-text (expression_rule c.args.wanted) d (unnamed-parts c.args.wanted d unwanted unnamed)
    left right first second
