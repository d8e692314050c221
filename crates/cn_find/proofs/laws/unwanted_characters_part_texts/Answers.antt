use Rattle.cn_find.specs.Rule.{number_rule}
use Rattle.cn_find.proofs.Parting.{parts-text}
use Rattle.cn_find.proofs.Unwanted.{unwanted-parts}
use Rattle.cn_find.proofs.laws.unwanted_characters_part_texts.Goals as goal

pub returns : goal.returns
returns c = λ left right d first second unwanted unmeasured.
    parts-text (number_rule c.args.wanted) d (unwanted-parts c.args.wanted d unwanted unmeasured)
    left right first second
