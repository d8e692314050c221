use Rattle.std.proofs.Common.{sym, ap, ◌∙◌, true, false, is_some, refl}
use Rattle.cn_quantity.proofs.Points.{colloquial-cut}
use Rattle.cn_quantity.proofs.decimal.ends_colloquially.Goals as goal

pub returns-then-is_great_unit : goal.returns-then-is_great_unit
returns-then-is_great_unit c =
    colloquial-cut _ _ _ _ _ true _ c.in-Some.ensures.parts.text
    c.in-Some-split_last.ensures.parts.text (sym c.if-is_great_unit.true ∙ c.is_great_unit.ensures)
    (c.is_some.ensures ∙ ap is_some c.digit_of.ensures)

pub returns-else-is_great_unit : goal.returns-else-is_great_unit
returns-else-is_great_unit c =
    c.if-is_great_unit.false
    ∙ colloquial-cut _ _ _ _ _ false _ c.in-Some.ensures.parts.text
    c.in-Some-split_last.ensures.parts.text (sym c.if-is_great_unit.false ∙ c.is_great_unit.ensures)
    refl
