use Rattle.std.proofs.Common.{Bool, sym, ◌∙◌}
use Rattle.cn_c.specs.declared.number.Number.{Number}
use Rattle.cn_c.proofs.ColumnRows.{numbers-printed}
use Rattle.cn_c.proofs.number_column.chinese_wide_numbers_print_column.Goals as goal

pub returns : goal.returns
returns c =
    numbers-printed (λ (signed : Bool) (number : Number). number) _ _ _ _ _ _ _ c.in-Some-Some.integer c.in-Some-Some.style _ _ _ _
    (sym c.kind_of.ensures ∙ c.in-Some-Some.is-0) (sym c.style_of.ensures ∙ c.in-Some-Some.is-1)
    c.print_column.ensures
