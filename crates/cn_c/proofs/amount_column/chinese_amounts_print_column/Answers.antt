use Rattle.std.proofs.Common.{sym, ◌∙◌}
use Rattle.cn_c.proofs.ColumnRows.{amounts-printed}
use Rattle.cn_c.proofs.amount_column.chinese_amounts_print_column.Goals as goal

pub returns : goal.returns
returns c =
    amounts-printed _ _ _ _ _ c.in-Some-Some.script c.in-Some-Some.form _ _ _ _
    (sym c.script_of.ensures ∙ c.in-Some-Some.is-0) (sym c.form_of.ensures ∙ c.in-Some-Some.is-1)
    c.print_column.ensures
