use Rattle.std.proofs.Common.{sym, ◌∙◌}
use Rattle.cn_c.proofs.ColumnRows.{dates-printed}
use Rattle.cn_c.proofs.date_column.chinese_dates_print_column.Goals as goal

pub returns : goal.returns
returns c =
    dates-printed _ _ _ _ c.in-Some.script _ _ _ _ (sym c.script_of.ensures ∙ c.in-Some.is)
    c.print_column.ensures
