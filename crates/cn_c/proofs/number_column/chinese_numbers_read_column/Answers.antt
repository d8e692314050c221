use Rattle.std.proofs.Common.{sym, ◌∙◌}
use Rattle.cn_c.proofs.ColumnRows.{numbers-read}
use Rattle.cn_c.proofs.number_column.chinese_numbers_read_column.Goals as goal

pub returns : goal.returns
returns c =
    numbers-read _ _ _ _ c.in-Some-Some.field-0-0 c.in-Some-Some.field-0-1 _ _ _ _ _
    (sym c.kind_of.ensures ∙ c.in-Some-Some.is-0) (sym c.named_way_of.ensures ∙ c.in-Some-Some.is-1)
    c.read_column.ensures
