use Rattle.std.proofs.Common.{sym, ◌∙◌}
use Rattle.cn_quantity.proofs.WholeNumbers.{reader-plain, reader-units}
use Rattle.cn_quantity.proofs.Told.{told-judged}
use Rattle.cn_quantity.proofs.whole_number.judge_reader.Goals as goal

pub returns-then-is_plain : goal.returns-then-is_plain
returns-then-is_plain c =
    reader-plain c.args.method c.args.skipped c.args.text.now _ _
    (sym c.is_plain.ensures ∙ c.if-is_plain.true) c.judge_naive.ensures

pub returns-else-is_plain : goal.returns-else-is_plain
returns-else-is_plain c =
    reader-units c.args.method c.args.skipped c.args.text.now _ _
    (sym c.is_plain.ensures ∙ c.if-is_plain.false)
    (told-judged c.args.method c.args.skipped c.args.text.now _ c.judge_text.ensures)
