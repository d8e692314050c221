use Rattle.std.proofs.Common.{ap, ◌∙◌, Err}
use Rattle.cn_quantity.proofs.WholeNumbers.{refused-later}
use Rattle.cn_quantity.proofs.whole_number.refusal_of_misread.Goals as goal

pub returns-in-Err : goal.returns-in-Err
returns-in-Err c = λ s.
    ap Err (rw (c.misread_error-in-Err.ensures c.args.text.now s) at c.later_of.ensures)
    ∙ refused-later c.args.skipped c.args.text.now _ _ _
    (rw c.in-Err.is at c.judge_reader.ensures)
