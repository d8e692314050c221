use Rattle.cn_quantity.proofs.Told.{told-judged}
use Rattle.cn_quantity.proofs.fault.units_fault.Goals as goal

pub returns : goal.returns
returns c =
    c.numeral_fault.ensures _
    (told-judged c.args.method 0 c.args.text.now _ c.judge_text.ensures)
