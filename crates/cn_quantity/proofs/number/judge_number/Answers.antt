use Rattle.cn_quantity.proofs.Numbers.{shaped-else, whole-first}
use Rattle.cn_quantity.proofs.number.judge_number.Goals as goal

pub returns-in-Ok : goal.returns-in-Ok
returns-in-Ok c =
    whole-first c.args.skipped c.args.text.now _ _ _ _ c.in-Ok.ensures c.decimal_of.ensures

pub returns-in-Err : goal.returns-in-Err
returns-in-Err c =
    shaped-else c.args.skipped c.args.text.now _ _ _ _ c.in-Err.ensures c.judge_shaped.ensures
