use Rattle.std.proofs.Common.{ap, option_map}
use Rattle.cn_core.specs.Characters.{rank}
use Rattle.cn_quantity.proofs.WholeNumbers.{misread-refused, no-bare}
use Rattle.cn_quantity.proofs.whole_number.judge_misread.Goals as goal

pub returns-in_default : goal.returns-in_default
returns-in_default c = λ s.
    misread-refused c.args.method c.args.skipped c.args.text.now _ _ _ _ s
    (no-bare c.args.text.now _ _ _ (ap (option_map rank) c.in_default.is) s)
    (c.refusal_of_misread.ensures s)
