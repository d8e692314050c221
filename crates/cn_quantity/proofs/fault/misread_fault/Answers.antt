use Rattle.std.proofs.Common.{ap, option_map}
use Rattle.cn_core.specs.Characters.{rank}
use Rattle.cn_quantity.proofs.Faults.{refused-fault, summed-fault}
use Rattle.cn_quantity.proofs.WholeNumbers.{no-bare}
use Rattle.cn_quantity.proofs.fault.misread_fault.Goals as goal

pub returns-in_default : goal.returns-in_default
returns-in_default c = λ s.
    refused-fault c.args.method c.args.text.now _ _ _ _ _ s
    (no-bare c.args.text.now _ _ _ (ap (option_map rank) c.in_default.is) s) c.requires.rule
    (c.refused_fault.ensures s)

pub returns-in-None : goal.returns-in-None
returns-in-None c = λ s.
    summed-fault c.args.method (rank c.in-Some.unit) c.args.text.now _ _ _ _ s
    (ap (option_map rank) c.in-Some.is) c.in-None.ensures.parts
    (c.sum_fault.ensures c.args.text.now s)
