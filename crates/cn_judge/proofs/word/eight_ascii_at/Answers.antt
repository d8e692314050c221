use Rattle.cn_judge.proofs.Passing.{ascii-at, word-at}
use Rattle.cn_judge.proofs.word.eight_ascii_at.Goals as goal

pub returns-in-Some-clause-within : goal.returns-in-Some-clause-within
returns-in-Some-clause-within c = λ is.
    let at = word-at c.args.bytes.now _ c.args.index _ (λ i. (c.type_inv.bytes i).fits) c.requires
    c.in-Some.ensures.cases c.from_le_bytes.ensures in at.within

pub returns-in-Some-clause-ascii : goal.returns-in-Some-clause-ascii
returns-in-Some-clause-ascii c = λ is.
    let at = word-at c.args.bytes.now _ c.args.index _ (λ i. (c.type_inv.bytes i).fits) c.requires
    c.in-Some.ensures.cases c.from_le_bytes.ensures in
    let ascii = c.eight_are_ascii.ensures in
    ascii-at c.args.bytes.now c.args.index _ at (ascii.first is) (ascii.second is) (ascii.third is)
    (ascii.fourth is) (ascii.fifth is) (ascii.sixth is) (ascii.seventh is) (ascii.eighth is)
