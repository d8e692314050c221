use Rattle.cn_quantity.proofs.DroppedZeros.{above-trimmed, known-trimmed, last-trimmed, percent-trimmed, unknown-trimmed, value-trimmed}
use Rattle.cn_quantity.proofs.laws.trimmed_keeps_the_value.Goals as goal

pub returns-clause-value : goal.returns-clause-value
returns-clause-value c = value-trimmed

pub returns-clause-above : goal.returns-clause-above
returns-clause-above c = above-trimmed

pub returns-clause-percent : goal.returns-clause-percent
returns-clause-percent c = percent-trimmed

pub returns-clause-known : goal.returns-clause-known
returns-clause-known c = known-trimmed

pub returns-clause-last : goal.returns-clause-last
returns-clause-last c = last-trimmed

pub returns-clause-unknown : goal.returns-clause-unknown
returns-clause-unknown c = unknown-trimmed
