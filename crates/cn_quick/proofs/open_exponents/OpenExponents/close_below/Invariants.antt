use Rattle.std.proofs.Common.{◌≡◌, length}
use Rattle.cn_core.specs.Characters.{rank}
use Rattle.cn_quick.specs.Private.Regular.{not_smaller}
use Rattle.cn_quick.proofs.open_exponents.OpenExponents.close_below.Given as goal

abbrev pub invariant-closing : goal.invariant-closing
invariant-closing l = not_smaller (rank l.unit) l.self ≡ not_smaller (rank l.unit) l.fn.self

abbrev pub decreases-closing : goal.decreases-closing
decreases-closing l = length l.self
