use Rattle.std.proofs.Common.{rules}
use Rattle.cn_find.proofs.Estimates.{no-estimate}
use Rattle.cn_find.proofs.laws.numerals_have_no_estimate.Goals as goal

pub returns : goal.returns
returns c = λ text numeral. no-estimate text (search (rules, numeral))
