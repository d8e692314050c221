use Rattle.std.proofs.Common.{rules}
use Rattle.cn_find.proofs.Extra.{numbers-alone}
use Rattle.cn_find.proofs.laws.expressions_of_numerals_are_numbers.Goals as goal

pub returns : goal.returns
returns c = λ bytes usual. numbers-alone c.args.wanted bytes (search (rules, usual))
