use Rattle.std.proofs.Common.{◌∙◌, rules}
use Rattle.cn_find.proofs.Agreement.{one-number}
use Rattle.cn_find.proofs.laws.one_number_either_way.Goals as goal

pub returns : goal.returns
returns c = λ method marks number all numeral same.
    one-number method marks (search (rules, all)) numeral ∙ same
