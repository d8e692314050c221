use Rattle.std.proofs.Common.{rules}
use Rattle.cn_core.proofs.Powers.{entry_is_power}
use Rattle.cn_core.proofs.scales.power_of_ten.Goals as goal

pub returns : goal.returns
returns c = search (rules, entry_is_power)
