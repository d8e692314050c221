use Rattle.cn_quantity.proofs.FaultsFound.{none-read}
use Rattle.cn_quantity.proofs.laws.each_refusal_has_a_reason.Goals as goal

pub returns : goal.returns
returns c = none-read
