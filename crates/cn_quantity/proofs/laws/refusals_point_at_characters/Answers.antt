use Rattle.cn_quantity.proofs.Signed.{quantity-points}
use Rattle.cn_quantity.proofs.laws.refusals_point_at_characters.Goals as goal

pub returns : goal.returns
returns c = quantity-points
