use Rattle.std.proofs.Common.{rules}
use Rattle.cn_amount.proofs.SignedShown.{signed_is}
use Rattle.cn_amount.proofs.write.signed_amount_to_chinese.Goals as goal

pub returns : goal.returns
returns c = signed_is _ _ _ _ _ (search rules) c.in_ok-string_of.ensures (search rules)
