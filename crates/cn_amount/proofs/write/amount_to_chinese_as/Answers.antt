use Rattle.std.proofs.Common.{rules}
use Rattle.cn_amount.proofs.FormsShown.{written_is}
use Rattle.cn_amount.proofs.write.amount_to_chinese_as.Goals as goal

pub returns : goal.returns
returns c = written_is _ _ _ _ _ (search rules) c.in_ok-string_of.ensures (search rules)
