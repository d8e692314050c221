use Rattle.std.proofs.Common.{sym, ◌∙◌}
use Rattle.cn_quantity.proofs.Bars.{share-some}
use Rattle.cn_quantity.proofs.ratio.split_share.Goals as goal

pub returns-in_err-divisor-clause-share : goal.returns-in_err-divisor-clause-share
returns-in_err-divisor-clause-share c =
    rw c.from_residual-in_err-divisor.ensures
    (share-some _ _ _ _ _ c.in_ok-c.ensures.parts.text c.in_ok-split_first.ensures.parts.text
    ∙ sym c.share_of.ensures.value ∙ c.in_err-divisor.was)

pub returns-clause-share : goal.returns-clause-share
returns-clause-share c =
    share-some _ _ _ _ _ c.in_ok-c.ensures.parts.text c.in_ok-split_first.ensures.parts.text
    ∙ sym c.share_of.ensures.value ∙ c.in_ok-divisor.was
