use Rattle.cn_quantity.proofs.Ends.{IsEnd-end}
use Rattle.cn_quantity.proofs.Negated.{IsEnd-over}
use Rattle.cn_quantity.proofs.ratio.split_negated.Goals as goal

pub count_before-requires : goal.count_before-requires
count_before-requires c =
    IsEnd-end _ _ _ (IsEnd-over _ _ _ _ c.in_ok-bar.ensures.parts) c.in_ok-c.ensures.parts.end
