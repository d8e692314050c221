use Rattle.cn_quantity.proofs.Ends.{IsEnd-end}
use Rattle.cn_quantity.proofs.Signed.{front-place}
use Rattle.cn_quantity.proofs.quantity.split_front.Goals as goal

pub count_before-requires : goal.count_before-requires
count_before-requires c = IsEnd-end _ _ _ c.split_sign-sign.ensures.end c.after_yen-rest.ensures.end

pub returns-clause-rest : goal.returns-clause-rest
returns-clause-rest c =
    c.count_before.ensures.stands _
    (front-place _ _ _ c.split_sign-sign.ensures.rest c.after_yen-rest.ensures.rest)
