use Rattle.cn_judge.proofs.Pieces.{StandsAt-dark}
use Rattle.cn_judge.proofs.judge.split_sign.Goals as goal

pub returns-in-Some-sign_of-clause-rest : goal.returns-in-Some-sign_of-clause-rest
returns-in-Some-sign_of-clause-rest c =
    StandsAt-dark _ _ _ _ _ (c.in-Some.ensures.parts _ c.skip_spaces-behind.ensures.at) c.in-Some.ensures.dark
