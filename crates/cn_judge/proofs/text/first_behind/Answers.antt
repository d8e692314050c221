use Rattle.cn_judge.proofs.text.first_behind.Goals as goal

pub returns-clause-dark : goal.returns-clause-dark
returns-clause-dark c = c.requires _ _ c.in_ok-character.ensures.parts.0
