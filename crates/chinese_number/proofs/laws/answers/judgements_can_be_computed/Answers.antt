use Rattle.cn_core.specs.Judging.{judge}
use Rattle.cn_core.proofs.Judging.{Judges-judge, Judges-by_walk, Judges-same}
use Rattle.chinese_number.proofs.laws.answers.judgements_can_be_computed.Goals as goal

pub returns : goal.returns
returns c = λ method marks answer. (
  Judges-same method marks (judge method marks) answer
      (Judges-judge method marks),
  Judges-by_walk method marks answer,
)
