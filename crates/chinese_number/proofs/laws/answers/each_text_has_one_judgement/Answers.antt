use Rattle.cn_core.specs.Judging.{judge}
use Rattle.cn_core.proofs.Judging.{Judges-judge, Judges-same}
use Rattle.chinese_number.proofs.laws.answers.each_text_has_one_judgement.Goals as goal

pub returns : goal.returns
returns c = λ method marks. (
  judge method marks,
  Judges-judge method marks,
  λ other is. Judges-same method marks other (judge method marks) is (Judges-judge method marks),
)
