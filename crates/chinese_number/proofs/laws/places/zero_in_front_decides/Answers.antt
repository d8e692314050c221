use Rattle.cn_core.proofs.Fronts.{completable_by_zero, completable-from_zero}
use Rattle.chinese_number.proofs.laws.places.zero_in_front_decides.Goals as goal

pub returns : goal.returns
returns c = λ marks. (completable_by_zero marks, completable-from_zero marks)
