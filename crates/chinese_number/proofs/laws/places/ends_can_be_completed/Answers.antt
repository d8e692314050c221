use Rattle.std.proofs.Common.{drop}
use Rattle.cn_core.proofs.Fronts.{each-from_completable, completable-from_each, each-drop}
use Rattle.chinese_number.proofs.laws.places.ends_can_be_completed.Goals as goal

pub returns : goal.returns
returns c = λ start marks h. completable-from_each (drop start marks)
    (each-drop start marks (each-from_completable marks h))
