use Rattle.cn_core.specs.Judging.{place_of}
use Rattle.cn_core.proofs.Fronts.{IsPlace-place_of, IsPlace-same}
use Rattle.chinese_number.proofs.laws.places.each_list_has_one_place.Goals as goal

pub returns : goal.returns
returns c = λ marks. (
  place_of marks,
  IsPlace-place_of marks,
  λ place at_place. IsPlace-same marks place (place_of marks) at_place (IsPlace-place_of marks),
)
