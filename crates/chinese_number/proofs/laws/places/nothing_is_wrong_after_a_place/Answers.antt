use Rattle.chinese_number.proofs.Places.{zero_after_place}
use Rattle.chinese_number.proofs.laws.places.nothing_is_wrong_after_a_place.Goals as goal

pub returns : goal.returns
returns c = zero_after_place
