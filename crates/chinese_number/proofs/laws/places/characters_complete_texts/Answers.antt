use Rattle.cn_core.proofs.OpenUnits.{completable-from_characters}
use Rattle.chinese_number.proofs.Places.{completable_by_scalars}
use Rattle.chinese_number.proofs.laws.places.characters_complete_texts.Goals as goal

pub returns : goal.returns
returns c = λ text. (completable_by_scalars text, λ h. completable-from_characters text h.0 h.2 h.3)
