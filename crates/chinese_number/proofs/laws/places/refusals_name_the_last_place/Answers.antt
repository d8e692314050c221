use Rattle.chinese_number.proofs.Numerals.{refused_at}
use Rattle.chinese_number.proofs.laws.places.refusals_name_the_last_place.Goals as goal

pub returns : goal.returns
returns c = refused_at
