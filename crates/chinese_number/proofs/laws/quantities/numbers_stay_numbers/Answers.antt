use Rattle.chinese_number.proofs.Quantities.{numeral-stays, plain-stays}
use Rattle.chinese_number.proofs.laws.quantities.numbers_stay_numbers.Goals as goal

pub returns : goal.returns
returns c = record { units = numeral-stays; digits = plain-stays }
