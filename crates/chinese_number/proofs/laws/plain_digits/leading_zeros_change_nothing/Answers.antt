use Rattle.chinese_number.proofs.LeadingZeros.{naive_reading-zeros}
use Rattle.chinese_number.proofs.laws.plain_digits.leading_zeros_change_nothing.Goals as goal

pub returns : goal.returns
returns c = naive_reading-zeros
