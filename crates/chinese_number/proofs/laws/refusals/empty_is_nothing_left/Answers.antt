use Rattle.chinese_number.proofs.Refusals.{Reads-empty, empty-Reads, naive_reading-empty, empty-naive_reading}
use Rattle.chinese_number.proofs.laws.refusals.empty_is_nothing_left.Goals as goal

pub returns : goal.returns
returns c = record {
  units = λ kind method bytes. (Reads-empty kind method bytes, empty-Reads kind method bytes);
  digits = λ kind bytes. (naive_reading-empty kind bytes, empty-naive_reading kind bytes);
}
