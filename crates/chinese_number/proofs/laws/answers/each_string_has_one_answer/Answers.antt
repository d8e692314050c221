use Rattle.chinese_number.proofs.Reading.{the_answer, Reads-the_answer, Reads-same}
use Rattle.chinese_number.proofs.laws.answers.each_string_has_one_answer.Goals as goal

pub returns : goal.returns
returns c = λ kind method bytes. (
  the_answer kind method bytes,
  Reads-the_answer kind method bytes,
  λ other is. Reads-same kind method bytes other (the_answer kind method bytes) is
      (Reads-the_answer kind method bytes),
)
