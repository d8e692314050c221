use Rattle.cn_lines.proofs.OneAnswer.{single_answer, some_answer}
use Rattle.cn_lines.proofs.laws.each_line_has_one_answer.Goals as goal

pub returns : goal.returns
returns c = λ line. let answer = some_answer line
    in (answer.0, answer.1, λ other is. single_answer line other answer.0 is answer.1)
