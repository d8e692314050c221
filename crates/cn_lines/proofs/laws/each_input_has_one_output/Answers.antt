use Rattle.cn_lines.specs.Lines.{lines}
use Rattle.cn_lines.proofs.OneAnswer.{single_output, some_replies}
use Rattle.cn_lines.proofs.laws.each_input_has_one_output.Goals as goal

pub returns : goal.returns
returns c = λ input. let output = some_replies (lines input)
    in (output.0, output.1, λ other is. single_output (lines input) other output.0 is output.1)
