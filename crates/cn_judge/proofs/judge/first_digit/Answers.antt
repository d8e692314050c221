use Rattle.std.proofs.Common.{rules, ◌≡◌}
use Rattle.cn_core.specs.Mark.{digit, mark_of}
use Rattle.cn_judge.proofs.Endings.{first-stops}
use Rattle.cn_judge.proofs.judge.first_digit.Goals as goal

pub returns-then-not-separates_digits-clause-none : goal.returns-then-not-separates_digits-clause-none
returns-then-not-separates_digits-clause-none c = λ character marks is each starts.
    let same : digit c.in-Digit.value ≡ mark_of character = search rules in
    first-stops character c.in-Digit.value same c.args.at_digit c.if-not-separates_digits.ensures
    marks each starts
