use Rattle.std.proofs.Common.{sym, arith}
use Rattle.cn_judge.proofs.ShortMarks.{ascii_digit-mark, short-other}
use Rattle.cn_judge.proofs.mark.mark_of.Goals as goal

pub returns-then-is_ascii_digit : goal.returns-then-is_ascii_digit
returns-then-is_ascii_digit c =
    let is = c.if-is_ascii_digit.ensures.cases in
    ascii_digit-mark c.args.c (omega (arith, is)) (omega (arith, is))

pub returns-else-is_ascii_digit : goal.returns-else-is_ascii_digit
returns-else-is_ascii_digit c =
    sym (short-other c.args.c c.else-code-ge2048.either (sym c.if-is_ascii_digit.ensures.value))
