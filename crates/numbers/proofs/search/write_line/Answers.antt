use Rattle.std.proofs.Common.{◌++◌, codes, decimal, sym}
use Rattle.std.proofs.lemmas.Result.{on_ok_weaker}
use Rattle.numbers.proofs.Lines.{AnswersLine-text, AnswersLine-none}
use Rattle.numbers.proofs.search.write_line.Goals as goal

pub returns-in-Ok : goal.returns-in-Ok
returns-in-Ok g c = on_ok_weaker c.write_numbers.result
    (λ p. (
      p.0,
      AnswersLine-text _ _ _ _ c.in-Ok.ensures.cases.1
          (rw (sym c.in-Ok.ensures.cases.0) p.1),
      p.2,
    )) c.write_numbers.ensures

pub returns-in-Err : goal.returns-in-Err
returns-in-Err g c = on_ok_weaker c.writeln.result
    (λ w. (
      decimal c.args.line ++ codes ":1 bad line\n",
      AnswersLine-none _ _ _ c.in-Err.ensures.cases.0,
      w,
    )) c.writeln.ensures.bytes
