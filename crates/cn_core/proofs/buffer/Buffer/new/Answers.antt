use Rattle.std.proofs.Common.{refl, arith}
use Rattle.cn_core.proofs.buffer.Buffer.new.Goals as goal

pub returns-clause-empty : goal.returns-clause-empty
returns-clause-empty c = record {
  lender = refl;
  size = refl;
  count = refl;
  prefix = (0, omega arith, refl);
  fits = λ _. refl;
}
