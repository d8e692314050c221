use Rattle.std.proofs.Common.{rules}
use Rattle.cn_find.proofs.Types.{same-number, same-place}
use Rattle.cn_find.proofs.laws.types_answer_alike_without_sign.Goals as goal

pub returns : goal.returns
returns c = record {
  number = λ here there method bytes number none given held.
      same-number here there method bytes number none given (search (rules, held));
  place = same-place;
}
