use Rattle.std.proofs.Common.{refl}
use Rattle.cn_judge.specs.Reason.{reason_in, rule_broken_at}
use Rattle.chinese_number.proofs.Reading.{the_answer, Reads-the_answer}
use Rattle.chinese_number.proofs.Reasons.{IsReason-none, IsReason-same}
use Rattle.chinese_number.proofs.laws.answers.each_refusal_has_one_reason.Goals as goal

pub returns-clause-reason : goal.returns-clause-reason
returns-clause-reason c = λ kind method bytes.
    let answer = the_answer kind method bytes in
    let reads = Reads-the_answer kind method bytes in (
      reason_in (rule_broken_at bytes) answer,
      (answer, reads, refl),
      λ other is. IsReason-same kind method bytes other _ is (answer, reads, refl),
    )

pub returns-clause-none : goal.returns-clause-none
returns-clause-none c = IsReason-none
