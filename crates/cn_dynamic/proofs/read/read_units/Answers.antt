use Rattle.std.proofs.Common.{sym, ap, ◌∙◌}
use Rattle.cn_dynamic.specs.IntegerTypes.{the_kind}
use Rattle.cn_judge.specs.Signed.{signed_answer}
use Rattle.cn_judge.proofs.Pieces.{Reads-signed}
use Rattle.cn_dynamic.proofs.read.read_units.Goals as goal

pub returns-clause-answer : goal.returns-clause-answer
returns-clause-answer c =
    let kind = the_kind c.args.integer in
    let after = c.split_sign-after in
    let judged = c.judge_quickly-judged.ensures in
    Reads-signed kind c.args.method _ _ _ _ after.result.sign judged.0 _ (sym c.is_signed.ensures)
    after.ensures.sign after.ensures.rest judged.1
    (c.signed_answer.ensures.answer ∙ ap (signed_answer kind after.result.sign) judged.2)
