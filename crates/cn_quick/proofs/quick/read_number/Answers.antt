use Rattle.std.proofs.Common.{sym, ap, ◌∙◌}
use Rattle.cn_judge.specs.Signed.{signed_answer}
use Rattle.cn_judge.proofs.Pieces.{Reads-signed}
use Rattle.cn_quick.proofs.quick.read_number.Goals as goal

pub returns : goal.returns
returns g c =
    let after = c.split_sign-after in
    let judged = c.judge_quickly.ensures in
    Reads-signed g.T.Whole.kind c.args.method _ _ _ _ after.result.sign judged.0 _
    (g.met.T.Whole.signed_is ∙ sym c.SIGNED.ensures) after.ensures.sign after.ensures.rest judged.1
    (c.signed_answer.ensures ∙ ap (signed_answer g.T.Whole.kind after.result.sign) judged.2)
