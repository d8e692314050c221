use Rattle.std.proofs.Common.{sym, ap, ◌∙◌}
use Rattle.cn_core.specs.Mark.{mark_of}
use Rattle.cn_judge.specs.Answer.{answer_of}
use Rattle.cn_judge.specs.Judged.{after_first}
use Rattle.cn_judge.proofs.Endings.{walked-each, front-fits, number_answer-ok_or}
use Rattle.cn_judge.proofs.WalkSteps.{walked-positive}
use Rattle.cn_judge.proofs.judge.judge_walked.Goals as goal

pub finish-requires : goal.finish-requires
finish-requires c = walked-positive c.args.method _ _ _ _ c.in_ok-state.ensures

pub returns : goal.returns
returns c =
    let w = c.in_ok-state.ensures in
    let fits = c.in-Some.ensures.some _ (walked-each c.args.method _ _ _ _ w)
    (c.is_at_digit.ensures ∙ w.after_digit) in
    let first = rw c.mark_of.ensures at fits in
    ap (answer_of (λ n. n)) c.ok_or.ensures.value
    ∙ number_answer-ok_or c.args.char_index _ c.args.rest.now _ c.finish.ensures
    ∙ sym (ap (after_first c.args.char_index c.args.rest.now)
    (front-fits c.args.method (mark_of c.args.first) _ _ _ _ _ w first))
