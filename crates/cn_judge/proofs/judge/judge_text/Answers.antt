use Rattle.std.proofs.Common.{◌+◌, ◌≡◌, rules, filter, length, sym, ap, ◌∙◌}
use Rattle.std.specs.Char.{is_not_whitespace}
use Rattle.cn_core.specs.Characters.{rank}
use Rattle.cn_core.specs.Mark.{mark_of}
use Rattle.cn_core.specs.Text.{text_of}
use Rattle.cn_core.proofs.Chars.{chars-from_empty}
use Rattle.cn_judge.specs.Answer.{answer_of}
use Rattle.cn_judge.specs.Judged.{after_first}
use Rattle.cn_judge.specs.Marked.{marked}
use Rattle.cn_judge.specs.Private.Walk.{tail_answer}
use Rattle.cn_judge.proofs.Endings.{tail-stops, tail-fits, err-same, number_answer-ok_or}
use Rattle.cn_judge.proofs.Judgements.{JudgesAt-empty, JudgesAt-plain, JudgesAt-tail, front-same, front-number, tail-refused, last-wrong, last-adds, not-digit}
use Rattle.cn_judge.proofs.WalkSteps.{digit-low}
use Rattle.cn_judge.proofs.judge.judge_text.Goals as goal

pub returns-then-is_empty : goal.returns-then-is_empty
returns-then-is_empty c =
    let none : length c.args.text.now ≡ 0 = search rules in
    JudgesAt-empty c.args.method _ _
    (ap (filter is_not_whitespace) (chars-from_empty c.args.text.now none))

pub returns-in_default : goal.returns-in_default
returns-in_default c = JudgesAt-empty c.args.method _ _ c.in_default.ensures.parts

pub returns-in_default-split_tail : goal.returns-in_default-split_tail
returns-in_default-split_tail c =
    JudgesAt-plain c.args.method _ _ _ _ _ _ c.in-Some.ensures.parts c.in-Some.ensures.dark
    c.in_default-split_tail.ensures.tail c.judge_walked.ensures

pub returns-in_err-number : goal.returns-in_err-number
returns-in_err-number c =
    let tail = c.in-Some-split_tail.ensures in
    JudgesAt-tail c.args.method _ _ _ _ _ _ _ _ _ c.in-Some.ensures.parts c.in-Some.ensures.dark
    tail.tail
    (err-same _ _ c.from_residual.ensures
    ∙ tail-refused c.args.method _ _ _ _ _ _ _ _ c.in_err-number.ensures
    (front-same c.args.method (c.args.skipped + c.in-Some.first.skipped)
    (mark_of c.in-Some.first.character) _ _ _ tail.end.1.parts))

pub returns-in_default-last : goal.returns-in_default-last
returns-in_default-last c =
    let tail = c.in-Some-split_tail.ensures in
    let tail_at = c.in-Some-split_tail.tail in
    let char_index = c.args.skipped + c.in-Some.first.skipped in
    let place = length (text_of tail_at.body.now) + 1 in
    let number = front-number char_index _ tail_at.body.now _ c.in_ok-number.ensures in
    JudgesAt-tail c.args.method _ _ _ _ _ _ _ _ _ c.in-Some.ensures.parts c.in-Some.ensures.dark
    tail.tail
    (last-wrong char_index _ _ _ _ tail.end.1
    (ap (λ n. char_index + 1 + n) c.count_chars.ensures.count)
    ∙ ap (after_first char_index c.in-Some.first.rest.now)
    (sym (ap (tail_answer c.args.method place (rank tail_at.unit) (marked tail_at.last)) number
    ∙ tail-stops c.args.method place _ _ (marked tail_at.last)
    (not-digit tail_at.last c.in_default-last.not-Digit))))

pub add_tail-requires-clause-digit : goal.add_tail-requires-clause-digit
add_tail-requires-clause-digit c = digit-low c.in-Some-split_tail.ensures.end.0 _
    (rw c.in-Digit.is at c.in-Some-split_tail.ensures.end.2)

pub add_tail-requires-clause-fits : goal.add_tail-requires-clause-fits
add_tail-requires-clause-fits c =
    tail-fits c.args.method (mark_of c.in-Some.first.character) _ _ _ _ _
    c.in-Some-split_tail.ensures.tail
    (sym (front-number (c.args.skipped + c.in-Some.first.skipped) _
    c.in-Some-split_tail.tail.body.now _ c.in_ok-number.ensures))

pub returns : goal.returns
returns c =
    let char_index = c.args.skipped + c.in-Some.first.skipped in
    JudgesAt-tail c.args.method _ _ _ _ _ _ _ _ _ c.in-Some.ensures.parts c.in-Some.ensures.dark
    c.in-Some-split_tail.ensures.tail
    (last-adds c.args.method char_index _ _ _ _ _ c.in-Some-split_tail.tail.last _ _
    (front-number char_index _ c.in-Some-split_tail.tail.body.now _
    c.in_ok-number.ensures) c.in-Digit.is
    (ap (answer_of (λ n. n)) c.ok_or.ensures.value
    ∙ number_answer-ok_or char_index _ _ _ c.add_tail.ensures))
