use Rattle.std.proofs.Common.{sym, ◌∙◌}
use Rattle.cn_quantity.proofs.Told.{err-told, told-judged}
use Rattle.cn_quantity.proofs.WholeNumbers.{sum-goes_on, sum-refused, sum-stops, sum-stops_after}
use Rattle.cn_quantity.proofs.whole_number.judge_sum.Goals as goal

pub returns-in_err-first : goal.returns-in_err-first
returns-in_err-first c = λ bytes s.
    err-told (λ n. n) _ _ c.from_residual.ensures
    ∙ sum-stops c.args.method c.args.skipped _ bytes _ _ _ s.parts
    (told-judged c.args.method _ _ _ c.in_err-first.ensures)

pub returns-in_err-second : goal.returns-in_err-second
returns-in_err-second c = λ bytes s.
    err-told (λ n. n) _ _ c.from_residual-in_err-second.ensures
    ∙ sum-stops_after c.args.method c.args.skipped _ _ bytes _ _ _ s.parts
    (told-judged c.args.method _ _ _ c.in_ok-first.ensures)
    (told-judged c.args.method _ _ _ (rw c.count_chars.ensures.count at c.in_err-second.ensures))

pub returns-then-is_below_unit : goal.returns-then-is_below_unit
returns-then-is_below_unit c = λ bytes s.
    sum-goes_on c.args.method c.args.skipped _ _ _ bytes _ _ _ s.parts
    (told-judged c.args.method _ _ _ c.in_ok-first.ensures)
    (told-judged c.args.method _ _ _ (rw c.count_chars.ensures.count at c.in_ok-second.ensures))
    (sym c.is_below_unit.ensures ∙ c.if-is_below_unit.true) c.sum_of.ensures

pub returns-else-is_below_unit : goal.returns-else-is_below_unit
returns-else-is_below_unit c = λ bytes s.
    sum-refused c.args.method c.args.skipped _ _ _ bytes _ _ _ s.parts
    (told-judged c.args.method _ _ _ c.in_ok-first.ensures)
    (told-judged c.args.method _ _ _ (rw c.count_chars.ensures.count at c.in_ok-second.ensures))
    (sym c.is_below_unit.ensures ∙ c.if-is_below_unit.false) (c.misread_error.ensures bytes s)
