use Rattle.std.proofs.Common.{◌≤◌, slice_index_or, ◌-◌, arith, rules}
use Rattle.cn_lines.proofs.Fields.{one_more_fits}
use Rattle.cn_lines.proofs.question.short_value.Goals as goal

pub overflow_mul-value : goal.overflow_mul-value
overflow_mul-value c =
    let i = c.loop-digit.invariant in
    let fits = one_more_fits c.loop-digit.value c.loop-digit.digit-index _ 0 i.2
    c.loop-digit-test.true c.requires (omega arith) in
    search (rules, fits)

pub overflow_add-value : goal.overflow_add-value
overflow_add-value c =
    let i = c.loop-digit.invariant in
    let single : slice_index_or c.args.digits.now c.loop-digit.digit-index 0 - 48 ≤ 9 =
    search rules in
    let fits = one_more_fits c.loop-digit.value c.loop-digit.digit-index _ _ i.2
    c.loop-digit-test.true c.requires single in
    search (rules, fits)
