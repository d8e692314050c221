use Rattle.std.proofs.Common.{ap, sym, ◌∙◌}
use Rattle.cn_quantity.specs.Number.{decimal_of}
use Rattle.cn_quantity.proofs.Numbers.{decimal-stops, decimal-goes_on, not-true, tens-told, turned-told, whole-stops, whole-goes_on}
use Rattle.cn_quantity.proofs.Told.{err-told}
use Rattle.cn_quantity.proofs.number.judge_shaped.Goals as goal

pub returns-in_err-whole : goal.returns-in_err-whole
returns-in_err-whole c =
    err-told (λ d. d) _ _ c.from_residual.ensures
    ∙ decimal-stops c.args.method c.args.skipped c.args.text.now _ _ _
    (not-true _ c.in_default.ensures) (sym c.in_default-by_turns.ensures) c.in-Some-split_decimal.ensures.decimal
    c.in-Some-split_decimal.ensures.parts c.in_err-whole.ensures

pub returns-in-Some-split_decimal : goal.returns-in-Some-split_decimal
returns-in-Some-split_decimal c =
    decimal-goes_on c.args.method c.args.skipped _ _ c.args.text.now _ _ _
    (not-true _ c.in_default.ensures) (sym c.in_default-by_turns.ensures) c.in-Some-split_decimal.ensures.decimal
    c.in-Some-split_decimal.ensures.parts c.in_ok-whole.ensures
    c.in-Some-split_decimal.ensures.count
    (c.decimal_of-in-Some-split_decimal.ensures
    ∙ ap (decimal_of _) c.read_with_units-in-Some-split_decimal.ensures)

pub returns-in-Some-short_tens : goal.returns-in-Some-short_tens
returns-in-Some-short_tens c =
    tens-told c.args.method c.args.skipped _ c.args.text.now _
    (not-true _ c.in_default.ensures) (sym c.in_default-by_turns.ensures) c.in_default-split_decimal.ensures.decimal
    c.in-Some-short_tens.ensures c.decimal_of-in-Some-short_tens.ensures

pub returns-in_err-whole-2 : goal.returns-in_err-whole-2
returns-in_err-whole-2 c =
    err-told (λ d. d) _ _ c.from_residual-in_err-whole-2.ensures
    ∙ whole-stops c.args.method c.args.skipped c.args.text.now _
    (not-true _ c.in_default.ensures) (sym c.in_default-by_turns.ensures) c.in_default-split_decimal.ensures.decimal
    (sym c.in_default-short_tens.ensures) c.in_err-whole-2.ensures

pub returns : goal.returns
returns c =
    whole-goes_on c.args.method c.args.skipped _ c.args.text.now _
    (not-true _ c.in_default.ensures) (sym c.in_default-by_turns.ensures) c.in_default-split_decimal.ensures.decimal
    (sym c.in_default-short_tens.ensures) c.in_ok-whole-2.ensures c.decimal_of-2.ensures

pub returns-in-Some-by_turns : goal.returns-in-Some-by_turns
returns-in-Some-by_turns c =
    turned-told c.args.method c.args.skipped _ c.args.text.now _
    (not-true _ c.in_default.ensures) c.in-Some-by_turns.ensures c.decimal_of-in-Some-by_turns.ensures
