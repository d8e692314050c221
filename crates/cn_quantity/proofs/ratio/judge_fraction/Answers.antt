use Rattle.std.proofs.Common.{ap, ◌∙◌}
use Rattle.cn_quantity.specs.Ratio.{ratio_of}
use Rattle.cn_quantity.proofs.Ratios.{fraction-goes_on, fraction-stops, fraction-stops_over}
use Rattle.cn_quantity.proofs.Told.{err-told}
use Rattle.cn_quantity.proofs.ratio.judge_fraction.Goals as goal

pub returns-in_err-divisor : goal.returns-in_err-divisor
returns-in_err-divisor c = λ bytes place s.
    err-told (λ r. r) _ _ c.from_residual.ensures
    ∙ fraction-stops c.args.method c.args.skipped _ place bytes _ _ _ s
    c.in_err-divisor.ensures.answer

pub returns-in_err-decimal : goal.returns-in_err-decimal
returns-in_err-decimal c = λ bytes place s.
    err-told (λ r. r) _ _ c.from_residual-in_err-decimal.ensures
    ∙ fraction-stops_over c.args.method c.args.skipped _ place _ bytes _ _ _ s
    c.in_ok-divisor.ensures.answer c.in_err-decimal.ensures

pub ratio_of-requires : goal.ratio_of-requires
ratio_of-requires c = c.in_ok-divisor.ensures.above

pub returns : goal.returns
returns c = λ bytes place s.
    fraction-goes_on c.args.method c.args.skipped _ place _ bytes _ _ _ _ s
    c.in_ok-divisor.ensures.answer c.in_ok-decimal.ensures
    (c.ratio_of.ensures
    ∙ ap (λ f. ratio_of c.in_ok-divisor.divisor f c.in_ok-decimal.decimal) c.form_over.ensures)
