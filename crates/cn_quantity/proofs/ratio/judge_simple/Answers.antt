use Rattle.std.proofs.Common.{ap, ◌∙◌}
use Rattle.cn_quantity.specs.Ratio.{ratio_of}
use Rattle.cn_quantity.proofs.Ratios.{SplitsFraction-bar, fraction-is, number-goes_on, number-stops, share-goes_on, share-stops}
use Rattle.cn_quantity.proofs.Told.{err-told}
use Rattle.cn_quantity.proofs.ratio.judge_simple.Goals as goal

pub returns-in-Some : goal.returns-in-Some
returns-in-Some c =
    fraction-is c.args.method c.args.skipped _ c.args.text.now _ _ _ c.in-Some.ensures.fraction
    c.in-Some.ensures.parts
    (c.judge_fraction.ensures c.args.text.now _ (SplitsFraction-bar _ _ _ _
    c.in-Some.ensures.fraction c.in-Some.ensures.parts))

pub returns-in_err-decimal : goal.returns-in_err-decimal
returns-in_err-decimal c =
    err-told (λ r. r) _ _ c.from_residual.ensures
    ∙ share-stops c.args.method c.args.skipped _ c.args.text.now _ _
    c.in_default.ensures.fraction c.in-Some-split_share.ensures.share
    c.in-Some-split_share.ensures.front c.in-Some-split_share.ensures.parts
    c.in_err-decimal.ensures

pub returns-in-Some-split_share : goal.returns-in-Some-split_share
returns-in-Some-split_share c =
    share-goes_on c.args.method c.args.skipped _ c.args.text.now _ _ _
    c.in_default.ensures.fraction c.in-Some-split_share.ensures.share
    c.in-Some-split_share.ensures.front c.in-Some-split_share.ensures.parts
    c.in_ok-decimal.ensures
    (c.ratio_of.ensures
    ∙ ap (λ f. ratio_of c.in-Some-split_share.divisor f c.in_ok-decimal.decimal)
    c.form_over.ensures)

pub returns-in_err-decimal-2 : goal.returns-in_err-decimal-2
returns-in_err-decimal-2 c =
    err-told (λ r. r) _ _ c.from_residual-in_err-decimal-2.ensures
    ∙ number-stops c.args.method c.args.skipped c.args.text.now _
    c.in_default.ensures.fraction c.in_default-split_share.ensures.share
    c.in_err-decimal-2.ensures

pub returns : goal.returns
returns c =
    number-goes_on c.args.method c.args.skipped c.args.text.now _ _
    c.in_default.ensures.fraction c.in_default-split_share.ensures.share
    c.in_ok-decimal-2.ensures
    (c.ratio_of-2.ensures ∙ ap (λ f. ratio_of 1 f c.in_ok-decimal-2.decimal) c.form_of.ensures)
