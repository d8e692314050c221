use Rattle.std.proofs.Common.{◌≡◌, false, ◌&&◌, ap, is_none}
use Rattle.cn_core.specs.Text.{text_of}
use Rattle.cn_quantity.specs.Ratio.{is_negated}
use Rattle.cn_quantity.proofs.Signed.{none-by, not-negated, signed-negated, signed-plain}
use Rattle.cn_quantity.proofs.quantity.chinese_to_quantity.Goals as goal
use Rattle.cn_quantity.proofs.quantity.chinese_to_quantity.Goals.{then-is_none+in_default, else-is_none}

pub returns-in-Some : goal.returns-in-Some
returns-in-Some c =
    signed-negated c.args.method c.args.text.now _ _ _ _ _ _ _ _ c.split_front-after.ensures.sign
    c.split_front-after.ensures.rest (none-by _ _ _ c.is_none.ensures c.if-is_none.true)
    c.in-Some.ensures.negated c.in-Some.ensures.parts
    (c.judge_fraction.ensures _ _ c.in-Some.ensures.parts.parts) c.signed_quantity.ensures

pub returns : goal.returns
returns c =
    let none : (is_none c.split_front-after.result.sign
    && is_negated (text_of c.split_front-after.result.rest.now)) ≡ false =
    elim c.if-is_none.branch [
      | then-is_none+in_default w ↦ not-negated _ _ w.in_default.ensures.negated
      | else-is_none w ↦
          ap (λ b. b && is_negated (text_of c.split_front-after.result.rest.now))
          (none-by _ _ _ c.is_none.ensures w.if-is_none.false)
    ] in
    signed-plain c.args.method c.args.text.now _ _ _ _ _ c.split_front-after.ensures.sign
    c.split_front-after.ensures.rest none c.judge_ratio.ensures c.signed_quantity-2.ensures
