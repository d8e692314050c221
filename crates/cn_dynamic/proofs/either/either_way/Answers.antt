use Rattle.std.proofs.Common.{if◌then◌else◌, ◌∙◌, ap, sym}
use Rattle.chinese_number.specs.Number.{is_plain}
use Rattle.cn_dynamic.specs.IntegerTypes.{the_kind}
use Rattle.cn_dynamic.specs.declared.way.Way.TheVariants.{Digits, Units}
use Rattle.chinese_number.specs.declared.ChineseCountMethod.TheVariants.{TenThousand}
use Rattle.cn_dynamic.proofs.PlainTexts.{unsigned_text-rest}
use Rattle.cn_dynamic.proofs.either.either_way.Goals as goal

pub returns-then-is_plain : goal.returns-then-is_plain
returns-then-is_plain c =
    let e = unsigned_text-rest (the_kind c.args.integer) _ c.args.text.now _ _ _
    (sym c.is_signed.ensures) c.split_sign.ensures.sign
    c.split_sign.ensures.rest in
    ap (λ b. if b then Digits else Units TenThousand)
    (sym c.if-is_plain.true ∙ c.is_plain.ensures ∙ ap is_plain (sym e))

pub returns-else-is_plain : goal.returns-else-is_plain
returns-else-is_plain c =
    let e = unsigned_text-rest (the_kind c.args.integer) _ c.args.text.now _ _ _
    (sym c.is_signed.ensures) c.split_sign.ensures.sign
    c.split_sign.ensures.rest in
    ap (λ b. if b then Digits else Units TenThousand)
    (sym c.if-is_plain.false ∙ c.is_plain.ensures ∙ ap is_plain (sym e))
