use Rattle.std.proofs.Common.{◌≡◌, ◌∙◌, ◌/◌, ◌^◌, ◌&&◌, pos, nat_abs, Some, None, ap, sym, subst, rules, arith}
use mir.Syntax.{w128}
use mir.Val.{SFits}
use Rattle.std.proofs.lemmas.Int.{to_z-of_z}
use Rattle.cn_core.specs.Printing.{is_printable}
use Rattle.cn_quantity_text.specs.Numerals.{decimal_text, fraction_text, hundredths, is_written_by}
use Rattle.cn_quantity_text.specs.Working.Putting.{PutsCharacters, PutsIfWritten}
use Rattle.cn_quantity_text.proofs.Pieces.{pieces, roomy, text-known, written-fraction, written-number}
use Rattle.cn_quantity_text.proofs.numerals.put_unsigned.Goals as goal

pub returns-in_ok-put_with_decimals-in-Some :
    goal.returns-in_ok-put_with_decimals-in-Some
returns-in_ok-put_with_decimals-in-Some c =
    let q = c.args.quantity in
    let style = c.args.style in
    let decimals = c.in-Some.decimals in
    let fits : SFits w128 q.numerator = search rules in
    let size : c.unsigned_abs-magnitude.result ≡ nat_abs q.numerator =
    c.unsigned_abs-magnitude.ensures.value ∙ ap nat_abs (to_z-of_z w128 q.numerator fits) in
    let old = c.args.text.now in
    let mid = c.put_with_decimals.new.text in
    let new = c.put_hundredths.new.text in
    let put = c.in_ok-put_with_decimals-in-Some.ensures in
    let known = text-known style.variant style.case style.method q (Some decimals)
    c.in-Some.ensures.value in
    let number = subst (λ n. PutsCharacters old mid
    (decimal_text style.variant style.case style.method decimals n) 348) size put.1 in
    let whole = pieces old mid new (hundredths style.variant style.case q.form)
    (decimal_text style.variant style.case style.method decimals (nat_abs q.numerator)) 348 9
    number c.put_hundredths.ensures in (
      written-number style.method q decimals c.in-Some.ensures.value
          (ap (λ n. is_printable style.method (pos (n / 10 ^ decimals))) (sym size) ∙ put.0),
      subst (λ text. PutsCharacters old new text 468) (sym known)
          (roomy old new _ 357 468 (omega arith) whole),
    )

pub returns-in-None : goal.returns-in-None
returns-in-None c =
    let q = c.args.quantity in
    let style = c.args.style in
    let fits : SFits w128 q.numerator = search rules in
    let size : c.unsigned_abs-magnitude.result ≡ nat_abs q.numerator =
    c.unsigned_abs-magnitude.ensures.value ∙ ap nat_abs (to_z-of_z w128 q.numerator fits) in
    let old = c.args.text.now in
    let new = c.put_fraction.new.text in
    let known = text-known style.variant style.case style.method q None c.in-None.ensures.value in
    let put = subst (λ n. PutsIfWritten
    (is_printable style.method (pos q.denominator) && is_printable style.method (pos n)) old new
    (fraction_text style.variant style.case style.method q.denominator n) 468
    c.put_fraction.result) size c.put_fraction.ensures in
    subst (λ text. PutsIfWritten (is_written_by style.method q) old new text 468
    c.put_fraction.result) (sym known)
    (subst (λ written. PutsIfWritten written old new
    (fraction_text style.variant style.case style.method q.denominator (nat_abs q.numerator)) 468
    c.put_fraction.result) (written-fraction style.method q c.in-None.ensures.value) put)
