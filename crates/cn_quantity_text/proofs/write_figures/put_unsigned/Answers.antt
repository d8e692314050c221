use Rattle.std.proofs.Common.{◌≡◌, ◌++◌, nat_abs, sym, ap, subst, ◌∙◌, rules}
use mir.Syntax.{w128}
use mir.Val.{SFits}
use Rattle.std.proofs.lemmas.Int.{to_z-of_z}
use Rattle.cn_quantity_text.specs.Figures.{figures_with, percent_sign}
use Rattle.cn_core.specs.Buffers.{Prepends}
use Rattle.cn_quantity_text.proofs.KnownFigures.{figures-known}
use Rattle.cn_core.proofs.EndBuffers.{Prepends-both}
use Rattle.cn_quantity_text.proofs.write_figures.put_unsigned.Goals as goal

pub returns-in-Some-clause-put : goal.returns-in-Some-clause-put
returns-in-Some-clause-put c =
    let q = c.args.quantity in
    let fits : SFits w128 q.numerator = search rules in
    let size : c.unsigned_abs-magnitude.result ≡ nat_abs q.numerator =
    c.unsigned_abs-magnitude.ensures.value ∙ ap nat_abs (to_z-of_z w128 q.numerator fits) in
    let put = Prepends-both _ _ _ _ _ c.put_percent_sign.ensures.put c.put_with_decimals.ensures.put in
    subst (Prepends c.args.text.now c.put_with_decimals.new.text)
    (ap (λ n. figures_with c.in-Some.decimals n ++ percent_sign q.form) size
    ∙ sym (figures-known q c.in-Some.decimals c.in-Some.ensures.value)) put
