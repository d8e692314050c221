use Rattle.std.proofs.Common.{subst, rules}
use mir.Syntax.{w128}
use mir.Val.{SFits}
use Rattle.std.proofs.lemmas.Int.{to_z-of_z}
use Rattle.cn_quantity_text.specs.Numerals.{sign_text, unsigned_text}
use Rattle.cn_quantity_text.specs.Working.Putting.{PutsCharacters}
use Rattle.cn_quantity_text.proofs.Pieces.{pieces}
use Rattle.cn_quantity_text.proofs.numerals.put_signed.Goals as goal

pub returns : goal.returns
returns c =
    let q = c.args.quantity in
    let style = c.args.style in
    let unsigned = c.in_ok-put_unsigned.ensures in
    let fits : SFits w128 q.numerator = search rules in
    let sign = subst (λ z. PutsCharacters c.put_unsigned.new.text c.put_sign.new.text
    (sign_text style.variant z) 3) (to_z-of_z w128 q.numerator fits) c.put_sign.ensures in (
      unsigned.0,
      pieces c.args.text.now c.put_unsigned.new.text c.put_sign.new.text (sign_text style.variant q.numerator)
          (unsigned_text style.variant style.case style.method q) 468 3 unsigned.1 sign,
    )
