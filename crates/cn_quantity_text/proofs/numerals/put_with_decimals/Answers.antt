use Rattle.std.proofs.Common.{◌/◌, pos, subst, arith}
use Rattle.cn_core.specs.Printing.{is_printable}
use Rattle.cn_quantity.proofs.Trims.{ten-above, ten-up}
use Rattle.cn_quantity_text.specs.Numerals.{magnitude_text}
use Rattle.cn_quantity_text.specs.Working.Putting.{PutsIfWritten}
use Rattle.cn_quantity_text.proofs.Pieces.{pieces-if, puts-bounded}
use Rattle.cn_quantity_text.proofs.numerals.put_with_decimals.Goals as goal

pub pow-requires : goal.pow-requires
pow-requires c =
    let up = ten-up c.args.decimals 38 c.requires.decimals in
    omega (arith, up)

pub nonzero_div-number : goal.nonzero_div-number
nonzero_div-number c =
    let some = ten-above c.args.decimals in
    omega (arith, some, c.pow.ensures)

pub returns : goal.returns
returns c =
    let style = c.args.style in
    let mid = c.put_behind_point.new.text in
    let new = c.put_magnitude.new.text in
    let behind = puts-bounded c.args.text.now mid _ 117 c.put_behind_point.ensures.put
    (omega (arith, c.put_behind_point.ensures.room, c.requires.decimals)) in
    let whole = subst (λ power. PutsIfWritten
    (is_printable style.method (pos (c.args.number / power))) mid new
    (magnitude_text style.variant style.case style.method (c.args.number / power)) 231
    c.put_magnitude.result) c.pow.ensures c.put_magnitude.ensures in
    pieces-if c.args.text.now mid new _ _ 117 231 _ c.put_magnitude.result behind whole
