use Rattle.std.proofs.Common.{arith}
use Rattle.cn_quantity.proofs.Trims.{ten-above, ten-up}
use Rattle.cn_quantity_text.proofs.numerals.greatest_spelled.Goals as goal

pub pow-requires : goal.pow-requires
pow-requires c =
    let up = ten-up c.in-Some.decimals 38 c.in-Some.ensures.most in
    omega (arith, up)

pub nonzero_div-result : goal.nonzero_div-result
nonzero_div-result c =
    let some = ten-above c.in-Some.decimals in
    omega (arith, some, c.pow.ensures)
