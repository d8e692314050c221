use Rattle.std.proofs.Common.{◌/◌, ◌++◌, decimal, subst, arith}
use Rattle.cn_quantity.proofs.Trims.{ten-above, ten-up}
use Rattle.cn_quantity_text.specs.Digits.{behind_point}
use Rattle.cn_quantity_text.specs.Figures.{figure_char}
use Rattle.cn_core.specs.Buffers.{Prepends}
use Rattle.cn_quantity_text.proofs.LastFigures.{behind-bytes}
use Rattle.cn_core.proofs.EndBuffers.{Prepends-both}
use Rattle.cn_quantity_text.proofs.write_figures.put_with_decimals.Goals as goal

pub pow-requires : goal.pow-requires
pow-requires c =
    let up = ten-up c.args.decimals 38 c.requires.decimals in
    omega (arith, up)

pub nonzero_div-number : goal.nonzero_div-number
nonzero_div-number c =
    let some = ten-above c.args.decimals in
    omega (arith, some, c.pow.ensures)

pub returns-clause-put : goal.returns-clause-put
returns-clause-put c =
    let behind = subst (Prepends c.args.text.now c.put_behind_point.new.text)
    (behind-bytes c.args.decimals c.args.number) c.put_behind_point.ensures.put in
    let put = Prepends-both _ _ _ _ _ behind c.put_number.ensures.put in
    subst (λ power. Prepends c.args.text.now c.put_number.new.text
    (decimal (c.args.number / power)
    ++ behind_point 46 figure_char c.args.decimals c.args.number)) c.pow.ensures put
