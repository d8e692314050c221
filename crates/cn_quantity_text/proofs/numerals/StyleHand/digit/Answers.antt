use Rattle.std.proofs.Common.{arith}
use Rattle.cn_core.specs.Characters.{digit_char}
use Rattle.cn_core.proofs.Characters.{three-digit}
use Rattle.cn_quantity_text.proofs.Bytes.{length-three}
use Rattle.cn_quantity_text.proofs.numerals.StyleHand.digit.Goals as goal

pub returns-clause-bytes : goal.returns-clause-bytes
returns-clause-bytes c =
    let style = c.args.self.now in
    let three = length-three (digit_char style.variant style.case c.args.digit)
    (three-digit style.variant style.case c.args.digit c.requires) in
    rw c.digit_char.ensures (omega (arith, three))
