use Rattle.std.proofs.Common.{refl, arith}
use Rattle.cn_quantity_text.proofs.Bytes.{length-three}
use Rattle.cn_quantity_text.proofs.numerals.StyleHand.point.Goals as goal

pub returns-in-Traditional-clause-bytes : goal.returns-in-Traditional-clause-bytes
returns-in-Traditional-clause-bytes c = let three = length-three 0x9EDE refl in omega (arith, three)

pub returns-in-Simple-clause-bytes : goal.returns-in-Simple-clause-bytes
returns-in-Simple-clause-bytes c = let three = length-three 0x70B9 refl in omega (arith, three)
