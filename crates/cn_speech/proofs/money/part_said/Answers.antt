use Rattle.std.proofs.Common.{arith}
use Rattle.cn_speech.proofs.Values.{value_of-low}
use Rattle.cn_speech.proofs.money.part_said.Goals as goal

pub digit_char-requires : goal.digit_char-requires
digit_char-requires c = omega (arith, value_of-low c.args.c, c.value_of.ensures)
