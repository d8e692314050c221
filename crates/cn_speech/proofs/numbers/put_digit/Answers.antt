use Rattle.std.proofs.Common.{arith}
use Rattle.cn_speech.proofs.Values.{value_of-low}
use Rattle.cn_speech.proofs.numbers.put_digit.Goals as goal

pub digit_char-requires : goal.digit_char-requires
digit_char-requires g c = omega (arith, value_of-low c.args.c, c.value_of.ensures)
