use Rattle.std.specs.Char.{encode_utf8}
use Rattle.cn_speech.proofs.numbers.put_thousandths.Goals as goal

pub returns : goal.returns
unfolding encode_utf8
returns g c = c.put.ensures
