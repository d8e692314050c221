use Rattle.std.specs.Char.{encode_utf8}
use Rattle.cn_speech.proofs.pairs.put_measure.Goals as goal

pub returns : goal.returns
unfolding encode_utf8
returns g c = c.put.ensures
