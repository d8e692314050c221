use Rattle.std.specs.Char.{encode_utf8}
use Rattle.std.specs.Str.{chars}
use Rattle.cn_speech.proofs.expressions.put_below_zero.Goals as goal

pub returns : goal.returns
unfolding encode_utf8 chars
returns g c = c.put_word.ensures
