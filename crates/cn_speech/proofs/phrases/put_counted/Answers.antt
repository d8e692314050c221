use Rattle.std.specs.Char.{encode_utf8}
use Rattle.std.specs.Str.{chars}
use Rattle.std.proofs.Common.{rules}
use Rattle.cn_speech.proofs.phrases.put_counted.Goals as goal

pub returns-then-n-eq2 : goal.returns-then-n-eq2
unfolding encode_utf8 chars
returns-then-n-eq2 g c = search rules
