use Rattle.std.proofs.Common.{rules}
use Rattle.std.specs.Char.{encode_utf8}
use Rattle.std.specs.Str.{chars}
use Rattle.cn_speech.proofs.phrases.put_form.Goals as goal

pub returns-in-ColonMinute : goal.returns-in-ColonMinute
unfolding encode_utf8 chars
returns-in-ColonMinute g c = search rules
