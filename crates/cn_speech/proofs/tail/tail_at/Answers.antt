use Rattle.std.proofs.Common.{rules}
use Rattle.std.specs.Char.{encode_utf8}
use Rattle.std.specs.Str.{chars}
use Rattle.cn_speech.proofs.tail.tail_at.Goals as goal

pub returns-in-Some : goal.returns-in-Some
unfolding encode_utf8 chars
returns-in-Some c = search rules
