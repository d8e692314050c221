use Rattle.std.proofs.Common.{rules}
use Rattle.std.specs.Char.{encode_utf8}
use Rattle.std.specs.Str.{chars}
use Rattle.cn_speech.proofs.money.put_yuan.Goals as goal

pub returns-then-not-begins_with : goal.returns-then-not-begins_with
unfolding encode_utf8 chars
returns-then-not-begins_with g c = search rules
