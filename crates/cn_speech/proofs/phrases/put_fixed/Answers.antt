use Rattle.std.proofs.Common.{rules}
use Rattle.std.specs.Char.{encode_utf8}
use Rattle.std.specs.Str.{chars}
use Rattle.cn_speech.proofs.phrases.put_fixed.Goals as goal

pub returns-else-begins_with : goal.returns-else-begins_with
unfolding encode_utf8 chars
returns-else-begins_with g c = search rules

pub returns-in-Colon : goal.returns-in-Colon
unfolding encode_utf8 chars
returns-in-Colon g c = search rules
