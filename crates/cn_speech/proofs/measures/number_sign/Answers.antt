use Rattle.std.proofs.Common.{rules}
use Rattle.std.specs.Char.{encode_utf8}
use Rattle.std.specs.Str.{chars}
use Rattle.cn_speech.proofs.measures.number_sign.Goals as goal

pub returns-then-begins_with : goal.returns-then-begins_with
unfolding encode_utf8 chars
returns-then-begins_with c = search rules
