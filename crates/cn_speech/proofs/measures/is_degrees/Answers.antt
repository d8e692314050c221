use Rattle.std.proofs.Common.{rules}
use Rattle.std.specs.Char.{encode_utf8}
use Rattle.std.specs.Str.{chars}
use Rattle.cn_speech.proofs.measures.is_degrees.Goals as goal

pub returns-then-begins_word : goal.returns-then-begins_word
unfolding encode_utf8 chars
returns-then-begins_word c = search rules

pub returns-else-begins_word : goal.returns-else-begins_word
unfolding encode_utf8 chars
returns-else-begins_word c = search rules
