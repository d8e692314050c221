use Rattle.std.proofs.Common.{rules}
use Rattle.std.specs.Char.{encode_utf8}
use Rattle.std.specs.Str.{chars}
use Rattle.cn_speech.proofs.phrases.hours_word.Goals as goal

pub returns-then-is_length : goal.returns-then-is_length
unfolding encode_utf8 chars
returns-then-is_length c = search rules

pub returns-else-is_length : goal.returns-else-is_length
unfolding encode_utf8 chars
returns-else-is_length c = search rules
