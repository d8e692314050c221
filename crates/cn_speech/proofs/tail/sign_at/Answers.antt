use Rattle.std.proofs.Common.{rules}
use Rattle.std.specs.Char.{encode_utf8}
use Rattle.std.specs.Str.{chars}
use Rattle.cn_speech.proofs.tail.sign_at.Goals as goal

pub returns-then-is_to : goal.returns-then-is_to
unfolding encode_utf8 chars
returns-then-is_to c = search rules

pub returns-then-is_times : goal.returns-then-is_times
unfolding encode_utf8 chars
returns-then-is_times c = search rules

pub returns-then-is_each : goal.returns-then-is_each
unfolding encode_utf8 chars
returns-then-is_each c = search rules
