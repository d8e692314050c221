use Rattle.std.proofs.Common.{rules}
use Rattle.std.specs.Char.{encode_utf8}
use Rattle.std.specs.Str.{chars}
use Rattle.cn_speech.proofs.part.sign_word.Goals as goal

pub returns-in-8805 : goal.returns-in-8805
unfolding encode_utf8 chars
returns-in-8805 c = search rules

pub returns-in-8804 : goal.returns-in-8804
unfolding encode_utf8 chars
returns-in-8804 c = search rules

pub returns-in-177 : goal.returns-in-177
unfolding encode_utf8 chars
returns-in-177 c = search rules

pub returns-in-8776 : goal.returns-in-8776
unfolding encode_utf8 chars
returns-in-8776 c = search rules
