use Rattle.std.proofs.Common.{rules}
use Rattle.std.specs.Char.{encode_utf8}
use Rattle.std.specs.Str.{chars}
use Rattle.cn_speech.proofs.part.currency_name.Goals as goal

pub returns-in-36 : goal.returns-in-36
unfolding encode_utf8 chars
returns-in-36 c = search rules

pub returns-in-8364 : goal.returns-in-8364
unfolding encode_utf8 chars
returns-in-8364 c = search rules

pub returns-in-163 : goal.returns-in-163
unfolding encode_utf8 chars
returns-in-163 c = search rules
