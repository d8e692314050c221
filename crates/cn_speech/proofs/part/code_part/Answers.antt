use Rattle.std.proofs.Common.{rules}
use Rattle.std.specs.Char.{encode_utf8}
use Rattle.std.specs.Str.{chars}
use Rattle.cn_speech.proofs.part.code_part.Goals as goal

pub returns : goal.returns
unfolding encode_utf8 chars
returns c = search rules
