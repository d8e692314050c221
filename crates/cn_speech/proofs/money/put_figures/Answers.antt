use Rattle.std.proofs.Common.{rules}
use Rattle.std.specs.Char.{encode_utf8}
use Rattle.std.specs.Str.{chars}
use Rattle.cn_speech.proofs.money.put_figures.Goals as goal

pub returns-then-not-is_small : goal.returns-then-not-is_small
unfolding encode_utf8 chars
returns-then-not-is_small g c = search rules
