use Rattle.std.proofs.Common.{arith, rules}
use Rattle.std.proofs.lemmas.Str.{IsUtf8-had}
use Rattle.cn_core.proofs.Buffers.{text-there}
use Rattle.cn_core.proofs.buffer.Buffer.into_text.Goals as goal

pub returns-then-count-bytes : goal.returns-then-count-bytes
returns-then-count-bytes c = λ start text has fits.
    absurd (omega (arith, (text-there c.args.self start text has fits).0, c.if-count-bytes.true))

pub from_utf8_unchecked-requires : goal.from_utf8_unchecked-requires
from_utf8_unchecked-requires c = IsUtf8-had _ (c.args.self.utf8 (omega arith))

pub returns : goal.returns
returns c = λ start text has fits.
    let there = (text-there c.args.self start text has fits).1 in search (rules, there)
