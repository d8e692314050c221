use Rattle.std.proofs.Common.{rules}
use Rattle.std.proofs.lemmas.Str.{encodes-chars}
use Rattle.cn_codes.proofs.with_codes.is_shorter.Goals as goal

pub returns : goal.returns
returns c = rw (encodes-chars c.args.text.now c.utf8.text, encodes-chars c.args.other.now c.utf8.other)
    (search rules)
