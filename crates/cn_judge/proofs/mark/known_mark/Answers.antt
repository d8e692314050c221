use Rattle.cn_judge.proofs.MarkTable.{entry-known, entry-unknown}
use Rattle.cn_judge.proofs.mark.known_mark.Goals as goal

pub returns-then-known-key : goal.returns-then-known-key
returns-then-known-key c = entry-known _ _ c.entry-known.ensures c.if-known-key.true

pub returns-else-known-key : goal.returns-else-known-key
returns-else-known-key c =
    entry-unknown _ _ c.entry-known.ensures c.if-known-key.false
