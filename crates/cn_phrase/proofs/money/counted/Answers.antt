use Rattle.cn_phrase.proofs.Tails.{tail-ends}
use Rattle.cn_phrase.proofs.money.counted.Goals as goal

pub passed-requires : goal.passed-requires
passed-requires c = tail-ends _ _ _ c.in_ok-tail.ensures
