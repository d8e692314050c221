use Rattle.std.proofs.Common.{subst}
use Rattle.cn_c.specs.Phrases.{TellsRange}
use Rattle.cn_c.proofs.phrases.read_range.Goals as goal

pub returns : goal.returns
returns c = subst (λ range. TellsRange range c.tell_range.result c.tell_range.new.low
    c.tell_range.new.high) c.range_of.ensures c.tell_range.ensures
