use Rattle.std.proofs.Common.{[], ◌∷◌}
use Rattle.cn_phrase.proofs.compact.put_first.Goals as goal

pub put_passed-requires : goal.put_passed-requires
put_passed-requires g c = (c.in-Some.field-0-0 ∷ [], c.in-Some.ensures.parts)
