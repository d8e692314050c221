use Rattle.std.proofs.Common.{chars}
use Rattle.cn_speech.proofs.PartLeaves.{Ends-unit, end-of}
use Rattle.cn_speech.proofs.tail.tail_after_unit.Goals as goal

pub before_rest-requires : goal.before_rest-requires
before_rest-requires c = end-of _ _ _ (Ends-unit (chars c.args.text.now)) c.after_unit-rest.ensures
