use Rattle.cn_amount.proofs.TypedReads.{signed-under-reached}
use Rattle.cn_amount.proofs.typed.TypedSignedProgressGrammar.step.Goals as goal

pub step-requires : goal.step-requires
step-requires c = signed-under-reached c.args.self c.requires
