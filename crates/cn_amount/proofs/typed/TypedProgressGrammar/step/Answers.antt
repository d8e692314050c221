use Rattle.cn_amount.proofs.TypedReads.{under-reached}
use Rattle.cn_amount.proofs.typed.TypedProgressGrammar.step.Goals as goal

pub step-requires : goal.step-requires
step-requires c = under-reached c.args.self c.requires
