use Rattle.cn_figures.proofs.SignedReads.{under-reached}
use Rattle.cn_figures.proofs.signed.SignedProgressGrammar.step.Goals as goal

pub step-requires : goal.step-requires
step-requires c = under-reached c.args.self c.requires
