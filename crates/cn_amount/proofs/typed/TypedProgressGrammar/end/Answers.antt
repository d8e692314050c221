use Rattle.cn_amount.proofs.TypedReads.{under-reached}
use Rattle.cn_amount.proofs.typed.TypedProgressGrammar.end.Goals as goal

pub end-requires : goal.end-requires
end-requires c = under-reached c.args.self c.requires
