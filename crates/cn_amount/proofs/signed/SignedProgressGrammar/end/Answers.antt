use Rattle.std.proofs.Common.{sym, ◌∙◌}
use Rattle.cn_amount.proofs.SignedReads.{under-reached, reached-below}
use Rattle.cn_amount.proofs.signed.SignedProgressGrammar.end.Goals as goal

pub end-requires : goal.end-requires
end-requires c = under-reached c.args.self c.requires

pub signed_fen-requires : goal.signed_fen-requires
signed_fen-requires c =
    reached-below c.args.self.progress c.in_ok-magnitude.magnitude
    (under-reached c.args.self c.requires) (sym c.end.ensures ∙ c.in_ok-magnitude.was)
