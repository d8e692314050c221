use Rattle.std.proofs.Common.{sym, ◌∙◌}
use Rattle.cn_amount.proofs.SignedReads.{reached-below}
use Rattle.cn_amount.proofs.TypedReads.{signed-under-reached}
use Rattle.cn_amount.proofs.typed.TypedSignedProgressGrammar.end.Goals as goal

pub end-requires : goal.end-requires
end-requires c = signed-under-reached c.args.self c.requires

pub signed_fen-requires : goal.signed_fen-requires
signed_fen-requires c =
    reached-below c.args.self.typing.progress c.in_ok-magnitude.magnitude
    (signed-under-reached c.args.self c.requires) (sym c.end.ensures ∙ c.in_ok-magnitude.was)
