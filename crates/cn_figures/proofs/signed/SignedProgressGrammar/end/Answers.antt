use Rattle.std.proofs.Common.{Some, sym, ap, ◌∙◌}
use Rattle.cn_figures.proofs.SignedReads.{under-reached, reached-low}
use Rattle.cn_figures.proofs.signed.SignedProgressGrammar.end.Goals as goal

pub end-requires : goal.end-requires
end-requires c = under-reached c.args.self c.requires

pub signed_fen-requires : goal.signed_fen-requires
signed_fen-requires c =
    reached-low c.args.self.progress c.in-Some.magnitude (under-reached c.args.self c.requires)
    (sym c.end.ensures ∙ c.in_ok-magnitude.was ∙ ap Some c.in-Some.is)
