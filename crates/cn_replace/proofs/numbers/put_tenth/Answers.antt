use Rattle.std.proofs.Common.{◌∷◌, refl, sym, ap, ◌∙◌}
use Rattle.std.proofs.lemmas.Str.{chars-nil}
use Rattle.cn_replace.proofs.numbers.put_tenth.Goals as goal

pub put_figure_or_same-requires : goal.put_figure_or_same-requires
put_figure_or_same-requires g c = c.requires ∙ ap (λ l. c.args.c ∷ l) (sym chars-nil)

pub returns : goal.returns
returns g c = (
  refl,
  g.met.S.Sink.took_both _ _ _ _ _ (g.met.S.Sink.took_both _ _ _ _ _ c.in_ok-put.ensures
      c.in_ok-put_figure_or_same.ensures) c.in_ok-put_same.ensures,
)
