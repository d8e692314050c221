use Rattle.std.proofs.Common.{◌∷◌, sym, ap, ◌∙◌}
use Rattle.cn_replace.specs.KeptNumbers.{is_tenth}
use Rattle.cn_replace.proofs.numbers.split_tenth.Goals as goal

pub returns-then-not-has_tenths : goal.returns-then-not-has_tenths
returns-then-not-has_tenths c =
    ap is_tenth (c.in_ok-c.ensures.0 ∙ ap (λ l. c.in_ok-c.c ∷ l) c.in_ok-u.ensures.0)
    ∙ sym c.has_tenths.ensures ∙ c.if-not-has_tenths.true

pub returns : goal.returns
returns c =
    let e = c.in_ok-c.ensures.0 ∙ ap (λ l. c.in_ok-c.c ∷ l) c.in_ok-u.ensures.0 in (
      ap is_tenth e ∙ sym c.has_tenths.ensures ∙ c.if-not-has_tenths.false,
      (c.in_ok-u.u, e, c.in_ok-u.ensures.1),
    )
