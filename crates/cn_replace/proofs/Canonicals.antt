-- One more character of a text of figures alone.
use Rattle.std.proofs.Common.{◌≡◌, ℕ, Bool, not, ◌&&◌, ◌||◌, List, ◌∷◌, ◌++◌, sym, ap, ◌∙◌}
use Rattle.cn_replace.specs.Canonical.{ascii_unless, canonical_from, is_leading_zero}
use Rattle.cn_core.specs.FigureCharacters.{is_figure}

pub canonical_more : (has_figure leads result : Bool) (text others piece : List ℕ) (c : ℕ)
    → text ≡ c ∷ others → leads ≡ is_leading_zero has_figure c others
    → piece ≡ ascii_unless leads c → result ≡ (not leads && (has_figure || is_figure c))
    → canonical_from has_figure text ≡ piece ++ canonical_from result others
canonical_more has_figure leads result text others piece c e l p r =
    ap (canonical_from has_figure) e
    ∙ ap (λ (b : Bool). ascii_unless b c
    ++ canonical_from (not b && (has_figure || is_figure c)) others) (sym l)
    ∙ ap (λ t. t ++ canonical_from (not leads && (has_figure || is_figure c)) others) (sym p)
    ∙ ap (λ (b : Bool). piece ++ canonical_from b others) (sym r)
