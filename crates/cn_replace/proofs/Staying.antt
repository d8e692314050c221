-- Expressions that are left unchanged.
use Rattle.std.proofs.Common.{◌≡◌, ℕ, Bool, true, false, List, [], chars, Option, None, if◌then◌else◌, refl, ap}
use Rattle.cn_core.specs.declared.method.ChineseCountMethod.{ChineseCountMethod}
use Rattle.cn_find.specs.declared.wanted.Wanted.{Wanted}
use Rattle.cn_find.specs.Spans.{Span, expressions}
use Rattle.cn_replace.specs.declared.options.Figures.{Figures}
use Rattle.cn_replace.specs.declared.options.Included.{Included}
use Rattle.cn_replace.specs.declared.options.Style.TheVariants.{Kept}
use Rattle.cn_replace.specs.Canonical.{are_figures}
use Rattle.cn_replace.specs.Chains.{in_chains_from}
use Rattle.cn_replace.specs.InFigures.{figures_for, holds_others, in_figures, is_in_figures, may_change, styled_text, written_text}

pub none-found : (method : ChineseCountMethod) (options : Figures) (wanted : Wanted)
    (bytes : List ℕ) → expressions wanted bytes ≡ [] → in_figures method options wanted bytes ≡ bytes
unfolding in_figures
none-found method options wanted bytes none =
    ap (in_chains_from (figures_for method options) (holds_others method options) bytes None false)
    none

-- there is no new text, whichever branch is taken
nothing : (choice : Bool) (text : Option (List ℕ)) → text ≡ None
    → (if choice then None else text) ≡ None
nothing true text none = refl
nothing false text none = none

nothing-else : (choice : Bool) (text : Option (List ℕ)) → text ≡ None
    → (if choice then text else None) ≡ None
nothing-else true text none = none
nothing-else false text none = refl

style-none : (method : ChineseCountMethod) (text : List ℕ) → is_in_figures text ≡ true
    → styled_text method Kept text ≡ None
unfolding styled_text
style-none method text e = rw e refl

written-none : (method : ChineseCountMethod) (included : Included) (compact codes : Bool) (text : List ℕ)
    → is_in_figures text ≡ true
    → written_text method (record { included = included; style = Kept; canonical = false; compact = compact; codes = codes }) text ≡ None
unfolding written_text
written-none method included compact codes text e =
    nothing (are_figures text) (styled_text method Kept text) (style-none method text e)

pub figures-stay : (method : ChineseCountMethod) (included : Included) (compact codes : Bool) (span : Span)
    → is_in_figures (chars span.text) ≡ true
    → figures_for method (record { included = included; style = Kept; canonical = false; compact = compact; codes = codes }) span ≡ None
unfolding figures_for
figures-stay method included compact codes span e =
    nothing-else (may_change method included span)
    (written_text method (record { included = included; style = Kept; canonical = false; compact = compact; codes = codes })
    (chars span.text)) (written-none method included compact codes (chars span.text) e)
