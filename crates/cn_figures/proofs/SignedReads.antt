-- Figures with or without a minus before them.
use Rattle.std.proofs.Common.{◌≡◌, ℕ, ℤ, ◌<◌, nat_lt, Bool, true, false, ◌==◌, List, [], ◌∷◌, map, Option, Some, None, refl, sym, ap, subst, ◌∙◌, option_map, if◌then◌else◌, arith}
use Rattle.std.proofs.lemmas.Bool.Decides.{nat_tests}
use Rattle.cn_amount.specs.Places.{amount_limit}
use Rattle.cn_grammar.specs.Machine.{Reached, Reads}
use Rattle.cn_grammar.specs.Sieve.{kept}
use Rattle.cn_grammar.specs.declared.sign.Front.TheVariants.{Open}
use Rattle.cn_grammar.proofs.Sieves.{IsSifted, IsKeptForm, sifted-leads, sifted-reads, reads-same}
use Rattle.cn_grammar.proofs.Signs.{kept-is, below-is, can-follow}
use Rattle.cn_core.specs.FigureCharacters.{figure_of, is_figure_minus}
use Rattle.cn_core.specs.Whole.{signed_number}
use Rattle.cn_figures.specs.declared.part.Part.{Part}
use Rattle.cn_figures.specs.declared.progress.Progress.{Progress}
use Rattle.cn_figures.specs.declared.signed.SignedProgress.{SignedProgress}
use Rattle.cn_figures.specs.Figures.{IsSignedFigures, below, WriteAmount, WriteSignedAmount}
use Rattle.cn_figures.specs.Parts.{part_of, parts_of}
use Rattle.cn_figures.specs.Working.Signs.{minus_signs, sign_sieve, both, signed_value, signed_machine}
use Rattle.cn_figures.specs.Working.Steps.{figures_machine}
use Rattle.cn_figures.proofs.FiguresRead.{figures_read}

-- no figures begin with a minus
no-part : (c : ℕ) → is_figure_minus c ≡ true → part_of c ≡ None
unfolding part_of figure_of
no-part c minus = by (c == 45) (c == 8722) refl refl where
  by : (a b : Bool) → (c == 45) ≡ a → (c == 8722) ≡ b → part_of c ≡ None
  by true b is none = let same : c ≡ 45 = grind (arith, nat_tests, is) in
      subst (λ c. part_of c ≡ None) (sym same) refl
  by false true is one = let same : c ≡ 8722 = grind (arith, nat_tests, one) in
      subst (λ c. part_of c ≡ None) (sym same) refl
  by false false is none = let same : c ≡ 65293 = grind (arith, nat_tests, is, none, minus) in
      subst (λ c. part_of c ≡ None) (sym same) refl

no-figures : (c : ℕ) (text : List ℕ) (amount : Option ℕ) → is_figure_minus c ≡ true
    → ¬ WriteAmount (c ∷ text) amount
no-figures c text amount minus (fen, (parts, is, are), worth) = by parts is where
  by : (parts : List Part) → parts_of (c ∷ text) ≡ map Some parts → ⊥
  by [] is = absurd (cc)
  by (part ∷ parts) is =
      let none = no-part c minus in
      let some : part_of c ≡ Some part = cc in absurd (cc)

pub signs-sifted : IsSifted sign_sieve both signed_value figures_machine signed_machine Open
signs-sifted = record {
  begin = refl;
  step = λ front state c. refl;
  end = λ front state. refl;
}

abbrev Kept : List ℕ → Option ℤ → Type 0
Kept text amount = IsKeptForm sign_sieve Open signed_value WriteAmount text amount

-- figures without a minus, and figures after one
from-kept : (text : List ℕ) (amount : Option ℤ) → Kept text amount → WriteSignedAmount text amount
from-kept [] amount h =
    let form = h.form in
    (false, form.0, form.1, h.is ∙ ap (option_map (signed_number false)) form.2)
from-kept (c ∷ text) amount h = by (is_figure_minus c) refl
    (subst (λ l. WriteAmount l h.under) (kept-is minus_signs c text) h.form)
    (h.is ∙ ap (λ b. option_map (signed_number b) h.under) (below-is minus_signs c text)) where
      by : (b : Bool) → is_figure_minus c ≡ b → WriteAmount (if b then text else c ∷ text) h.under
          → amount ≡ option_map (signed_number b) h.under → WriteSignedAmount (c ∷ text) amount
      by true minus (fen, is, worth) e =
          (true, fen, (minus, is), e ∙ ap (option_map (signed_number true)) worth)
      by false bare (fen, is, worth) e =
          (false, fen, is, e ∙ ap (option_map (signed_number false)) worth)

to-kept : (text : List ℕ) (amount : Option ℤ) → WriteSignedAmount text amount → Kept text amount
to-kept [] amount (false, fen, is, worth) =
    record { under = below fen; form = (fen, is, refl); is = worth }
to-kept [] amount (true, fen, is, worth) = absurd is
to-kept (c ∷ text) amount (negative, fen, is, worth) =
    by (is_figure_minus c) refl negative is worth where
      made : (b : Bool) → is_figure_minus c ≡ b
          → WriteAmount (if b then text else c ∷ text) (below fen)
          → amount ≡ option_map (signed_number b) (below fen) → Kept (c ∷ text) amount
      made b minus form worth = record {
        under = below fen;
        form = subst (λ l. WriteAmount l (below fen))
            (sym (kept-is minus_signs c text
            ∙ ap (λ (b : Bool). if b then text else c ∷ text) minus)) form;
        is = worth ∙ ap (λ b. option_map (signed_number b) (below fen))
            (sym (below-is minus_signs c text ∙ minus));
      }

      by : (b : Bool) → is_figure_minus c ≡ b → (negative : Bool)
          → IsSignedFigures negative (c ∷ text) fen
          → amount ≡ option_map (signed_number negative) (below fen) → Kept (c ∷ text) amount
      by true minus true (_, is) worth = made true minus (fen, is, refl) worth
      by false bare true (minus, is) worth = absurd (cc)
      by true minus false is worth =
          absurd (no-figures c text (below fen) minus (fen, is, refl))
      by false bare false is worth = made false bare (fen, is, refl) worth

pub signed_read : Reads WriteSignedAmount signed_machine
signed_read = reads-same Kept WriteSignedAmount signed_machine from-kept to-kept
    (sifted-reads sign_sieve both signed_value figures_machine signed_machine Open WriteAmount
    signs-sifted (can-follow 45 minus_signs WriteAmount refl) figures_read)

-- the state of the figures can be reached, and their amount is below the limit
pub under-reached : (state : SignedProgress) → Reached signed_machine state
    → Reached figures_machine state.progress
under-reached state reached =
    let under = sifted-leads sign_sieve both signed_value figures_machine signed_machine Open
    signs-sifted reached.0 state reached.1 in (
      kept sign_sieve Open reached.0,
      rw under.2 under.1,
    )

-- an amount that is read is below the limit
amount-low : (text : List ℕ) (fen : ℕ) → WriteAmount text (Some fen) → fen < amount_limit
amount-low text fen (number, is, worth) = by (nat_lt number amount_limit) refl worth where
  by : (b : Bool) → nat_lt number amount_limit ≡ b
      → Some fen ≡ (if b then Some number else None) → fen < amount_limit
  by true less e = let same : fen ≡ number = cc in grind (arith, nat_tests, less, same)
  by false less e = absurd (cc)

pub reached-low : (progress : Progress) (fen : ℕ) → Reached figures_machine progress
    → figures_machine.end progress ≡ Some (Some fen) → fen < amount_limit
reached-low progress fen reached e =
    amount-low reached.0 fen (figures_read.only reached.0 progress (Some fen) reached.1 e)
