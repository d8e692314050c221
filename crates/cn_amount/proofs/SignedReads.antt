-- The states after a minus sign, or without one, read the amounts that may be below zero.
use Rattle.std.proofs.Common.{◌≡◌, ℕ, ◌<◌, ℤ, List, [], ◌∷◌, Some, refl, sym, ap, subst, ◌∙◌, arith}
use Rattle.cn_grammar.specs.Machine.{Reached, Reads}
use Rattle.cn_grammar.specs.Sieve.{kept, after}
use Rattle.cn_grammar.proofs.Sieves.{IsSifted, IsKeptForm, sifted-leads, sifted-reads, reads-same}
use Rattle.cn_grammar.specs.Sign.{is_below}
use Rattle.cn_grammar.specs.declared.sign.Front.TheVariants.{Open}
use Rattle.cn_grammar.proofs.Signs as signs
use Rattle.cn_core.specs.Whole.{signed_number}
use Rattle.cn_amount.specs.declared.progress.Progress.{Progress}
use Rattle.cn_amount.specs.declared.signed.SignedProgress.{SignedProgress}
use Rattle.cn_amount.specs.Fronts.{begins_with, without_front}
use Rattle.cn_amount.specs.Places.{amount_limit}
use Rattle.cn_amount.specs.Reading.{IsAmount}
use Rattle.cn_amount.specs.Signed.{minus_signs, IsSignedAmount}
use Rattle.cn_amount.specs.Working.Signs.{sign_sieve, both, signed_value, signed_machine}
use Rattle.cn_amount.specs.Working.Steps.{end, amount_machine}
use Rattle.cn_amount.proofs.ReadText.{amount_reads}
use Rattle.cn_amount.proofs.Runs.{amount-below}

kept-is : (text : List ℕ) → kept sign_sieve Open text ≡ without_front minus_signs text
kept-is [] = refl
kept-is (c ∷ text) = signs.kept-is minus_signs c text

below-is : (text : List ℕ)
    → is_below (after sign_sieve Open text) ≡ begins_with minus_signs text
below-is [] = refl
below-is (c ∷ text) = signs.below-is minus_signs c text

pub signs-sifted : IsSifted sign_sieve both signed_value amount_machine signed_machine Open
signs-sifted = record {
  begin = refl;
  step = λ front state c. refl;
  end = λ front state. refl;
}

abbrev Kept : List ℕ → ℤ → Type 0
Kept text fen = IsKeptForm sign_sieve Open signed_value IsAmount text fen

from-kept : (text : List ℕ) (fen : ℤ) → Kept text fen → IsSignedAmount text fen
from-kept text fen h = record {
  magnitude = h.under;
  form = subst (λ l. IsAmount l h.under) (kept-is text) h.form;
  value = h.is ∙ ap (λ b. signed_number b h.under) (below-is text);
}

to-kept : (text : List ℕ) (fen : ℤ) → IsSignedAmount text fen → Kept text fen
to-kept text fen h = record {
  under = h.magnitude;
  form = subst (λ l. IsAmount l h.magnitude) (sym (kept-is text)) h.form;
  is = h.value ∙ ap (λ b. signed_number b h.magnitude) (sym (below-is text));
}

pub signed_reads : Reads IsSignedAmount signed_machine
signed_reads = reads-same Kept IsSignedAmount signed_machine from-kept to-kept
    (sifted-reads sign_sieve both signed_value amount_machine signed_machine Open IsAmount
    signs-sifted (signs.can-follow 0x8D1F minus_signs IsAmount refl) amount_reads)

-- the state of the amount can be reached, and its sum is below the limit
pub under-reached : (state : SignedProgress) → Reached signed_machine state
    → Reached amount_machine state.progress
under-reached state reached =
    let under = sifted-leads sign_sieve both signed_value amount_machine signed_machine Open
    signs-sifted reached.0 state reached.1 in (
      kept sign_sieve Open reached.0,
      rw under.2 under.1,
    )

pub reached-below : (progress : Progress) (fen : ℕ) → Reached amount_machine progress
    → end progress ≡ Some fen → fen < amount_limit
reached-below progress fen reached e =
    let amount = amount_reads.only reached.0 progress fen reached.1 e in
    omega (arith, amount.value, amount-below amount.places amount.digits)
