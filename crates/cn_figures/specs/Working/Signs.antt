-- Reading figures after a minus, or without one.
use Rattle.std.specs.Prelude.{ℕ, ℤ, List, Option, option_map, codes}
use Rattle.cn_grammar.specs.Machine.{Machine}
use Rattle.cn_grammar.specs.Sieve.{Sieve, sifted}
use Rattle.cn_grammar.specs.Sign as sign
use Rattle.cn_grammar.specs.declared.sign.Front.{Front}
use Rattle.cn_grammar.specs.declared.sign.Front.TheVariants.{Open}
use Rattle.cn_core.specs.Whole.{signed_number}
use Rattle.cn_figures.specs.declared.progress.Progress.{Progress}
use Rattle.cn_figures.specs.declared.signed.SignedProgress.{SignedProgress}
use Rattle.cn_figures.specs.Working.Steps.{figures_machine}

-- the minus signs of figures
abbrev pub minus_signs : List ℕ
minus_signs = codes "-−－"

-- the sieve that leaves out a minus at the start
abbrev pub sign_sieve : Sieve Front
sign_sieve = sign.sign_sieve minus_signs

-- what is before the figures, and the state of reading them
abbrev pub both : Front → Progress → SignedProgress
both front progress = record { front = front; progress = progress }

-- the amount with this magnitude; none if that is not below the limit
abbrev pub signed_value : Front → Option ℕ → Option ℤ
signed_value front fen = option_map (signed_number (sign.is_below front)) fen

-- the machine that reads figures with or without a minus before them
abbrev pub signed_machine : Machine SignedProgress (Option ℤ)
signed_machine = record {
  begin = both Open figures_machine.begin;
  step = λ state c. sifted sign_sieve both figures_machine.step state.front state.progress c;
  end = λ state. option_map (signed_value state.front) (figures_machine.end state.progress);
}
