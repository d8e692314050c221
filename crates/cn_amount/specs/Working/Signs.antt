-- Reading an amount after a minus sign, or without one.
use Rattle.std.specs.Prelude.{ℕ, ℤ}
use Rattle.std.specs.Option.{option_map}
use Rattle.cn_grammar.specs.Machine as machine
use Rattle.cn_grammar.specs.Sieve.{Sieve, sifted}
use Rattle.cn_grammar.specs.Sign as sign
use Rattle.cn_grammar.specs.declared.sign.Front.{Front}
use Rattle.cn_grammar.specs.declared.sign.Front.TheVariants.{Open}
use Rattle.cn_core.specs.Whole.{signed_number}
use Rattle.cn_amount.specs.declared.progress.Progress.{Progress}
use Rattle.cn_amount.specs.declared.signed.SignedProgress.{SignedProgress}
use Rattle.cn_amount.specs.Signed.{minus_signs}
use Rattle.cn_amount.specs.Working.Steps.{amount_machine}

-- the sieve that leaves out a minus sign at the start
abbrev pub sign_sieve : Sieve Front
sign_sieve = sign.sign_sieve minus_signs

-- what is before the amount, and the state of reading it
abbrev pub both : Front → Progress → SignedProgress
both front progress = record { front = front; progress = progress }

-- the amount with this magnitude
abbrev pub signed_value : Front → ℕ → ℤ
signed_value front fen = signed_number (sign.is_below front) fen

-- the machine that reads amounts that may be below zero
abbrev pub signed_machine : machine.Machine SignedProgress ℤ
signed_machine = record {
  begin = both Open amount_machine.begin;
  step = λ state c. sifted sign_sieve both amount_machine.step state.front state.progress c;
  end = λ state. option_map (signed_value state.front) (amount_machine.end state.progress);
}
