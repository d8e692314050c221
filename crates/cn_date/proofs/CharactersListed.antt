-- The list of characters has each character that a date has.
use Rattle.std.proofs.Common.{◌≡◌, ℕ, false, None, refl, arith}
use Rattle.std.specs.Char.{char_set_contains}
use Rattle.cn_grammar.specs.Expected.{IsListed}
use Rattle.cn_grammar.proofs.Lists.{classes-listed}
use Rattle.cn_grammar.proofs.LookUp.{none-with}
use Rattle.cn_date.specs.declared.listed.TheConstants.{CHARACTERS}
use Rattle.cn_date.specs.Reading.{capital_of, capital_rows}
use Rattle.cn_date.specs.Working.Steps.{step, date_machine}

others : (c : ℕ) → char_set_contains CHARACTERS c ≡ false → capital_of c ≡ None
unfolding capital_of
others c h = none-with (char_set_contains CHARACTERS) c capital_rows refl h

pub dates_listed : IsListed CHARACTERS false date_machine
dates_listed =
    classes-listed date_machine step capital_of CHARACTERS (λ state c. refl) (omega arith) others
