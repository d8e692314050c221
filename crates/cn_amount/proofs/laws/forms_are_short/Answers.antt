use Rattle.std.proofs.Common.{length, Some, sym, ap, ◌∙◌, arith}
use Rattle.std.proofs.lemmas.List.{length-map}
use Rattle.cn_amount.specs.Form.{amount_form}
use Rattle.cn_amount.specs.Reading.{capital_of}
use Rattle.cn_amount.proofs.Lengths.{length-form}
use Rattle.cn_amount.proofs.laws.forms_are_short.Goals as goal

pub returns : goal.returns
returns c = λ text fen h. omega (
  arith,
  sym (length-map text capital_of) ∙ ap length h.form
      ∙ length-map (amount_form h.choices h.places) Some,
  length-form h.choices h.places,
)
