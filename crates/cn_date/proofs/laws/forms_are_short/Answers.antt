use Rattle.std.proofs.Common.{length, Some, sym, ap, ◌∙◌, arith}
use Rattle.std.proofs.lemmas.List.{length-map}
use Rattle.cn_date.specs.Form.{date_form}
use Rattle.cn_date.specs.Reading.{capital_of}
use Rattle.cn_date.proofs.Written.{length-form}
use Rattle.cn_date.proofs.laws.forms_are_short.Goals as goal

pub returns : goal.returns
returns c = λ text date h. omega (
  arith,
  sym (length-map text capital_of) ∙ ap length h.form
      ∙ length-map (date_form h.choice date) Some,
  length-form h.choice date h.is_date,
)
