use Rattle.std.proofs.Common.{ℕ, ◌+◌, ◌≤◌, Bool, true, false, List, [], ◌∷◌, length, if◌then◌else◌, Some, sym, ap, ◌∙◌, arith}
use Rattle.std.specs.Char.{char_set_contains}
use Rattle.std.proofs.lemmas.List.{length-map}
use Rattle.cn_amount.specs.Form.{amount_form}
use Rattle.cn_amount.specs.Fronts.{without_front}
use Rattle.cn_amount.specs.Reading.{capital_of}
use Rattle.cn_amount.specs.Signed.{minus_signs}
use Rattle.cn_amount.proofs.Lengths.{length-form}
use Rattle.cn_amount.proofs.laws.signed.forms_are_short.Goals as goal

front-short : (set text : List ℕ) → length text ≤ 1 + length (without_front set text)
front-short set [] = omega arith
front-short set (c ∷ text) = by (char_set_contains set c) where
  by : (b : Bool) → length (c ∷ text) ≤ 1 + length (if b then text else c ∷ text)
  by true = omega arith
  by false = omega arith

pub returns : goal.returns
returns c = λ text fen h. omega (
  arith,
  front-short minus_signs text,
  sym (length-map (without_front minus_signs text) capital_of) ∙ ap length h.form.form
      ∙ length-map (amount_form h.form.choices h.form.places) Some,
  length-form h.form.choices h.form.places,
)
