use Rattle.std.proofs.Common.{◌∙◌}
use Rattle.std.proofs.lemmas.Bool.{not-true}
use Rattle.chinese_number.proofs.Refusals.{Reads-not_small, naive_reading-not_small}
use Rattle.chinese_number.proofs.laws.refusals.unsigned_types_never_underflow.Goals as goal

pub returns : goal.returns
returns g c =
    let laws = g.met.T.Whole in
    let kind = g.T.Whole.kind in
    record {
      units = λ method bytes unsigned.
          let none = not-true g.T.Whole.SIGNED unsigned in
          Reads-not_small kind method bytes (laws.signed_is ∙ none) (laws.unsigned_from_zero none);
      digits = λ bytes unsigned.
          let none = not-true g.T.Whole.SIGNED unsigned in
          naive_reading-not_small kind bytes (laws.signed_is ∙ none) (laws.unsigned_from_zero none);
    }
