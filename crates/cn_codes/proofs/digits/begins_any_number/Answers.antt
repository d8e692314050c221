use Rattle.std.proofs.Common.{chars, rules, ◌∙◌}
use Rattle.std.proofs.lemmas.Iterator.{YieldsList-from_slice}
use Rattle.std.proofs.lemmas.Iterator.Search.{any_from_yields_List}
use Rattle.cn_codes.specs.Digits.{begins_number}
use Rattle.cn_codes.proofs.AnyMapped.{any-mapped}
use Rattle.cn_codes.proofs.digits.begins_any_number.Goals as goal

pub returns : goal.returns
returns c =
    any_from_yields_List (λ each. begins_number (chars each.now) (chars c.args.run.now)) _ _ _
    c.any.ensures.ran (YieldsList-from_slice c.args.numbers.now c.iter.ensures.rest)
    (λ x b q k. search rules)
    ∙ any-mapped (λ each. begins_number each (chars c.args.run.now)) (λ each. chars each.now) c.args.numbers.now
