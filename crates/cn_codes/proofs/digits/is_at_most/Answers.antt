use Rattle.std.proofs.Common.{◌≡◌, ◌+◌, ◌*◌, ap, arith, chars, ◌∙◌}
use Rattle.cn_codes.specs.Digits.{number_from, number_of, value_of}
use Rattle.cn_codes.proofs.Sums.{too-great}
use Rattle.cn_codes.proofs.digits.is_at_most.Goals as goal

pub returns-then-value-from : goal.returns-then-value-from
returns-then-value-from c =
    let value = 10 * c.reading.value + value_of c.in-Some.c in
    let same : number_of (chars c.args.digits.now) ≡ number_from value (chars c.in-Some.others.now) =
    c.reading.invariant.same ∙ ap (number_from c.reading.value) c.in-Some.ensures.parts in
    too-great c.args.most value _ (chars c.in-Some.others.now) same
    (omega (arith, c.value_of.ensures, c.from.ensures, c.from-in-Some.ensures, c.if-value-from.true))
