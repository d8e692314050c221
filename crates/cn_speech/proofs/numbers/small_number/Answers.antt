use Rattle.std.proofs.Common.{◌≡◌, ℕ, List, ap, arith, chars, ◌∙◌}
use Rattle.cn_codes.specs.Digits.{number_from, number_of}
use Rattle.cn_speech.specs.Numbers.{plain}
use Rattle.cn_speech.specs.Private.{next_value}
use Rattle.cn_speech.proofs.Plain.{number-next, too-large}
use Rattle.cn_speech.proofs.numbers.small_number.Goals as goal

pub returns-then-value-ge-LIMIT-clause-value : goal.returns-then-value-ge-LIMIT-clause-value
returns-then-value-ge-LIMIT-clause-value c =
    let value = next_value c.reading.value c.in-Some.c in
    let same : number_of (plain (chars c.args.figures.now))
    ≡ number_from value (plain (chars c.in-Some.others.now)) =
    c.reading.invariant.same
    ∙ ap (λ (l : List ℕ). number_from c.reading.value (plain l)) c.in-Some.ensures.parts
    ∙ number-next c.reading.value c.in-Some.c (chars c.in-Some.others.now) in
    too-large value (chars c.args.figures.now) (chars c.in-Some.others.now) same
    (omega (arith, c.next_value-value.ensures, c.if-value-ge-LIMIT.true))
