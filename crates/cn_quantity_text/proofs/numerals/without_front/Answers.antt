use Rattle.std.proofs.Common.{◌≡◌, ◌&&◌, ◌==◌, chars, true, false, sym, ap, ◌∙◌}
use Rattle.std.proofs.lemmas.Bool.{eq-eqb}
use Rattle.cn_core.proofs.Fronts.{both}
use Rattle.cn_quantity.proofs.NumeralsAreQuantities.{and-none}
use Rattle.cn_quantity_text.specs.Numerals.{stand_alone, without_front}
use Rattle.cn_quantity_text.proofs.SpelledBytes.{front-by, plain-rest}
use Rattle.cn_quantity_text.proofs.numerals.without_front.Goals as goal

pub returns-in-Some-clause-text : goal.returns-in-Some-clause-text
returns-in-Some-clause-text c =
    let front = c.args.front in
    let first = c.in-Some.first in
    let rest = c.in-Some.rest.now in
    let parts = c.in-Some.ensures.parts in
    let plain = plain-rest first (chars rest) (rw parts at c.requires) in
    let alone = ap stand_alone (sym plain) ∙ sym c.stand_alone.ensures ∙ c.if-stand_alone.true in
    sym (ap (without_front front) parts
    ∙ front-by front first (chars rest) true (both _ _ (eq-eqb _ _ c.if-first-front.true) alone))

pub returns-in_default-clause-text : goal.returns-in_default-clause-text
returns-in_default-clause-text c =
    let front = c.args.front in
    let first = c.in-Some.first in
    let rest = c.in-Some.rest.now in
    let parts = c.in-Some.ensures.parts in
    let plain = plain-rest first (chars rest) (rw parts at c.requires) in
    let beside : stand_alone (chars rest) ≡ false =
    ap stand_alone (sym plain) ∙ sym c.stand_alone.ensures ∙ c.if-stand_alone.false in
    parts ∙ sym (ap (without_front front) parts
    ∙ front-by front first (chars rest) false
    (ap (λ b. (first == front) && b) beside ∙ and-none (first == front)))
