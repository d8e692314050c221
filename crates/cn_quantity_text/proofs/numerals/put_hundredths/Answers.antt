use Rattle.std.proofs.Common.{◌≡◌, ◌∷◌, true, subst, refl, arith}
use denote.Enum.Bare.{sameb}
use Rattle.std.specs.Char.{encode_utf8}
use Rattle.cn_core.specs.declared.case.ChineseCase.{ChineseCase}
use Rattle.cn_core.specs.declared.script.ChineseVariant.{ChineseVariant}
use Rattle.cn_core.specs.declared.unit.Unit.TheVariants.{Bai}
use Rattle.cn_core.specs.Characters.{unit_char}
use Rattle.cn_core.proofs.Characters.{three-unit}
use Rattle.cn_quantity.specs.contracts.quantity.QuantityForm.{the_type}
use Rattle.cn_quantity.specs.declared.quantity.QuantityForm.{QuantityForm}
use Rattle.cn_quantity.specs.declared.quantity.QuantityForm.TheVariants.{Whole, Decimal, Percent, Fraction}
use Rattle.cn_quantity_text.specs.Numerals.{bar, hundredths}
use Rattle.cn_core.specs.Buffers.{Prepends}
use Rattle.cn_quantity_text.specs.Working.Putting.{PutsCharacters}
use Rattle.cn_quantity_text.proofs.Bytes.{length-three}
use Rattle.cn_quantity_text.proofs.Pieces.{bar-put, puts-bounded}
use Rattle.cn_core.proofs.EndBuffers.{Prepends-character}
use Rattle.cn_quantity_text.proofs.numerals.put_hundredths.Goals as goal

of-percent : (variant : ChineseVariant) (case : ChineseCase) (form : QuantityForm)
    → true ≡ sameb the_type form Percent
    → unit_char variant case 2 ∷ bar ≡ hundredths variant case form
of-percent variant case Whole h = cc
of-percent variant case Decimal h = cc
of-percent variant case Percent h = refl
of-percent variant case Fraction h = cc

pub put_char-requires : goal.put_char-requires
put_char-requires c =
    let style = c.args.style in
    let three = length-three (unit_char style.variant style.case 2)
    (three-unit style.variant style.case Bai) in
    rw c.unit_char.ensures (omega (arith, three, c.put.ensures.free, c.requires))

pub returns-then-eq : goal.returns-then-eq
returns-then-eq c =
    let style = c.args.style in
    let old = c.args.text.now in
    let mid = c.put.new.self in
    let new = c.put_char.new.self in
    let one = unit_char style.variant style.case 2 in
    let three = length-three one (three-unit style.variant style.case Bai) in
    let behind = bar-put old mid c.put.ensures in
    let front = subst (λ c. Prepends mid new (encode_utf8 c)) c.unit_char.ensures
    c.put_char.ensures in
    subst (λ text. PutsCharacters old new text 9)
    (of-percent style.variant style.case c.args.form c.if-eq.ensures)
    (puts-bounded old new (one ∷ bar) 9 (Prepends-character old mid new one bar behind.put front)
    (omega (arith, three, behind.put.free, behind.bound, front.free)))
