use Rattle.std.proofs.Common.{◌≡◌, pos, int_lt, true, [], ◌∷◌, if◌then◌else◌, sym, ap, subst, ◌∙◌, arith}
use mir.Syntax.{w128}
use Rattle.std.proofs.lemmas.Int.{to_z-of_z}
use Rattle.std.specs.Char.{encode_utf8}
use Rattle.cn_core.specs.Characters.{minus_char}
use Rattle.cn_spell.proofs.ThreeBytes.{three-minus}
use Rattle.cn_core.specs.Buffers.{Prepends}
use Rattle.cn_quantity_text.specs.Working.Putting.{PutsCharacters}
use Rattle.cn_quantity_text.proofs.Pieces.{puts-bounded}
use Rattle.cn_core.proofs.EndBuffers.{Prepends-none, Prepends-character}
use Rattle.cn_quantity_text.proofs.Bytes.{length-three}
use Rattle.cn_quantity_text.proofs.numerals.put_sign.Goals as goal

pub put_char-requires : goal.put_char-requires
put_char-requires c =
    let three = length-three (minus_char c.args.variant) (three-minus c.args.variant) in
    rw c.minus_char.ensures (omega (arith, three, c.requires))

pub returns-then-numerator-lt0 : goal.returns-then-numerator-lt0
returns-then-numerator-lt0 c =
    let old = c.args.text.now in
    let new = c.put_char.new.self in
    let minus = minus_char c.args.variant in
    let three = length-three minus (three-minus c.args.variant) in
    let below : int_lt c.args.numerator (pos 0) ≡ true =
    ap (λ z. int_lt z (pos 0)) (sym (to_z-of_z w128 c.args.numerator c.ranges.numerator))
    ∙ c.if-numerator-lt0.true in
    let front = subst (λ c. Prepends old new (encode_utf8 c)) c.minus_char.ensures
    c.put_char.ensures in
    subst (λ b. PutsCharacters old new (if b then minus ∷ [] else []) 3) (sym below)
    (puts-bounded old new (minus ∷ []) 3 (Prepends-character old old new minus [] (Prepends-none old) front)
    (omega (arith, three, front.free)))
