use Rattle.std.proofs.Common.{true, drop, ap, arith}
use Rattle.cn_core.specs.Characters.{minus_char}
use Rattle.cn_spell.proofs.Rooms.{Shows-if}
use Rattle.cn_spell.proofs.ThreeBytes.{three-minus}
use Rattle.cn_spell.proofs.pen.Room.put_sign.Goals as goal

pub returns-then-negative-clause-shows : goal.returns-then-negative-clause-shows
returns-then-negative-clause-shows g c =
    let put = c.put_if.ensures in
    λ rest h. rw c.if-negative.true (Shows-if true
    (minus_char c.args.self.now.characters.now.variant) (omega (arith, c.requires c.if-negative.true))
    put.free put.text put.length (ap (drop 1) c.minus.ensures) (three-minus c.args.self.now.characters.now.variant) h)
