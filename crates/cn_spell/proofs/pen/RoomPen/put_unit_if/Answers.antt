use Rattle.std.proofs.Common.{drop, ap, arith}
use Rattle.cn_core.specs.Characters.{rank, unit_char}
use Rattle.cn_core.specs.Mark.{unit}
use Rattle.cn_spell.proofs.Rooms.{Shows-if, kept-char}
use Rattle.cn_core.proofs.Characters.{three-unit}
use Rattle.cn_spell.proofs.pen.RoomPen.put_unit_if.Goals as goal

pub returns-clause-marks : goal.returns-clause-marks
returns-clause-marks g c =
    let characters = c.args.self.now.characters.now in
    let put = c.put_if.ensures in
    λ marks h. rw (put.characters, kept-char characters.variant characters.case c.args.is_kept (unit (rank c.args.value)) marks)
    (Shows-if c.args.is_kept (unit_char characters.variant characters.case (rank c.args.value)) (omega (arith, c.requires.room)) put.free put.text put.length (ap (drop 1) c.unit.ensures) (three-unit characters.variant characters.case c.args.value) h)
