use Rattle.std.proofs.Common.{drop, ap, arith}
use Rattle.cn_core.specs.Characters.{digit_char}
use Rattle.cn_core.specs.Mark.{digit}
use Rattle.cn_spell.proofs.Rooms.{Shows-if, kept-char}
use Rattle.cn_core.proofs.Characters.{three-digit}
use Rattle.cn_spell.proofs.pen.RoomPen.put_digit_if.Goals as goal

pub returns-clause-marks : goal.returns-clause-marks
returns-clause-marks g c =
    let characters = c.args.self.now.characters.now in
    let put = c.put_if.ensures in
    λ marks h. rw (put.characters, kept-char characters.variant characters.case c.args.is_kept (digit c.args.value) marks)
    (Shows-if c.args.is_kept (digit_char characters.variant characters.case c.args.value) (omega (arith, c.requires.room)) put.free put.text put.length (ap (drop 1) c.digit.ensures) (three-digit characters.variant characters.case c.args.value c.requires.value) h)
