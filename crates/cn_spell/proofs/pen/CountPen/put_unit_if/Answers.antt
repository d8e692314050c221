use Rattle.std.proofs.Common.{refl, arith}
use Rattle.cn_core.specs.Characters.{rank, unit_char}
use Rattle.cn_core.specs.Mark.{unit}
use Rattle.cn_spell.proofs.Rooms.{Counts-if, kept-char}
use Rattle.cn_core.proofs.Characters.{three-unit}
use Rattle.cn_spell.proofs.pen.CountPen.put_unit_if.Goals as goal

pub returns-clause-marks : goal.returns-clause-marks
returns-clause-marks c =
    λ marks h variant case. rw (kept-char variant case c.args.is_kept (unit (rank c.args._value)) marks) (Counts-if c.args.is_kept (unit_char variant case (rank c.args._value)) (λ e. rw e refl) (λ e. rw e (omega arith)) (three-unit variant case c.args._value) (h variant case))
