use Rattle.std.proofs.Common.{refl, arith}
use Rattle.cn_core.specs.Characters.{digit_char}
use Rattle.cn_core.specs.Mark.{digit}
use Rattle.cn_spell.proofs.Rooms.{Counts-if, kept-char}
use Rattle.cn_core.proofs.Characters.{three-digit}
use Rattle.cn_spell.proofs.pen.CountPen.put_digit_if.Goals as goal

pub returns-clause-marks : goal.returns-clause-marks
returns-clause-marks c =
    λ marks h variant case. rw (kept-char variant case c.args.is_kept (digit c.args._value) marks) (Counts-if c.args.is_kept (digit_char variant case c.args._value) (λ e. rw e refl) (λ e. rw e (omega arith)) (three-digit variant case c.args._value c.requires.value) (h variant case))
