use Rattle.std.proofs.Common.{◌≤◌, ap, arith, length}
use Rattle.std.proofs.lemmas.Bool.Decides.{nat_tests}
use Rattle.cn_core.proofs.Buffers.{first-text}
use Rattle.cn_speech.specs.Meant.{as_meant}
use Rattle.cn_c.proofs.speaking.meant_in.Goals as goal

pub returns-then-buffer-most : goal.returns-then-buffer-most
returns-then-buffer-most c =
    let has = first-text _ _ _ c.new-buffer.ensures.empty c.in-Ok.ensures in
    let same = ap length c.new-buffer.ensures.bytes in
    let fits : length (as_meant c.args.text.now) ≤ length c.args.room.now =
    grind (arith, nat_tests, has.count, c.if-buffer-most.true, c.new-buffer.result.small, same) in (
      grind (arith, nat_tests, fits),
      c.into_text.ensures _ _ has (omega (arith, fits, same)),
    )

pub returns-else-buffer-most : goal.returns-else-buffer-most
returns-else-buffer-most c =
    let has = first-text _ _ _ c.new-buffer.ensures.empty c.in-Ok.ensures in
    grind (arith, nat_tests, has.count, c.if-buffer-most.false)
