use Rattle.std.proofs.Common.{◌≡◌, length, eqb, w8, arith}
use Rattle.std.proofs.lemmas.Simd.{bitmask_splat}
use Rattle.cn_lines.proofs.Strides.{position_of_none, position_of_some}
use Rattle.cn_lines.proofs.lines.position_in_stride.Goals as goal

pub returns-then-found-eq0 : goal.returns-then-found-eq0
returns-then-found-eq0 c =
    let stride = c.args.stride.now in
    let long : length stride ≡ 64 = c.told-stride in
    position_of_none (λ b. eqb b c.args.byte) stride 64 _ long (omega arith)
    (bitmask_splat w8 eqb stride 64 c.args.byte long (omega arith)) c.if-found-eq0.true

pub returns : goal.returns
returns c =
    let stride = c.args.stride.now in
    let long : length stride ≡ 64 = c.told-stride in
    position_of_some (λ b. eqb b c.args.byte) stride 64 _ long (omega arith)
    (bitmask_splat w8 eqb stride 64 c.args.byte long (omega arith)) c.if-found-eq0.false
