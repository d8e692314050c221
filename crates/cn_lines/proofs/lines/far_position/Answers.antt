use Rattle.std.proofs.Common.{eqb}
use Rattle.cn_lines.proofs.Strides.{position_found, position_further}
use Rattle.cn_lines.proofs.lines.far_position.Goals as goal

pub returns-then-position-lt-STRIDE-clause-position : goal.returns-then-position-lt-STRIDE-clause-position
returns-then-position-lt-STRIDE-clause-position c =
    let i = c.strides.invariant in
    position_found (λ b. eqb b c.args.byte) c.args.bytes.now c.strides.start 64 _
    c.in-Some.stride.now i.0 c.in-Some.ensures.cases
    c.position_in_stride-position.ensures i.1 c.if-position-lt-STRIDE.true

pub strides-preserved : goal.strides-preserved
strides-preserved c =
    let i = c.strides.invariant in
    position_further (λ b. eqb b c.args.byte) c.args.bytes.now c.strides.start 64 _
    c.in-Some.stride.now i.0 c.in-Some.ensures.cases
    c.position_in_stride-position.ensures i.1 c.if-position-lt-STRIDE.false
