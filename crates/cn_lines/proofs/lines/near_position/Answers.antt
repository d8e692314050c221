use Rattle.std.proofs.Common.{eqb, length, unwrap_or, ap, ◌∙◌}
use Rattle.cn_lines.proofs.Strides.{first_or_length}
use Rattle.cn_lines.proofs.lines.near_position.Goals as goal

pub returns-clause-position : goal.returns-clause-position
returns-clause-position c =
    c.unwrap_or.ensures ∙ ap (λ r. unwrap_or r (length c.args.bytes.now)) c.first_position.ensures
    ∙ first_or_length (λ b. eqb b c.args.byte) c.args.bytes.now
