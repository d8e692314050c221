use Rattle.std.proofs.Common.{◌<◌, length}
use Rattle.cn_lines.proofs.Strides.{HasNoFeed-before, feed_there}
use Rattle.cn_lines.proofs.lines.line_len.Goals as goal

pub returns-clause-line : goal.returns-clause-line
returns-clause-line c = rw c.far_position.ensures.position (HasNoFeed-before c.args.bytes.now)

pub returns-clause-feed : goal.returns-clause-feed
returns-clause-feed c =
    λ h. let within : c.far_position.result < length c.args.bytes.now =
    h in rw c.far_position.ensures.position (feed_there c.args.bytes.now
    (rw c.far_position.ensures.position at within))
