use Rattle.std.proofs.Common.{rules}
use Rattle.cn_replace.proofs.Ends.{last_boundary, last_chars, last_nearest}
use Rattle.cn_replace.proofs.pieces.split_last.Goals as goal

pub split_at-requires : goal.split_at-requires
split_at-requires c =
    last_boundary c.args.text.now c.in_ok-c.head.now c.in_ok-c.c c.utf8.text (search rules)
    c.in_ok-c.ensures.parts

pub returns : goal.returns
returns c = (
  last_nearest _ _ _ c.in_ok-c.ensures.parts,
  last_chars c.args.text.now c.in_ok-c.head.now c.split_at.result.1.now c.in_ok-c.c c.utf8.text
      (search rules) c.in_ok-c.ensures.parts c.split_at.ensures.back,
)
