use Rattle.std.proofs.Common.{ap, filter, drop, ◌∙◌}
use Rattle.std.specs.Char.{is_not_whitespace}
use Rattle.cn_judge.proofs.Cutting.{boundary-cut, chars-cut}
use Rattle.cn_judge.proofs.fault.text_from.Goals as goal

pub split_at-requires : goal.split_at-requires
split_at-requires c = rw c.byte_index.ensures (boundary-cut _ c.args.char_index c.utf8.text)

pub returns : goal.returns
returns c =
    ap (filter is_not_whitespace)
    (chars-cut _ _ c.args.char_index c.utf8.text
    (c.split_at.ensures.back ∙ ap (λ n. drop n c.args.text.now) c.byte_index.ensures))
