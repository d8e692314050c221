use Rattle.std.proofs.Common.{◌++◌, rules}
use Rattle.std.proofs.lemmas.Str.{IsCharBoundary-at_seam, IsUtf8-append}
use Rattle.cn_codes.proofs.with_codes.text_from.Goals as goal

pub split_at-requires : goal.split_at-requires
split_at-requires c = IsCharBoundary-at_seam c.args.whole.now c.args.part.before.now
    (c.args.part.text.now ++ c.args.part.after.now) c.requires
    (IsUtf8-append c.args.part.text.now c.args.part.after.now (search rules) (search rules))
