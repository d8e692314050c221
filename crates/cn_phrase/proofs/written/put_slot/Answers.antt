use Rattle.std.proofs.Common.{chars, sym, subst}
use Rattle.cn_phrase.specs.Suffix.{EndsWith}
use Rattle.cn_phrase.proofs.Suffixes.{Ends-blank}
use Rattle.cn_phrase.proofs.written.put_slot.Goals as goal

pub put_passed-requires : goal.put_passed-requires
put_passed-requires g c =
    subst (EndsWith (chars c.args.text.now)) (sym c.without_blank-start.ensures)
    (Ends-blank c.args.after_figure (chars c.args.text.now))
