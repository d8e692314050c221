use Rattle.std.proofs.Common.{sym}
use Rattle.std.proofs.lemmas.Str.{encodes-chars}
use Rattle.cn_phrase.proofs.range.shared_units.Goals as goal

pub returns-then-counts_for_both : goal.returns-then-counts_for_both
returns-then-counts_for_both c = rw (sym c.if-counts_for_both.ensures, sym c.units_of.ensures.units)
    (sym (encodes-chars _ c.units_of.utf8))
