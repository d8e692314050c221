use Rattle.std.proofs.Common.{rules, subst}
use Rattle.cn_core.specs.Naive.{decimal_digits}
use Rattle.cn_spell.specs.Working.Room.{Shows}
use Rattle.cn_spell.proofs.Ends.{Puts-end}
use Rattle.cn_spell.proofs.Signs.{signed-is}
use Rattle.cn_spell.proofs.naive.put_chinese_naive.Goals as goal

pub returns : goal.returns
returns g c =
    let characters = c.new-characters.result in
    let shows = subst (λ text. Shows c.put_plain-start.result c.put_plain-start.new.room text)
    (signed-is decimal_digits c.args.variant characters.variant c.args.case characters.case
    c.is_negative.result c.magnitude.result (g.T.Whole.number c.args.value)
    c.new-characters.ensures.variant c.new-characters.ensures.case
    c.is_negative.ensures c.magnitude.ensures.value) c.put_plain-start.ensures in
    Puts-end c.put_plain-start.result c.put_plain-start.new.room _ _ shows (search rules)
    c.from_utf8_unchecked.ensures
