use Rattle.std.proofs.Common.{rules}
use Rattle.cn_spell.proofs.Ends.{Puts-end}
use Rattle.cn_spell.proofs.print.put_chinese.Goals as goal

pub returns : goal.returns
returns g c =
    let put = c.put_at_end-start in
    let shows = rw (c.new.ensures.variant, c.new.ensures.case) at put.ensures in (
      c.in_ok-test_printable.ensures,
      Puts-end put.result put.new.room _ _ shows (search rules) c.from_utf8_unchecked.ensures,
    )
