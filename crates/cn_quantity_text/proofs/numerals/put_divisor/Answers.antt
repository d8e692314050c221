use Rattle.std.proofs.Common.{arith}
use Rattle.cn_quantity_text.proofs.SpelledBytes.{divisor-bytes, puts-spelled}
use Rattle.cn_quantity_text.proofs.numerals.put_divisor.Goals as goal

pub returns : goal.returns
returns c =
    let style = c.args.style in
    let is = c.in_ok-spelled.ensures in
    let content = divisor-bytes style.variant style.case style.method c.args.divisor _ _ _ is
    c.digit.ensures.character c.without_front.utf8 c.without_front.ensures.text in (
      is.printable,
      puts-spelled c.args.text.now c.put.new.self _ _ 231 c.put.ensures content
          (omega (arith, is.bound, c.without_front.ensures.bound)),
    )
