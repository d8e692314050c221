use Rattle.cn_quantity_text.proofs.SpelledBytes.{puts-spelled}
use Rattle.cn_quantity_text.proofs.numerals.put_magnitude.Goals as goal

pub returns : goal.returns
returns c =
    let is = c.in_ok-spell.ensures in (
      is.printable,
      puts-spelled c.args.text.now c.put.new.self _ _ 231 c.put.ensures is.content is.bound,
    )
