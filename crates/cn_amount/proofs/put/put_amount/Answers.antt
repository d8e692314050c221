use Rattle.std.proofs.Common.{true}
use Rattle.cn_amount.specs.declared.before.Before.TheVariants.{Nothing}
use Rattle.cn_amount.specs.Form.{wan_text, after_wan, from_yi, from_top, written}
use Rattle.cn_grammar.proofs.Puts.{puts-two}
use Rattle.cn_amount.specs.Writes.{char_by}
use Rattle.cn_amount.proofs.put.put_amount.Goals as goal

pub returns : goal.returns
returns c =
    let p = c.args.places in
    puts-two char_by c.args.hand _ _ _ _ (from_top written p) c.put_currency.ensures
    (puts-two char_by c.args.hand _ _ _ (wan_text Nothing p.wan_yi)
    (from_yi written (after_wan true Nothing p.wan_yi) p)
    c.put_wan.ensures
    (rw c.after_wan.ensures at c.put_from_yi.ensures))
