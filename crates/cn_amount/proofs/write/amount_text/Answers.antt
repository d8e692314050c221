use Rattle.std.proofs.Common.{ap, ◌≤◌, [], length, sym, subst, arith}
use Rattle.cn_grammar.proofs.Puts.{puts-none}
use Rattle.cn_amount.proofs.FormsShown.{few-bytes, text-of}
use Rattle.cn_amount.proofs.write.amount_text.Goals as goal

pub returns-clause-bytes : goal.returns-clause-bytes
returns-clause-bytes c = text-of c.args.variant c.args.form c.args.fen _ _ _ (omega (arith, ap length c.new-text.ensures.bytes))
    (rw c.of.ensures.places at c.put_amount.ensures _ [] (puts-none _ _ _ c.new-text.ensures.empty))
    c.into_text.ensures

pub returns-clause-most : goal.returns-clause-most
returns-clause-most c =
    subst (λ bytes. length bytes ≤ 117) (sym (returns-clause-bytes c))
    (few-bytes c.args.variant c.args.form c.args.fen)
