use Rattle.std.proofs.Common.{ap, [], subst, length, ◌≤◌, sym, arith}
use Rattle.cn_grammar.proofs.Puts.{puts-none}
use Rattle.cn_date.proofs.Written.{text-of, few-bytes}
use Rattle.cn_date.proofs.write.date_text.Goals as goal

pub returns-clause-bytes : goal.returns-clause-bytes
returns-clause-bytes c = text-of c.args.variant c.args.date _ _ _ c.requires (omega (arith, ap length c.new-text.ensures.bytes))
    (c.put_date.ensures _ [] (puts-none _ _ _ c.new-text.ensures.empty)) c.into_text.ensures

pub returns-clause-most : goal.returns-clause-most
returns-clause-most c =
    subst (λ bytes. length bytes ≤ 39) (sym (returns-clause-bytes c))
    (few-bytes c.args.variant c.args.date c.requires)
