use Rattle.std.proofs.Common.{◌≡◌, rules, Some, chars}
use Rattle.cn_find.specs.Expressions.{expression_rule}
use Rattle.cn_find.specs.Spans.{in_front, run_after, text_before}
use Rattle.cn_phrase.proofs.ItemsFound.{run-ends}
use Rattle.cn_phrase.proofs.items.expression_at.Goals as goal

pub part_between-requires-clause-rest : goal.part_between-requires-clause-rest
part_between-requires-clause-rest c =
    let e : run_after (expression_rule c.args.wanted)
    (in_front (text_before c.args.whole.now c.args.ahead.now)) (chars c.args.ahead.now)
    ≡ Some (chars c.in-Some.rest.now) = search rules in
    run-ends (expression_rule c.args.wanted) _ _ _ c.utf8.ahead (search rules) e
