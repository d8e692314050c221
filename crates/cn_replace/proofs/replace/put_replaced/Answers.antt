use Rattle.std.proofs.Common.{rules}
use Rattle.std.proofs.lemmas.Result.{on_ok_weaker}
use Rattle.cn_find.specs.Spans.{span_of}
use Rattle.cn_replace.proofs.Replacing.{Put-all, Put-cut, Put-more, Put-none}
use Rattle.cn_replace.proofs.replace.put_replaced.Goals as goal

pub replacing-init : goal.replacing-init
replacing-init g c =
    Put-none g.S.Sink.took g.met.S.Sink.took_both (g.R.Replacement.new c.args.replacement)
    c.args.wanted c.args.text.now c.args.sink.now _ c.utf8.text
    (g.met.S.Sink.took_none c.args.sink.now) c.find_quantities-left.ensures.expressions

pub split_at-requires : goal.split_at-requires
split_at-requires g c =
    Put-cut g.S.Sink.took g.met.S.Sink.took_both c.replacing.invariant c.utf8.text
    (span_of c.in-Some.found) _ c.in-Some.ensures.steps

pub replacing-preserved : goal.replacing-preserved
replacing-preserved g c =
    Put-more g.S.Sink.took g.met.S.Sink.took_both c.replacing.invariant c.utf8.text
    (span_of c.in-Some.found) _ _ _ _ _ c.in-Some.ensures.steps (search rules)
    c.split_at.ensures.back c.in_ok-put.ensures c.in_ok-put_in_place.ensures c.end-from.ensures

pub split_at-requires-2 : goal.split_at-requires-2
split_at-requires-2 g c = c.replacing.invariant.boundary

pub returns : goal.returns
returns g c = on_ok_weaker c.put-2.result
    (Put-all g.S.Sink.took g.met.S.Sink.took_both c.replacing.invariant c.utf8.text _ _
    c.in_default.ensures.steps.0 c.split_at-2.ensures.back) c.put-2.ensures
