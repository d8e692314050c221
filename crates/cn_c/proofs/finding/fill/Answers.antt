use Rattle.std.proofs.Common.{◌≡◌, ◌∷◌, [], ◌<◌, map, take, drop, length, length-take-le, refl, sym, ◌∙◌, arith}
use Rattle.std.proofs.lemmas.List.{length-map}
use Rattle.chinese_number.specs.Spans.{span_of}
use Rattle.cn_c.specs.Finds.{span_told}
use Rattle.cn_c.proofs.Filling.{filled, left, within, taken}
use Rattle.cn_c.proofs.finding.fill.Goals as goal

pub filling-preserved : goal.filling-preserved
filling-preserved g c =
    let next : drop c.filling.count c.args.runs ≡ span_of c.in-Some.found ∷ c.next.new.self =
    sym c.filling.invariant.left ∙ c.in-Some.ensures.steps in
    let room : c.filling.count < length c.args.spans.now = omega arith in
    record {
      within = within c.filling.count c.args.runs _ _ next;
      room = omega arith;
      left = sym (left c.filling.count c.args.runs _ _ next);
      told = rw c.span_of_found.ensures (rw c.filling.invariant.told (filled (span_told g.R.SearchRule.doubt) c.filling.count c.args.runs _ _ _ next room));
    }

pub returns-in_default : goal.returns-in_default
returns-in_default g c =
    let none : drop c.filling.count c.args.runs ≡ [] =
    sym c.filling.invariant.left ∙ c.in_default.ensures.steps.0 in
    let all : take (length c.args.spans.now) c.args.runs ≡ take c.filling.count c.args.runs =
    taken c.filling.count _ c.args.runs none c.filling.invariant.room in
    let count : length (map (span_told g.R.SearchRule.doubt) (take c.filling.count c.args.runs)) ≡ c.filling.count =
    length-map _ _ ∙ length-take-le c.filling.count c.args.runs c.filling.invariant.within in
    simp (all, count) (c.filling.invariant.told, refl)
