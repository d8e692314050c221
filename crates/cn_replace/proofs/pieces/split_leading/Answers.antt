use Rattle.std.proofs.Common.{◌≡◌, [], chars, ap, sym, ◌∙◌, rules}
use Rattle.cn_replace.specs.Pieces.{after_leading, leading}
use Rattle.cn_replace.proofs.Passing.{leading_more, none_leads, passing_before}
use Rattle.cn_replace.proofs.pieces.split_leading.Goals as goal
use Rattle.cn_replace.proofs.pieces.split_leading.Goals.{in-Some+then-not-passes, in_default}

pub passing-preserved : goal.passing-preserved
passing-preserved g c = record {
  passed = leading_more _ _ _ _ _ c.passing.invariant.passed c.in-Some.ensures.parts
      (sym c.passes.ensures ∙ c.if-not-passes.false);
  utf8 = search rules;
}

pub returns-clause-leading : goal.returns-clause-leading
returns-clause-leading g c =
    let test = g.T.CharTest.test c.args.test in
    let none : leading test (chars c.passing.rest.now) ≡ [] =
    elim c.match-split_first_char.branch [
      | in-Some+then-not-passes w ↦ none_leads test _ _ _ w.in-Some.ensures.parts
          (sym w.passes.ensures ∙ w.if-not-passes.true)
      | in_default w ↦ ap (leading test) w.in_default.ensures.parts
    ] in
    passing_before (leading test) (after_leading test) _ _ _ c.passing.invariant.passed none
    c.before_rest.ensures
