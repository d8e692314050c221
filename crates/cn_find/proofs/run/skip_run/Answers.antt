use Rattle.std.proofs.Common.{inl, inr, rules, sym}
use Rattle.cn_find.proofs.Runs.{front-utf8, Gathered-first, Gathered-more, EndsRun-at, EndsRun-none}
use Rattle.cn_find.proofs.run.skip_run.Goals as goal
use Rattle.cn_find.proofs.run.skip_run.Goals.{then-not-belongs-via-then-not-belongs, then-not-belongs-via-else-not-belongs+then-is_parted}

pub gathering-init : goal.gathering-init
gathering-init g c = record {
  run = Gathered-first _ _ _ _ _ _ (sym c.requires.end)
      (front-utf8 _ _ c.requires.end c.utf8.whole c.utf8.ahead) c.utf8.ahead (search rules)
      c.requires.parts c.requires.begins;
  utf8 = search rules;
}

pub gathering-preserved : goal.gathering-preserved
gathering-preserved g c = record {
  run = Gathered-more _ _ _ _ _ _ _ _ c.gathering.invariant.run (search rules)
      c.gathering.invariant.utf8 (search rules) c.in-Some.ensures.parts.0
      (search rules) (search rules);
  utf8 = search rules;
}

pub returns-then-not-belongs : goal.returns-then-not-belongs
returns-then-not-belongs g c = elim c.then-not-belongs.branch [
  | then-not-belongs-via-then-not-belongs w ↦ EndsRun-at _ _ _ _ _ _ _ _
      c.gathering.invariant.run c.in-Some.ensures.parts.0 (inl (search rules))
      c.utf8.ahead c.gathering.invariant.utf8
  | then-not-belongs-via-else-not-belongs+then-is_parted w ↦ EndsRun-at _ _ _ _ _ _ _ _
      c.gathering.invariant.run c.in-Some.ensures.parts.0 (inr (search rules))
      c.utf8.ahead c.gathering.invariant.utf8
]

pub returns : goal.returns
returns g c = EndsRun-none _ _ _ _ _ _ c.gathering.invariant.run
    c.in_default.ensures.parts c.utf8.ahead c.gathering.invariant.utf8
