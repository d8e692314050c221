use Rattle.std.proofs.Common.{◌≡◌, ◌^◌, ◌∙◌, true, false, ap, arith}
use Rattle.std.proofs.lemmas.Bool.Decides.{nat_tests}
use Rattle.cn_core.specs.Scale.{scale_fits}
use Rattle.cn_core.specs.Characters.{rank}
use Rattle.cn_core.proofs.Characters.{rank-low}
use Rattle.cn_judge.proofs.WalkSteps.{walked-positive, walked-past, walked-alone, walked-same, walked-step, walked-opens, walked-room}
use Rattle.cn_judge.proofs.walk.step_unit.Goals as goal

pub close_below-requires : goal.close_below-requires
close_below-requires c = walked-positive c.args.method _ _ _ _ c.requires.1

pub returns-in_default : goal.returns-in_default
returns-in_default c = walked-past c.args.method (rank c.args.unit) _ _ _ _
    c.unit_after-after.ensures c.if-not-multiplies_upwards.ensures c.in_default.ensures.sum

pub returns-then-not-counts_a_unit : goal.returns-then-not-counts_a_unit
returns-then-not-counts_a_unit c =
    walked-alone c.args.method (rank c.args.unit) _ _ _ _ c.unit_after-after.ensures
    c.if-not-multiplies_upwards.ensures c.in-Some.ensures.sum.0 c.if-not-counts_a_unit.ensures

pub returns-then-not-groups_strictly : goal.returns-then-not-groups_strictly
returns-then-not-groups_strictly c =
    walked-same c.args.method (rank c.args.unit) _ _ _ _ _ c.unit_after-after.ensures
    c.if-not-multiplies_upwards.ensures c.in-Some.ensures.sum.0 c.in-Some.ensures.left
    c.if-not-groups_strictly.ensures

pub returns-then-exponent-gt38 : goal.returns-then-exponent-gt38
returns-then-exponent-gt38 c =
    let is = c.exponent-exponent.ensures in
    let past = c.if-exponent-gt38.true in
    let unfit : scale_fits c.args.method (rank c.args.unit) ≡ false = grind (arith, nat_tests) in
    walked-step c.args.method (rank c.args.unit) _ _ _ _ _ false c.unit_after-after.ensures
    c.if-not-multiplies_upwards.ensures c.in-Some.ensures.sum.0 c.if-not-counts_a_unit.ensures
    c.in-Some.ensures.left c.if-not-groups_strictly.ensures unfit

pub open-requires-clause-room : goal.open-requires-clause-room
open-requires-clause-room c = walked-room c.args.method (rank c.args.unit) _ _ _ _
    (rank-low c.args.unit) c.in-Some.ensures.left c.if-not-groups_strictly.ensures c.requires.0
    c.requires.1

pub returns : goal.returns
returns c =
    let is = c.exponent-exponent.ensures in
    let within = c.if-exponent-gt38.false in
    let fit : scale_fits c.args.method (rank c.args.unit) ≡ true = grind (arith, nat_tests) in
    λ walked w. (
      walked-step c.args.method (rank c.args.unit) _ _ _ _ _ true c.unit_after-after.ensures
          c.if-not-multiplies_upwards.ensures c.in-Some.ensures.sum.0 c.if-not-counts_a_unit.ensures
          c.in-Some.ensures.left c.if-not-groups_strictly.ensures fit walked w,
      c.open.ensures ∙ walked-opens c.args.method (rank c.args.unit) _ _ _ _ _ _
          (ap (λ n. 10 ^ n) is) c.in-Some.ensures.sum.1 c.in-Some.ensures.left
          c.if-not-groups_strictly.ensures walked w,
    )
