use Rattle.std.proofs.Common.{arith, rules}
use Rattle.cn_judge.specs.Private.PlainPiece.{no_digit, one_more}
use Rattle.cn_judge.proofs.WalkSteps.{digit-low}
use Rattle.cn_judge.proofs.naive.split_digit_run.Goals as goal

pub gathering-init : goal.gathering-init
gathering-init c = record {
  run = no_digit;
  within = omega arith;
  small = omega arith;
  utf8 = search rules;
}

pub gathering-preserved : goal.gathering-preserved
gathering-preserved c =
    let inv = c.gathering.invariant in
    let parts = c.in-Some.ensures.parts in
    let low = digit-low parts.0 _ parts.2 in
    record {
      run = one_more _ _ _ _ _ _ _ inv.run parts.1 parts.2;
      within = omega (arith, inv.within, c.in-Some.ensures.shorter);
      small = omega (arith, inv.small, low);
      utf8 = search rules;
    }
