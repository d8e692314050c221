use Rattle.std.proofs.Common.{rules}
use Rattle.cn_quantity.proofs.Groups.{IsTurning-first, IsTurning-more}
use Rattle.cn_quantity.proofs.turns.by_turns.Goals as goal

pub turning-init : goal.turning-init
turning-init c = record {
  turning = IsTurning-first _ _ _ _ c.in_ok-first.ensures.turns c.in_ok-first.ensures.rest;
  utf8 = search rules;
}

pub turning-preserved : goal.turning-preserved
turning-preserved c = record {
  turning = IsTurning-more _ _ _ _ _ _ _ _ _ _ c.turning.invariant.turning
      c.in-Some.ensures.parts.text c.split_zero-after_zero.ensures.zero
      c.split_zero-after_zero.ensures.rest c.in_ok-next.ensures.turns c.in_ok-next.ensures.rest;
  utf8 = search rules;
}
