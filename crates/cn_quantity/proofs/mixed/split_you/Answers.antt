use Rattle.std.proofs.Common.{arith, rules}
use Rattle.cn_quantity.proofs.MixedTexts.{IsYouSought-none, IsYouSought-more, SplitsAtYou-at, none-sought}
use Rattle.cn_quantity.proofs.mixed.split_you.Goals as goal

pub seeking-init : goal.seeking-init
seeking-init c = record { sought = IsYouSought-none _; within = omega arith; utf8 = search rules }

pub seeking-preserved : goal.seeking-preserved
seeking-preserved c = record {
  sought = IsYouSought-more _ _ _ _ c.seeking.invariant.sought c.in-Some.ensures.parts (search rules);
  within = search rules;
  utf8 = search rules;
}

pub before_end-requires : goal.before_end-requires
before_end-requires c = c.seeking.invariant.sought.end

pub returns-then-is_you-clause-parts : goal.returns-then-is_you-clause-parts
returns-then-is_you-clause-parts c =
    SplitsAtYou-at _ _ _ _ _ c.seeking.invariant.sought c.in-Some.ensures.parts (search rules)
    c.before_end.ensures.parts

pub returns-clause-parts : goal.returns-clause-parts
returns-clause-parts c = none-sought _ _ c.seeking.invariant.sought c.in_default.ensures.parts
