use Rattle.std.proofs.Common.{rules}
use Rattle.cn_quantity.proofs.Points.{IsSought-none, IsSought-more, SplitsAtPoint-at, none-sought}
use Rattle.cn_quantity.proofs.decimal.split_point.Goals as goal

pub seeking-init : goal.seeking-init
seeking-init c = record { sought = IsSought-none _; utf8 = search rules }

pub seeking-preserved : goal.seeking-preserved
seeking-preserved c = record {
  sought = IsSought-more _ _ _ _ c.seeking.invariant.sought c.in-Some.ensures.parts (search rules);
  utf8 = search rules;
}

pub before_end-requires : goal.before_end-requires
before_end-requires c = c.seeking.invariant.sought.end

pub returns-then-is_point-clause-parts : goal.returns-then-is_point-clause-parts
returns-then-is_point-clause-parts c =
    SplitsAtPoint-at _ _ _ _ _ c.seeking.invariant.sought c.in-Some.ensures.parts (search rules)
    c.before_end.ensures.parts

pub returns-clause-parts : goal.returns-clause-parts
returns-clause-parts c = none-sought _ _ c.seeking.invariant.sought c.in_default.ensures.parts
