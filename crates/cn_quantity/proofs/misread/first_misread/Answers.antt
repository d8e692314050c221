use Rattle.std.proofs.Common.{rules, ◌∙◌}
use Rattle.cn_quantity.proofs.Faults.{rule-between}
use Rattle.cn_quantity.proofs.Misreads.{IsPassed-none, IsPassed-more, SplitsAtMisread-at, none-misread}
use Rattle.cn_quantity.proofs.misread.first_misread.Goals as goal

pub looking-init : goal.looking-init
looking-init c = record {
  passed = rw c.nothing-before.ensures (IsPassed-none c.args.text.now);
  utf8 = search rules;
}

pub looking-preserved : goal.looking-preserved
looking-preserved c = record {
  passed = rw c.then-before.ensures (IsPassed-more _ _ _ _ _ _ _ c.looking.invariant.passed
      c.in-Some.ensures.parts c.mark_of-in-Some.ensures c.is_misread_at.ensures
      c.if-is_misread_at.false);
  utf8 = search rules;
}

pub before_end-requires : goal.before_end-requires
before_end-requires c = c.looking.invariant.passed.end

pub returns-then-is_misread_at-clause-parts : goal.returns-then-is_misread_at-clause-parts
returns-then-is_misread_at-clause-parts c =
    SplitsAtMisread-at _ _ _ _ _ _ _ _ _ c.looking.invariant.passed c.in-Some.ensures.parts
    c.mark_of.ensures c.is_misread_at.ensures c.if-is_misread_at.true c.before_end.ensures.parts
    c.bare_ten.ensures

pub returns-clause-parts : goal.returns-clause-parts
returns-clause-parts c =
    none-misread _ _ _ c.looking.invariant.passed c.in_default.ensures.parts

pub returns-then-is_misread_at-clause-rule : goal.returns-then-is_misread_at-clause-rule
returns-then-is_misread_at-clause-rule c =
    c.rule_of.ensures
    ∙ rule-between _ _ _ _ _ _ c.looking.invariant.passed c.in-Some.ensures.parts
    c.before_end.ensures.parts
