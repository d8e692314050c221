use Rattle.std.proofs.Common.{rules}
use Rattle.cn_quantity.proofs.Bars.{IsBarSought-none, IsBarSought-more, SplitsAtBar-at, end-behind}
use Rattle.cn_quantity.proofs.ratio.split_bar.Goals as goal

pub seeking-init : goal.seeking-init
seeking-init c = record { sought = IsBarSought-none _; utf8 = search rules }

pub seeking-preserved : goal.seeking-preserved
seeking-preserved c = record {
  sought = IsBarSought-more _ _ _ _ c.seeking.invariant.sought c.in-Some.ensures.parts
      c.in_default-after_bar.ensures.parts;
  utf8 = search rules;
}

pub before_end-requires-in-Some-after_bar : goal.before_end-requires-in-Some-after_bar
before_end-requires-in-Some-after_bar c =
    end-behind _ _ _ _ _ _ c.seeking.invariant.sought c.in-Some.ensures.parts
    c.in-Some-after_bar.ensures.parts.3

pub returns-in-Some-after_bar-clause-parts : goal.returns-in-Some-after_bar-clause-parts
returns-in-Some-after_bar-clause-parts c =
    let bar = c.in-Some-after_bar.ensures.parts in
    SplitsAtBar-at _ _ _ _ _ _ _ _ _ c.seeking.invariant.sought c.in-Some.ensures.parts bar.1 bar.2
    bar.3 c.before_end.ensures.parts c.before_end-in-Some-after_bar.ensures.parts
    c.count_chars.ensures.count
