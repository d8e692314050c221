use Rattle.std.proofs.Common.{sym, ◌∙◌, rules}
use Rattle.cn_replace.proofs.Passing.{bar_found, bar_more, fraction_is}
use Rattle.cn_replace.proofs.kept.split_bar.Goals as goal

pub looking-preserved : goal.looking-preserved
looking-preserved c = record {
  passed = bar_more _ _ _ _ c.looking.invariant.passed c.in-Some.ensures.parts
      c.in_default-after_zhi.ensures;
  utf8 = search rules;
}

pub returns-then-has_some-2 : goal.returns-then-has_some-2
returns-then-has_some-2 c =
    let bar = c.in-Some-after_zhi.ensures in
    let parts = bar_found _ _ _ _ _ _ _ c.looking.invariant.passed c.in-Some.ensures.parts bar.3 bar.1
    bar.2 c.before_rest-before.ensures in (
      fraction_is _ _ _ parts.0 parts.1 (sym c.has_some.ensures ∙ c.if-has_some.true)
          (sym c.has_some-then-has_some.ensures ∙ c.if-has_some-2.true),
      parts.0,
      parts.1,
    )
