use Rattle.std.proofs.Common.{sym, ◌∙◌, rules}
use Rattle.std.proofs.lemmas.Str.{chars-nil}
use Rattle.cn_replace.proofs.Passing.{ending_all, ending_end, ending_found, ending_more, ending_none}
use Rattle.cn_replace.proofs.numbers.split_end.Goals as goal

pub passing-init : goal.passing-init
passing-init c = record { passed = ending_all c.args.section.now; utf8 = search rules }

pub before_rest-front-requires : goal.before_rest-front-requires
before_rest-front-requires c = ending_end _ _ c.passing.invariant.passed

pub passing-preserved : goal.passing-preserved
passing-preserved c = record {
  passed = ending_more _ _ c.passing.invariant.passed _ c.before_rest-front.ensures _ _
      c.in-Some.ensures.parts (sym c.is_end.ensures ∙ c.if-is_end.false);
  utf8 = search rules;
}

pub returns-then-is_end : goal.returns-then-is_end
returns-then-is_end c =
    let found = ending_found _ _ c.passing.invariant.passed _ c.before_rest-front.ensures
    (sym c.is_end.ensures ∙ c.if-is_end.true) in record { before = found.0; end = found.1 }

pub returns : goal.returns
returns c =
    let none = ending_none _ _ c.passing.invariant.passed c.in_default.ensures.parts in record {
      before = none.0;
      end = chars-nil ∙ none.1;
    }
