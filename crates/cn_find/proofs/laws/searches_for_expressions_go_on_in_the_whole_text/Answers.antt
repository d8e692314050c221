use Rattle.cn_find.specs.Expressions.{expression_rule}
use Rattle.cn_find.proofs.GoingOn.{search-goes_on}
use Rattle.cn_find.proofs.laws.searches_for_expressions_go_on_in_the_whole_text.Goals as goal

pub returns : goal.returns
returns c = λ bytes from first rest whole begins e.
    search-goes_on (expression_rule c.args.wanted) bytes from first rest whole begins e
