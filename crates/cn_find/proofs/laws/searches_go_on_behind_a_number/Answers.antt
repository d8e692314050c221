use Rattle.cn_find.specs.Rule.{number_rule}
use Rattle.cn_find.proofs.Parting.{searches-go_on}
use Rattle.cn_find.proofs.RunLaws.{utf8-behind}
use Rattle.cn_find.proofs.laws.searches_go_on_behind_a_number.Goals as goal

pub returns : goal.returns
returns c = λ bytes first rest e whole. searches-go_on c.args.wanted bytes first rest e
    (utf8-behind (number_rule c.args.wanted) bytes first rest e whole)
