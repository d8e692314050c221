use Rattle.cn_find.proofs.RunLaws.{few-left}
use Rattle.cn_find.proofs.Runs.{all-left}
use Rattle.cn_find.proofs.numbers.search.Goals as goal

pub returns-clause-few : goal.returns-clause-few
returns-clause-few g c =
    few-left (g.R.SearchRule.rule c.args.rule) c.args.text.now c.args.text.now c.utf8.text

pub returns-clause-runs : goal.returns-clause-runs
returns-clause-runs g c = all-left (g.R.SearchRule.rule c.args.rule) c.args.text.now
