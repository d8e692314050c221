use Rattle.cn_replace.proofs.Unchanged.{all-unchanged}
use Rattle.cn_replace.proofs.laws.texts_stay_where_nothing_is_new.Goals as goal

pub returns : goal.returns
returns c = λ new bytes utf8 none. all-unchanged new c.args.wanted bytes utf8 none
