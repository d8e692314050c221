use Rattle.cn_find.proofs.Signs.{no-other_sign}
use Rattle.cn_find.proofs.laws.runs_begin_with_no_other_sign.Goals as goal

pub returns : goal.returns
returns c = λ bytes span d rest found ended first not_plus.
    no-other_sign c.args.wanted bytes span d rest found ended first not_plus
