use Rattle.cn_find.proofs.Alone.{no-mega}
use Rattle.cn_find.proofs.laws.no_number_ends_with_mega.Goals as goal

pub returns : goal.returns
returns c = λ bytes span front d whole found last.
    no-mega c.args.wanted bytes span front d whole found last
