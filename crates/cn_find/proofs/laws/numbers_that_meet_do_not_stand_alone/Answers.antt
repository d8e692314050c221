use Rattle.cn_find.proofs.Alone.{meeting}
use Rattle.cn_find.proofs.laws.numbers_that_meet_do_not_stand_alone.Goals as goal

pub returns : goal.returns
returns c = λ bytes first second whole here there meet.
    meeting c.args.wanted bytes first second whole here there meet
