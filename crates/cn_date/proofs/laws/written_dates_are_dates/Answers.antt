use Rattle.cn_date.proofs.Written.{written-read}
use Rattle.cn_date.proofs.laws.written_dates_are_dates.Goals as goal

pub returns : goal.returns
returns c = written-read
