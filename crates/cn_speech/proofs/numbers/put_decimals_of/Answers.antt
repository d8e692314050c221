use Rattle.std.proofs.Common.{sym}
use Rattle.cn_speech.proofs.numbers.put_decimals_of.Goals as goal

pub returns : goal.returns
returns g c = rw (sym c.split_leading.ensures.leading) c.put_decimals.ensures
