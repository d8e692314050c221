use Rattle.std.proofs.Common.{refl}
use Rattle.cn_replace.proofs.numbers.put_decimals.Goals as goal

pub returns : goal.returns
returns g c = (
  refl,
  g.met.S.Sink.took_both _ _ _ _ _ c.in_ok-put.ensures c.in_ok-put_digits.ensures,
)
