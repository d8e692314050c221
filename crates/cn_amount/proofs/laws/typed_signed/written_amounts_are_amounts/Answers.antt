use Rattle.cn_amount.proofs.SignedShown.{written-signed}
use Rattle.cn_amount.proofs.TypedShown.{signed-typed}
use Rattle.cn_amount.proofs.laws.typed_signed.written_amounts_are_amounts.Goals as goal

pub returns : goal.returns
returns c = λ variant form fen low. signed-typed _ fen (written-signed variant form fen low)
