use Rattle.std.proofs.Common.{slice_get}
use Rattle.cn_c.specs.Codes.{scripts, form_of}
use Rattle.cn_c.proofs.AmountReadBack.{amount-back}
use Rattle.cn_c.proofs.laws.printed_amounts_read_back.Goals as goal

pub returns : goal.returns
returns c = λ fen script form old new len printed. amount-back fen (slice_get scripts script)
    (form_of form) old new len printed
