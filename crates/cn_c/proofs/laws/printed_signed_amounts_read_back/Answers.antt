use Rattle.std.proofs.Common.{slice_get}
use Rattle.cn_c.specs.Codes.{scripts, form_of}
use Rattle.cn_c.proofs.SignedReadBack.{strict-back, typed-back}
use Rattle.cn_c.proofs.laws.printed_signed_amounts_read_back.Goals as goal

pub returns-clause-typed : goal.returns-clause-typed
returns-clause-typed c = λ fen script form old new len printed. typed-back fen (slice_get scripts script)
    (form_of form) old new len printed

pub returns-clause-strict : goal.returns-clause-strict
returns-clause-strict c = λ fen script form old new len without printed. strict-back fen (slice_get scripts script) form
    old new len without printed
