use Rattle.std.proofs.Common.{slice_get}
use Rattle.cn_c.specs.Codes.{scripts}
use Rattle.cn_c.specs.Dates.{date}
use Rattle.cn_c.proofs.DateReadBack.{date-back}
use Rattle.cn_c.proofs.laws.printed_dates_read_back.Goals as goal

pub returns : goal.returns
returns c = λ year month day script old new len printed. date-back (date year month day) (slice_get scripts script) old new len printed
