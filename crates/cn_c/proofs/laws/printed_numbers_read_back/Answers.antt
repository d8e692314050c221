use Rattle.std.proofs.Common.{slice_get}
use Rattle.cn_c.specs.Codes.{kinds, named_ways, scripts, cases}
use Rattle.cn_c.proofs.EitherBack.{read-back}
use Rattle.cn_c.proofs.laws.printed_numbers_read_back.Goals as goal

pub returns : goal.returns
returns c = λ number kind way script case old new len printed. read-back number (slice_get kinds kind) (slice_get named_ways way) (slice_get scripts script) (slice_get cases case) old new len printed
