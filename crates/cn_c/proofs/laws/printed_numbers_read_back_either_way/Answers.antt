use Rattle.std.proofs.Common.{slice_get}
use Rattle.cn_core.specs.declared.method.ChineseCountMethod.TheVariants.{TenThousand}
use Rattle.cn_dynamic.specs.declared.Way.TheVariants.{Digits, Units}
use Rattle.cn_c.specs.declared.codes.NamedWay.TheVariants.{By, Either}
use Rattle.cn_c.specs.Codes.{kinds, scripts, cases}
use Rattle.cn_c.proofs.EitherBack.{either-digits, either-either, either-ten_thousand}
use Rattle.cn_c.proofs.ReadBack.{read-named}
use Rattle.cn_c.proofs.laws.printed_numbers_read_back_either_way.Goals as goal

pub returns-clause-digits : goal.returns-clause-digits
returns-clause-digits c = λ number kind script case old new len printed. read-named (By Digits) Either either-digits number (slice_get kinds kind) (slice_get scripts script) (slice_get cases case) old new len printed

pub returns-clause-ten_thousand : goal.returns-clause-ten_thousand
returns-clause-ten_thousand c = λ number kind script case old new len printed. read-named (By (Units TenThousand)) Either either-ten_thousand number (slice_get kinds kind) (slice_get scripts script) (slice_get cases case) old new len printed

pub returns-clause-either : goal.returns-clause-either
returns-clause-either c = λ number kind script case old new len printed. read-named Either Either either-either number (slice_get kinds kind) (slice_get scripts script) (slice_get cases case) old new len printed
