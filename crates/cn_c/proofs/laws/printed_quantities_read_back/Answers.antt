use Rattle.std.proofs.Common.{slice_get, Some}
use Rattle.cn_c.specs.declared.codes.NamedWay.TheVariants.{Either}
use Rattle.cn_c.specs.Codes.{cases, named_ways, scripts}
use Rattle.cn_c.specs.Quantities.{quantity_forms}
use Rattle.cn_c.proofs.QuantityReadBack.{quantity-back}
use Rattle.cn_c.proofs.laws.printed_quantities_read_back.Goals as goal

pub returns-clause-same : goal.returns-clause-same
returns-clause-same c = λ quantity method script case old new len above below printed.
    quantity-back quantity.numerator quantity.denominator (slice_get quantity_forms quantity.form)
    (slice_get named_ways method) (slice_get scripts script) (slice_get cases case) old new
    len above below printed

pub returns-clause-either : goal.returns-clause-either
returns-clause-either c = λ quantity script case old new len above below printed.
    quantity-back quantity.numerator quantity.denominator (slice_get quantity_forms quantity.form)
    (Some Either) (slice_get scripts script) (slice_get cases case) old new len above below printed
