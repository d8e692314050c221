use Rattle.std.proofs.Common.{slice_get}
use Rattle.cn_c.specs.Codes.{named_ways}
use Rattle.cn_c.specs.Quantities.{method_of, quantity_forms, quantity_of}
use Rattle.cn_c.proofs.FiguresReadBack.{IsHeld-told, printed-read, printed-utf8}
use Rattle.cn_c.proofs.laws.printed_figures_read_back.Goals as goal

pub returns-clause-utf8 : goal.returns-clause-utf8
returns-clause-utf8 c = λ quantity old new len above below printed.
    printed-utf8 (quantity_of quantity) old new len
    (λ exact is. IsHeld-told quantity.numerator quantity.denominator
    (slice_get quantity_forms quantity.form) exact above below is) printed

pub returns-clause-read : goal.returns-clause-read
returns-clause-read c = λ quantity exact method old new len above below is some named printed status told tells.
    printed-read (quantity_of quantity) exact (method_of (slice_get named_ways method)) old new len
    status told is
    (IsHeld-told quantity.numerator quantity.denominator (slice_get quantity_forms quantity.form)
    exact above below is) some named printed tells
