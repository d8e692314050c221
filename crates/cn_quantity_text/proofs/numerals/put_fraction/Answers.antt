use Rattle.std.proofs.Common.{◌++◌, pos}
use Rattle.cn_core.specs.Printing.{is_printable}
use Rattle.cn_quantity_text.specs.Numerals.{bar, divisor_text, magnitude_text}
use Rattle.cn_quantity_text.proofs.Pieces.{bar-put, first-written, pieces, pieces-if}
use Rattle.cn_quantity_text.proofs.numerals.put_fraction.Goals as goal

pub returns : goal.returns
returns c =
    let style = c.args.style in
    let old = c.args.text.now in
    let behind = c.put.new.self in
    let new = c.put_divisor.new.text in
    let magnitude = magnitude_text style.variant style.case style.method c.args.number in
    let divisor = divisor_text style.variant style.case style.method c.args.divisor in
    let number = c.in_ok-put_magnitude.ensures in
    let rest = pieces old c.put_magnitude.new.text behind bar magnitude 231 6 number.1
    (bar-put c.put_magnitude.new.text behind c.put.ensures) in
    first-written old new (divisor ++ (bar ++ magnitude)) 468
    (is_printable style.method (pos c.args.divisor))
    (is_printable style.method (pos c.args.number)) c.put_divisor.result number.0
    (pieces-if old behind new divisor (bar ++ magnitude) 237 231
    (is_printable style.method (pos c.args.divisor)) c.put_divisor.result rest
    c.put_divisor.ensures)
