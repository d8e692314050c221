use Rattle.std.proofs.Common.{encode_utf8_all, refl}
use Rattle.chinese_number.specs.Printing.{spelled_text}
use Rattle.chinese_number.proofs.Joining.{unit_result_is}
use Rattle.examples.proofs.read_back.put_and_read.Goals as goal

pub returns : goal.returns
returns g c =
    let number = g.T.Whole.number in
    let variant = c.args.variant in
    let case = c.args.case in
    let method = c.args.method in
    let value = c.args.number in
    let put = c.in_ok-text.ensures in
    unit_result_is number g.met.T.Whole.same_number c.to_number.result value g.T.Whole.kind method
    c.in_ok-text.text.now c.in_ok-text.text.now (encode_utf8_all (spelled_text variant case method (number value)))
    c.to_number.ensures refl put.1.text
    (c.spellings_read_back.ensures variant case method (number value) c.magnitude-magnitude.ensures.held put.0)
