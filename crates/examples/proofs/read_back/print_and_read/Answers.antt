use Rattle.std.proofs.Common.{encode_utf8_all, string_bytes}
use Rattle.chinese_number.specs.Printing.{spelled_text}
use Rattle.chinese_number.proofs.Joining.{unit_result_is}
use Rattle.examples.proofs.read_back.print_and_read.Goals as goal

pub returns : goal.returns
returns g c =
    let number = g.T.Whole.number in
    let variant = c.args.variant in
    let case = c.args.case in
    let method = c.args.method in
    let value = c.args.number in
    let printed = c.in_ok-text.ensures in
    unit_result_is number g.met.T.Whole.same_number c.to_number.result value g.T.Whole.kind method
    c.as_str.result.now (string_bytes c.in_ok-text.text) (encode_utf8_all (spelled_text variant case method (number value)))
    c.to_number.ensures c.as_str.ensures.value printed.1.bytes
    (c.spellings_read_back.ensures variant case method (number value) c.magnitude-magnitude.ensures.held printed.0)
