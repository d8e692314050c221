use Rattle.std.proofs.Common.{encode_utf8_all, string_bytes}
use Rattle.chinese_number.specs.Printing.{naive_text}
use Rattle.chinese_number.proofs.Joining.{naive_result_is}
use Rattle.call_tests.proofs.reading_back.print_and_read_naive.Goals as goal

pub returns : goal.returns
returns g c =
    let number = g.T.Whole.number in
    let variant = c.args.variant in
    let case = c.args.case in
    let value = c.args.number in
    naive_result_is number g.met.T.Whole.same_number c.to_number_naive.result value g.T.Whole.kind
    c.as_str.result.now (string_bytes c.in_ok-text.text) (encode_utf8_all (naive_text variant case (number value)))
    c.to_number_naive.ensures c.as_str.ensures.value c.in_ok-text.ensures.bytes
    (c.naive_texts_read_back.ensures variant case (number value) c.magnitude-magnitude.ensures.held)
