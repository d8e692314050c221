use Rattle.std.proofs.Common.{◌<◌, ap, arith, get_or, length, rules}
use Rattle.std.proofs.lemmas.Bool.Decides.{nat_tests}
use Rattle.cn_find.proofs.Marks.{no_character, one_byte, two-ascii}
use Rattle.cn_find.proofs.flags.only_mark.Goals as goal

pub returns-then-bytes-eq1 : goal.returns-then-bytes-eq1
returns-then-bytes-eq1 c = search (rules, one_byte)

pub returns-then-bytes-gt4 : goal.returns-then-bytes-gt4
returns-then-bytes-gt4 c = λ d.
    let same = c.as_bytes-bytes.ensures.value in
    let long = c.if-bytes-gt4.true in
    no_character c.args.text.now d c.utf8.text (omega (arith, long, ap length same))

pub returns-then-is_ascii : goal.returns-then-is_ascii
returns-then-is_ascii c = λ d.
    let bytes = c.as_bytes-bytes.result.now in
    let long : 1 < length bytes = search rules in
    let low : get_or bytes 0 0 < 128 = grind (arith, nat_tests, c.if-is_ascii.true, c.is_ascii.ensures) in
    two-ascii bytes _ d c.as_bytes-bytes.ensures.value c.utf8.text long low
