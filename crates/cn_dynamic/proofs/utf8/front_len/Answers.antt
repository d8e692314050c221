use Rattle.std.proofs.Common.{arith, rules, sym, ◌<◌, ◌≤◌, get_or, length}
use Rattle.cn_dynamic.proofs.Characters.{ascii_are_utf8, common_is_utf8, two_are_utf8, three_are_utf8, four_are_utf8, others_are_not}
use Rattle.cn_dynamic.proofs.utf8.front_len.Goals as goal

pub returns-then-is_common-clause-some : goal.returns-then-is_common-clause-some
returns-then-is_common-clause-some c =
    let is = c.if-is_common.true in
    let common = c.is_common.ensures in
    let word = c.first_word-word.ensures in
    common_is_utf8 _ _ _ _ word.first word.second word.third (common.first is) (common.second is)
    (common.third is)

pub returns-then-ascii-gt0-clause-some : goal.returns-then-ascii-gt0-clause-some
returns-then-ascii-gt0-clause-some c =
    let ascii = c.ascii_len-ascii.ensures in
    let word = c.first_word-word.ensures in
    let within : c.min.result ≤ length c.args.bytes.now = omega (arith, c.min.ensures) in
    let most : c.min.result ≤ c.ascii_len-ascii.result = omega (arith, c.min.ensures) in
    ascii_are_utf8 c.args.bytes.now _ within (omega (arith, most, ascii.most))
    (λ some. omega (arith, word.first, ascii.first (omega (arith, some, most))))
    (λ some. omega (arith, word.second, ascii.second (omega (arith, some, most))))
    (λ some. omega (arith, word.third, ascii.third (omega (arith, some, most))))
    (λ some. omega (arith, word.fourth, ascii.fourth (omega (arith, some, most))))

pub returns-then-is_two-clause-some : goal.returns-then-is_two-clause-some
returns-then-is_two-clause-some c = search (rules, two_are_utf8)

pub returns-then-is_three-clause-some : goal.returns-then-is_three-clause-some
returns-then-is_three-clause-some c = search (rules, three_are_utf8)

pub returns-then-is_four-clause-some : goal.returns-then-is_four-clause-some
returns-then-is_four-clause-some c = search (rules, four_are_utf8)

pub returns-else-is_two-clause-none : goal.returns-else-is_two-clause-none
returns-else-is_two-clause-none c = λ _.
    let word = c.first_word-word.ensures in
    let ascii = c.ascii_len-ascii.ensures in
    let other = ascii.none (omega (arith, c.if-ascii-gt0.false)) in
    let low : get_or c.args.bytes.now 0 0 < 224 = omega (arith, word.first, c.if-word-lt224.true) in
    others_are_not _ c.requires (omega (arith, word.first, other))
    (rw (sym word.first, sym word.second) (λ is. let two = c.is_two.ensures.1 is in cc))
    (λ is. omega (arith, low, is.0)) (λ is. omega (arith, low, is.0, is.3))

pub returns-else-is_four-clause-none : goal.returns-else-is_four-clause-none
returns-else-is_four-clause-none c = λ _.
    let word = c.first_word-word.ensures in
    let high : 224 ≤ get_or c.args.bytes.now 0 0 = omega (arith, word.first, c.if-word-lt224.false) in
    others_are_not _ c.requires (omega (arith, high)) (λ is. omega (arith, high, is.0))
    (rw (sym word.first, sym word.second, sym word.third) (λ is. let three = c.is_three.ensures.1 is in cc))
    (rw (sym word.first, sym word.second, sym word.third, sym word.fourth)
    (λ is. let four = c.is_four.ensures.1 is in cc))
