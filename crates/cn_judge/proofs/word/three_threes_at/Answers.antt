use Rattle.std.proofs.Common.{rules, ◌≡◌, ◌/◌, ◌%◌}
use Rattle.std.proofs.lemmas.Bool.Decides.{nat_tests}
use Rattle.cn_judge.proofs.Passing.{word-at, word-threes}
use Rattle.cn_judge.proofs.word.three_threes_at.Goals as goal

pub returns : goal.returns
returns c = λ is.
    let word = c.from_le_bytes-word.result in
    let first : word % 256 / 16 ≡ 14 = search (rules, nat_tests, is) in
    let fourth : word / 16777216 % 256 / 16 ≡ 14 = search (rules, nat_tests, is) in
    let seventh : word / 281474976710656 % 256 / 16 ≡ 14 = search (rules, nat_tests, is) in
    let at = word-at c.args.bytes.now c.in-Some.eight.now c.args.index word
    (λ i. (c.type_inv.bytes i).fits) c.requires c.in-Some.ensures.cases
    c.from_le_bytes-word.ensures in
    word-threes c.args.bytes.now c.args.index word at first fourth seventh
