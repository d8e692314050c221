use Rattle.std.proofs.Common.{arith, rules, true, ◌≡◌, ◌+◌}
use Rattle.std.proofs.lemmas.Bool.Decides.{nat_tests}
use Rattle.cn_dynamic.proofs.Characters.{all_ascii_are_utf8, more-ascii}
use Rattle.cn_dynamic.proofs.utf8.ascii_eights_len.Goals as goal

pub sixteens-preserved : goal.sixteens-preserved
sixteens-preserved c =
    let both = c.if-eight_ascii_at.true in
    let first : c.eight_ascii_at-in-sixteens.result ≡ true = search (rules, nat_tests, both) in
    let second : c.eight_ascii_at-in-sixteens-2.result ≡ true = search (rules, nat_tests, both) in
    let more = c.eight_ascii_at-in-sixteens-2.ensures in
    let behind = more-ascii _ c.sixteens.len 8 c.sixteens.invariant.1
    (c.eight_ascii_at-in-sixteens.ensures.ascii first) in (
      omega (arith, more.within second),
      λ k less. more-ascii _ (c.sixteens.len + 8) 8 behind (more.ascii second) k (omega (arith, less)),
    )

pub returns-else-eight_ascii_at-clause-some : goal.returns-else-eight_ascii_at-clause-some
returns-else-eight_ascii_at-clause-some c =
    all_ascii_are_utf8 _ c.sixteens.len c.sixteens.invariant.0 c.sixteens.invariant.1

pub returns-after-sixteens-clause-some : goal.returns-after-sixteens-clause-some
returns-after-sixteens-clause-some c =
    all_ascii_are_utf8 _ c.sixteens.len c.sixteens.invariant.0 c.sixteens.invariant.1
