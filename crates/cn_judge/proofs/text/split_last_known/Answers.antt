use Rattle.std.proofs.Common.{◌≡◌, ℕ, ◌-◌, ◌+◌, ◌≤◌, ◌<◌, IsUtf8, chars, length, get_or, take, sym, ap, ◌∙◌, arith}
use Rattle.std.specs.Str.{IsCharBoundary}
use Rattle.cn_judge.proofs.ThreeBytes.{boundary-at, last-three, word-bytes}
use Rattle.cn_judge.proofs.text.split_last_known.Goals as goal

pub returns-clause-parts : goal.returns-clause-parts
returns-clause-parts c =
    let bytes = c.as_bytes-bytes.result.now in
    let same = c.as_bytes-bytes.ensures.value in
    let known = c.in_ok-mark.ensures in
    let four = c.in_ok-four.four.now in
    let cases = c.in_ok-four.ensures.cases in
    let below : (i : ℕ) → get_or bytes i 0 < 256 = λ i. rw same (c.type_inv.text i).fits in
    let long : length bytes ≡ length bytes - 3 + 3 = omega (arith, cases.0) in
    let next : length bytes - 3 ≡ length bytes - 4 + 1 = omega (arith, cases.0) in
    let key = word-bytes bytes four (length bytes - 4) (length bytes - 3) _ below next cases.1.same
    c.from_le_bytes.ensures in
    let low : 224 ≤ get_or bytes (length bytes - 3) 0 = let at =
    known.low in omega (arith, key.one, at) in
    let boundary : IsCharBoundary bytes (length bytes - 3) =
    boundary-at bytes (length bytes - 3) (omega arith) low in
    let whole : IsUtf8 bytes = rw same c.utf8.text in
    let cut = c.split_at.ensures.front ∙ ap (take (length bytes - 3)) (sym same) in (
      known.code,
      ap chars (sym same) ∙ last-three bytes _ (length bytes - 3) _ _ _ _ whole boundary long cut
          key.one key.two key.three known.low known.sum,
      known.mark_is,
      known.dark,
    )
