use Rattle.std.proofs.Common.{◌<◌, IsUtf8, chars, drop, get_or, sym, ap, ◌∙◌, rules}
use Rattle.cn_judge.proofs.ThreeBytes.{first-boundary, first-three, key-bytes}
use Rattle.cn_judge.proofs.text.split_first_known.Goals as goal

pub split_at-requires : goal.split_at-requires
split_at-requires c =
    let bytes = c.as_bytes-bytes.result.now in
    let same = c.as_bytes-bytes.ensures.value in
    let known = c.in_ok-mark.ensures in
    let p : get_or bytes 0 0 < 256 = search rules in
    let q : get_or bytes 1 0 < 256 = search rules in
    let key = key-bytes (get_or bytes 0 0) (get_or bytes 1 0) (get_or bytes 2 0) p q in
    rw same at (first-boundary bytes _ (rw same c.utf8.text) c.if-bytes-lt3.false key.one known.low
    known.high)

pub returns-clause-parts : goal.returns-clause-parts
returns-clause-parts c =
    let bytes = c.as_bytes-bytes.result.now in
    let same = c.as_bytes-bytes.ensures.value in
    let known = c.in_ok-mark.ensures in
    let p : get_or bytes 0 0 < 256 = search rules in
    let q : get_or bytes 1 0 < 256 = search rules in
    let key = key-bytes (get_or bytes 0 0) (get_or bytes 1 0) (get_or bytes 2 0) p q in
    let whole : IsUtf8 bytes = rw same c.utf8.text in (
      known.code,
      ap chars (sym same)
          ∙ first-three _ _ _ _ _ _ whole c.if-bytes-lt3.false
          (c.split_at.ensures.back ∙ ap (drop 3) (sym same)) key.one key.two key.three known.low
          known.high known.sum,
      known.mark_is,
      known.dark,
    )
