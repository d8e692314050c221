use Rattle.std.proofs.Common.{◌<◌, get_or, refl, rules}
use Rattle.cn_judge.proofs.ThreeBytes.{first-key}
use Rattle.cn_judge.proofs.text.first_key.Goals as goal

pub returns-then-key-eq14 : goal.returns-then-key-eq14
returns-then-key-eq14 c =
    let bytes = c.as_bytes-bytes.result.now in
    let p : get_or bytes 0 0 < 256 = search rules in
    let q : get_or bytes 1 0 < 256 = search rules in
    first-key bytes _ c.as_bytes-bytes.ensures.value c.utf8.text c.if-bytes-lt3.false q p _ refl
    c.if-key-eq14.true
