use Rattle.std.proofs.Common.{take, ap, sym, subst, ◌∙◌, length-drop}
use Rattle.std.specs.Str.{IsUtf8}
use Rattle.std.proofs.lemmas.Str.{IsUtf8-had}
use Rattle.std.proofs.Math.Seq.{take-length}
use Rattle.cn_core.specs.Buffers.{text_at_end}
use Rattle.cn_core.proofs.end_buffer.EndBuffer.into_text.Goals as goal

pub from_utf8_unchecked-requires : goal.from_utf8_unchecked-requires
from_utf8_unchecked-requires c =
    let buffer = c.args.self in
    let all = ap (λ n. take n (text_at_end buffer)) (sym (length-drop buffer.free buffer.bytes.now))
    ∙ take-length (text_at_end buffer) in
    subst IsUtf8 (sym all) (IsUtf8-had _ buffer.utf8)
