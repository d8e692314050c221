use Rattle.std.proofs.Common.{refl, sym, subst, rules}
use Rattle.std.specs.Str.{IsUtf8}
use Rattle.std.proofs.lemmas.Str.{IsUtf8-append, IsUtf8-had}
use Rattle.cn_core.proofs.Buffers.{counted-bytes, piece-put}
use Rattle.cn_core.proofs.buffer.Buffer.write.Goals as goal

pub invariant_of-self-clause-utf8 : goal.invariant_of-self-clause-utf8
invariant_of-self-clause-utf8 c =
    let old = c.args.self.now in λ within.
    let counted = counted-bytes _ _ _ _ _ c.put_behind-self.ensures old.small (search rules) within in
    ∣ subst IsUtf8 (sym counted.1)
    (IsUtf8-append _ _ (IsUtf8-had _ (old.utf8 counted.0)) (rw c.as_bytes.ensures.value c.utf8.more)) ∣₁

pub returns : goal.returns
returns c = piece-put _ _ _ refl (rw c.as_bytes.ensures.value at c.put_behind-self.ensures)
