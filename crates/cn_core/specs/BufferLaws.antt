-- Pieces that are written to a buffer one after the other are written as one text. These are proofs,
-- which no contract depends on. They are in `specs` because the code of a trait cannot cite
-- `proofs`.
use Rattle.std.proofs.Common.{List, ℕ, [], ◌++◌, sym, subst, append-nil, append_assoc}
use Rattle.cn_core.specs.declared.buffer.Buffer.{Buffer}
use Rattle.cn_core.specs.Buffers.{Appends, HasText}

pub Appends-none : (buffer : Buffer) → Appends buffer buffer []
unfolding Appends
Appends-none buffer = λ start text h.
    subst (λ text. HasText start text buffer) (sym (append-nil text)) h

pub Appends-both : (old mid new : Buffer) (first second : List ℕ) → Appends old mid first
    → Appends mid new second → Appends old new (first ++ second)
unfolding Appends
Appends-both old mid new first second a b = λ start text h.
    subst (λ text. HasText start text new) (append_assoc text first second)
    (b start (text ++ first) (a start text h))
