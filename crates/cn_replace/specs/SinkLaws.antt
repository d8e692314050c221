-- Pieces that are written to a string one after the other are written as one text. These are proofs,
-- which no contract depends on. They are in `specs` because the code of a trait cannot cite
-- `proofs`.
use Rattle.std.proofs.Common.{List, ℕ, [], ◌++◌, sym, ap, ◌∙◌, append-nil, append_assoc}
use Rattle.cn_replace.specs.Sinks.{AppendsTo}

pub AppendsTo-none : (old : List ℕ) → AppendsTo old old []
AppendsTo-none old = sym (append-nil old)

pub AppendsTo-both : (old mid new first second : List ℕ) → AppendsTo old mid first
    → AppendsTo mid new second → AppendsTo old new (first ++ second)
AppendsTo-both old mid new first second e f =
    f ∙ ap (λ l. l ++ second) e ∙ append_assoc old first second
