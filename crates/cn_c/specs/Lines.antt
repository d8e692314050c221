-- What the call that answers a line writes and returns.
use Rattle.std.specs.Prelude.{ℕ, List}
use Rattle.cn_lines.specs.Answer.{Answers}
use Rattle.cn_c.specs.Prints.{PutsIfItFits}

-- the answer to a line is written if it fits
abbrev pub IsAnswered : List ℕ → List ℕ → ℕ → List ℕ → ℕ → Type 0
IsAnswered line old status new len =
    (answer : List ℕ) × Answers line answer × PutsIfItFits answer old status new len
