-- One row more of a column that is read.
use Rattle.std.proofs.Common.{◌≡◌, ℕ, ◌+◌, List, [], ◌∷◌, ◌++◌, length, subst, arith, add-zero}
use Rattle.cn_columns.specs.Reading.{Answer, EachRow}

pub each-more : {V : Type 0} (holds : ℕ → Answer V → Type 0) (row : ℕ) (rows : List (Answer V)) (next : Answer V)
    → EachRow holds row rows → holds (row + length rows) next → EachRow holds row (rows ++ next ∷ [])
each-more holds row [] next each it = (subst (λ n. holds n next) (add-zero row) it, tt)
each-more holds row (first ∷ rows) next each it =
    let same : row + length (first ∷ rows) ≡ row + 1 + length rows = omega arith in
    (each.0, each-more holds (row + 1) rows next each.1 (subst (λ n. holds n next) same it))
