-- A column that is cut at a row.
use Rattle.std.proofs.Common.{◌≡◌, ℕ, ◌+◌, List, [], ◌∷◌, ◌++◌, length, take, drop, refl, sym, ap, ◌∙◌, arith, zero, suc, add-zero, append_assoc, length-append}
use Rattle.cn_columns.specs.Columns.{Row, ends, rows_of, texts}

pub rows-cut : (row : ℕ → Row) (missing : ℕ) (bitmap : List ℕ) (bit : ℕ) (values : List ℕ) (cut : ℕ)
    → drop cut (rows_of row missing bitmap bit values)
    ≡ rows_of row missing bitmap (bit + cut) (drop cut values)
rows-cut row missing bitmap bit values zero =
    ap (λ at. rows_of row missing bitmap at values) (sym (add-zero bit))
rows-cut row missing bitmap bit [] (suc cut) = refl
rows-cut row missing bitmap bit (value ∷ values) (suc cut) =
    let same : bit + 1 + cut ≡ bit + suc cut = omega arith in
    rows-cut row missing bitmap (bit + 1) values cut
    ∙ ap (λ at. rows_of row missing bitmap at (drop cut values)) same

pub texts-cut : (rows : List Row) (cut : ℕ)
    → texts rows ≡ texts (take cut rows) ++ texts (drop cut rows)
texts-cut rows zero = refl
texts-cut [] (suc cut) = refl
texts-cut (row ∷ rows) (suc cut) =
    ap (λ others. row.text ++ others) (texts-cut rows cut)
    ∙ sym (append_assoc row.text (texts (take cut rows)) (texts (drop cut rows)))

pub ends-cut : (start : ℕ) (rows : List Row) (cut : ℕ)
    → ends start rows ≡ ends start (take cut rows)
    ++ ends (start + length (texts (take cut rows))) (drop cut rows)
ends-cut start rows zero = ap (λ at. ends at rows) (sym (add-zero start))
ends-cut start [] (suc cut) = refl
ends-cut start (row ∷ rows) (suc cut) =
    let same : start + length row.text + length (texts (take cut rows))
    ≡ start + length (row.text ++ texts (take cut rows)) =
    omega (arith, length-append row.text (texts (take cut rows))) in
    ap (λ others. (start + length row.text) ∷ others)
    (ends-cut (start + length row.text) rows cut
    ∙ ap (λ at. ends (start + length row.text) (take cut rows) ++ ends at (drop cut rows)) same)
