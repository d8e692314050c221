-- The characters that the forms of amounts have.
use Rattle.std.proofs.Common.{◌≡◌, ℕ, Bool, true, List, [], ◌∷◌, map, Some, refl}
use Rattle.std.specs.List.{list_all}
use Rattle.cn_core.proofs.Fronts.{both}
use Rattle.cn_grammar.proofs.Characters.{character-passes}
use Rattle.cn_amount.specs.declared.capital.Capital.{Capital}
use Rattle.cn_amount.specs.Form.{amount_form}
use Rattle.cn_amount.specs.Reading.{capital_of, capital_rows, capitals_of, IsAmount}

-- each character that is read passes this test
abbrev pub IsPassed : (ℕ → Bool) → Type 0
IsPassed test = list_all (λ row. list_all test row.0) capital_rows ≡ true

read-passes : (test : ℕ → Bool) → IsPassed test → (c : ℕ) (capital : Capital)
    → capital_of c ≡ Some capital → test c ≡ true
unfolding capital_of
read-passes test all c capital e = character-passes test capital_rows c capital all e

all-pass : (test : ℕ → Bool) → IsPassed test → (text : List ℕ) (capitals : List Capital)
    → capitals_of text ≡ map Some capitals → list_all test text ≡ true
all-pass test all [] capitals e = refl
all-pass test all (c ∷ text) [] e = absurd (cc)
all-pass test all (c ∷ text) (capital ∷ capitals) e =
    let first : capital_of c ≡ Some capital = cc in
    let rest : capitals_of text ≡ map Some capitals = cc in
    both (test c) _ (read-passes test all c capital first) (all-pass test all text capitals rest)

pub amount-passes : (test : ℕ → Bool) → IsPassed test → (text : List ℕ) (fen : ℕ)
    → IsAmount text fen → list_all test text ≡ true
amount-passes test all text fen h =
    all-pass test all text (amount_form h.choices h.places) h.form
