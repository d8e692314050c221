-- The answer to a text, given which texts are forms, and of which value.
use Rattle.std.specs.Prelude.{ℕ, ◌+◌, ◌<◌, List, ◌++◌, length, take, Result, Ok, Err}
use Rattle.cn_grammar.specs.declared.refusal.Refusal.{Refusal}
use Rattle.cn_grammar.specs.declared.refusal.Refusal.TheVariants.{Unfinished, Incorrect}

-- a form can begin with these characters
abbrev pub Begins : {A : Type 0} → (List ℕ → A → Type 0) → List ℕ → Type 0
Begins {A} IsForm text = (behind : List ℕ) × (value : A) × IsForm (text ++ behind) value

-- `answer` is the answer to a text
abbrev pub Answers : {A : Type 0} → (List ℕ → A → Type 0) → List ℕ → Result A Refusal → Type 0
Answers IsForm text (Ok value) = IsForm text value
Answers {A} IsForm text (Err Unfinished) =
    Begins IsForm text × ((value : A) → ¬ IsForm text value)
Answers IsForm text (Err (Incorrect place)) =
    (place < length text) × Begins IsForm (take place text)
    × ¬ Begins IsForm (take (place + 1) text)
