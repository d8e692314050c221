-- Reading from left to right: the state after each character.
use Rattle.std.specs.Prelude.{◌≡◌, ℕ, List, [], ◌∷◌, Option, Some, None}
use Rattle.cn_grammar.specs.Answers.{Begins}

-- the state after a text; none if a step gives no state
abbrev pub run : {S C : Type 0} → (S → C → Option S) → S → List C → Option S
run step state [] = Some state
run step state (c ∷ rest) = elim (step state c) [ None ↦ None | Some next ↦ run step next rest ]

-- the states of a grammar: the first state, the next state after a character, and the value if a
-- form may end at a state
pub record Machine (S A : Type 0) : Type 0 where
  pub begin : S
  pub step : S → ℕ → Option S
  pub end : S → Option A

-- a text leads to this state
abbrev pub Leads : {S A : Type 0} → Machine S A → List ℕ → S → Type 0
Leads machine text state = run machine.step machine.begin text ≡ Some state

-- some text leads to this state
abbrev pub Reached : {S A : Type 0} → Machine S A → S → Type 0
Reached machine state = (start : List ℕ) × Leads machine start state

-- the states read the forms: each form is read to its end, nothing else is, and a text that is read
-- so far begins a form
pub record Reads {S A : Type 0} (IsForm : List ℕ → A → Type 0) (machine : Machine S A)
    : Type 0 where
  pub each : (text : List ℕ) (value : A) → IsForm text value
      → (state : S) × Leads machine text state × (machine.end state ≡ Some value)
  pub only : (text : List ℕ) (state : S) (value : A) → Leads machine text state
      → machine.end state ≡ Some value → IsForm text value
  pub begins : (text : List ℕ) (state : S) → Leads machine text state → Begins IsForm text

-- the state after a character, given what it is read as; none if it is not read
abbrev pub step_as : {S C : Type 0} → (S → C → Option S) → S → Option C → Option S
step_as step state None = None
step_as step state (Some c) = step state c
