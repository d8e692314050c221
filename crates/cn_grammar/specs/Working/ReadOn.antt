-- Reading from a state on.
use Rattle.std.specs.Prelude.{◌≡◌, ℕ, ◌<◌, ◌≤◌, List, [], ◌∷◌, ◌++◌, length, Some, None}
use Rattle.cn_grammar.specs.Machine.{run, Machine}

-- the text ends here, or no form continues with its first character
abbrev pub Stops : {S A : Type 0} → Machine S A → S → List ℕ → Type 0
Stops machine state [] = Unit {0}
Stops machine state (c ∷ rest) = machine.step state c ≡ None

-- from a state on `count` characters of a text lead to another state, and `rest` comes after them
pub record HasRead {S A : Type 0} (machine : Machine S A) (first : S) (text : List ℕ) (state : S)
    (count : ℕ) (rest : List ℕ) : Type 0 where
  pub front : List ℕ
  pub is : text ≡ front ++ rest
  pub counts : count ≡ length front
  pub runs : run machine.step first front ≡ Some state

-- so much has been read, and no more than `most` characters; if fewer, no more can be read
pub record IsReadOn {S A : Type 0} (machine : Machine S A) (first : S) (text : List ℕ) (most : ℕ)
    (state : S) (count : ℕ) (rest : List ℕ) : Type 0 where
  pub has : HasRead machine first text state count rest
  pub within : count ≤ most
  pub stops : count < most → Stops machine state rest
