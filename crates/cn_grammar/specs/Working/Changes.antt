-- Reading a text after one change.
use Rattle.std.specs.Prelude.{◌≡◌, ℕ, ◌+◌, ◌<◌, ◌≤◌, ◌==◌, ◌⊎◌, nat_lt, Bool, true, false, not, ◌&&◌, ◌||◌, List, [], ◌∷◌, ◌++◌, length, take, drop, All, Option, Some, None, IfSome, MatchOption}
use Rattle.std.specs.List.{list_any}
use Rattle.cn_grammar.specs.declared.hint.Hint.{Hint}
use Rattle.cn_grammar.specs.declared.hint.Repair.{Repair}
use Rattle.cn_grammar.specs.declared.hint.Repair.TheVariants.{Insert, Replace, Delete}
use Rattle.cn_grammar.specs.Answers.{Begins}
use Rattle.cn_grammar.specs.Machine.{Machine}
use Rattle.cn_grammar.specs.Repairs.{changed, repaired, past, HasPlace}
use Rattle.cn_grammar.specs.Working.ReadOn.{HasRead, Stops}

-- how many characters a change writes
abbrev pub added : Repair → ℕ
added (Insert c) = 1
added (Replace c) = 1
added Delete = 0

-- the text from the place on has the character that is changed
abbrev pub HasChanged : Repair → List ℕ → Type 0
HasChanged (Insert c) rest = Unit {0}
HasChanged (Replace c) rest = 0 < length rest
HasChanged Delete rest = 0 < length rest

-- from a state on, what a change writes is read
pub record ReadsChange {S A : Type 0} (machine : Machine S A) (state : S) (rest : List ℕ)
    (repair : Repair) (next : S) (after : List ℕ) : Type 0 where
  pub has : HasRead machine state (changed repair rest) next (added repair) after
  pub changed : HasChanged repair rest

-- the character that is changed is missing, or the machine does not read what the change writes
abbrev pub IsRefused : {S A : Type 0} → Machine S A → S → List ℕ → Repair → Type 0
IsRefused machine state rest (Insert c) = machine.step state c ≡ None
IsRefused machine state rest (Replace c) = (rest ≡ []) ⊎ (machine.step state c ≡ None)
IsRefused machine state rest Delete = rest ≡ []

-- so many characters of a text after a change are read, and no form continues with the next one
pub record ReadsRepaired {S A : Type 0} (machine : Machine S A) (text : List ℕ) (hint : Hint)
    (state : S) (count : ℕ) (rest : List ℕ) : Type 0 where
  pub has : HasRead machine machine.begin (repaired hint text) state count rest
  pub stops : Stops machine state rest
  pub has_place : HasPlace hint text

-- the change has no place in the text, or no form begins with the text up to what it writes
abbrev pub Fails : {A : Type 0} → (List ℕ → A → Type 0) → List ℕ → Hint → Type 0
Fails IsForm text hint =
    ¬ (HasPlace hint text
    × Begins IsForm (take (hint.char_index + added hint.repair) (repaired hint text)))

-- a text begins with one of some characters
abbrev pub begins_with : List ℕ → List ℕ → Bool
begins_with characters [] = false
begins_with characters (c ∷ rest) = list_any (λ known. known == c) characters

-- so many characters of a text are read that it goes on past a place: if it stops right there, then
-- not at one of some characters
abbrev pub goes_on : List ℕ → ℕ → ℕ → List ℕ → Bool
goes_on characters count past rest =
    nat_lt past count || count == past && not (begins_with characters rest)

-- a change takes a text past its fault, and makes a text that only ends too soon a form; if no more
-- is read then, the next character is none of some characters
pub record Works {A : Type 0} (IsForm : List ℕ → A → Type 0) (characters text : List ℕ) (fault : ℕ)
    (ends : Bool) (hint : Hint) : Type 0 where
  pub place : hint.char_index ≤ fault
  pub has_place : HasPlace hint text
  pub goes_on : Begins IsForm (take (past fault hint) (repaired hint text))
  pub form : ends ≡ true → (value : A) × IsForm (repaired hint text) value
  pub moves : ends ≡ false → past fault hint < length (repaired hint text)
      → ¬ Begins IsForm (take (past fault hint + 1) (repaired hint text))
      → begins_with characters (drop (past fault hint) (repaired hint text)) ≡ false

-- the first of some changes that has a property, if one has it
abbrev pub IsFirst : (Hint → Type 0) → List (Option Hint) → Option Hint → Type 0
IsFirst Has hints first =
    MatchOption first (All (λ hint. IfSome hint (λ h. ¬ Has h)) hints)
    (λ found. Has found × ((before behind : List (Option Hint))
    × (hints ≡ before ++ Some found ∷ behind)
    × All (λ hint. IfSome hint (λ h. ¬ Has h)) before))
