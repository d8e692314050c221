-- One change of a text that is not a form, given which texts are forms, and of which value.
use Rattle.std.specs.Prelude.{◌≡◌, ℕ, ◌+◌, ◌<◌, ◌≤◌, ◌==◌, List, ◌∷◌, ◌++◌, length, take, drop, if◌then◌else◌}
use Rattle.cn_grammar.specs.declared.hint.Hint.{Hint}
use Rattle.cn_grammar.specs.declared.hint.Repair.{Repair}
use Rattle.cn_grammar.specs.declared.hint.Repair.TheVariants.{Insert, Replace, Delete}
use Rattle.cn_grammar.specs.Answers.{Begins}
use Rattle.cn_grammar.specs.Expected.{BeginsUpTo}

-- the text from the place of a change on, after the change
abbrev pub changed : Repair → List ℕ → List ℕ
changed (Insert c) rest = c ∷ rest
changed (Replace c) rest = c ∷ drop 1 rest
changed Delete rest = drop 1 rest

-- a text after the change
abbrev pub repaired : Hint → List ℕ → List ℕ
repaired hint text =
    take hint.char_index text ++ changed hint.repair (drop hint.char_index text)

-- the text has the place of the change: a character that is replaced or deleted is there
abbrev pub HasPlace : Hint → List ℕ → Type 0
HasPlace hint text = elim hint.repair [
  | Insert c ↦ hint.char_index ≤ length text
  | Replace c ↦ hint.char_index < length text
  | Delete ↦ hint.char_index < length text
]

-- how many characters of the changed text come before those that follow the fault; if the fault
-- itself is deleted, the first of those is counted too
abbrev pub past : ℕ → Hint → ℕ
past fault hint = elim hint.repair [
  | Insert c ↦ fault + 2
  | Replace c ↦ fault + 1
  | Delete ↦ (if hint.char_index == fault then fault + 1 else fault)
]

-- the change is a repair of a text that is not a form: at the fault, where the text no longer
-- begins a form, or before it; after the change the text begins a form past the fault, and a text
-- that only ends too soon is a form
pub record IsRepair {A : Type 0} (IsForm : List ℕ → A → Type 0) (text : List ℕ) (hint : Hint)
    : Type 0 where
  pub fault : ℕ
  pub up_to : BeginsUpTo IsForm text fault
  pub no_form : (value : A) → ¬ IsForm text value
  pub place : hint.char_index ≤ fault
  pub has_place : HasPlace hint text
  pub goes_on : Begins IsForm (take (past fault hint) (repaired hint text))
  pub ends : fault ≡ length text → (value : A) × IsForm (repaired hint text) value
