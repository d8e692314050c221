-- A table that has each character at its slot, with what it is read as.
use Rattle.std.proofs.Common.{◌≡◌, ℕ, ◌<◌, ◌==◌, Bool, true, false, List, [], ◌∷◌, length, get_or, refl, sym, ap, ◌∙◌, Option, None, subst, arith, zero, suc, if◌then◌else◌}
use Rattle.std.specs.Char.{char_set_contains}
use Rattle.std.specs.List.{list_all, AllByRecursion}
use Rattle.std.proofs.lemmas.Bool.Decides.{nat_tests}
use Rattle.std.proofs.lemmas.List.{get_or_default}
use Rattle.cn_core.proofs.Fronts.{and-left, and-right}
use Rattle.cn_grammar.specs.Characters.{first_with}

-- each entry says what its character is read as
abbrev pub AreRight : {C : Type 0} → List (List ℕ × C) → List (ℕ × Option C) → Type 0
AreRight rows entries = AllByRecursion (λ entry. first_with rows entry.0 ≡ entry.1) entries

-- the character is at its slot
abbrev pub stands : {C : Type 0} → List (ℕ × Option C) → (ℕ → ℕ) → ℕ → Bool
stands entries slot c = (get_or entries (slot c) (0, None)).0 == c

-- each character of the rows is at its slot
abbrev pub all_stand : {C : Type 0} → List (List ℕ × C) → List (ℕ × Option C) → (ℕ → ℕ) → Bool
all_stand rows entries slot = list_all (λ row. list_all (stands entries slot) row.0) rows

right-at : {C : Type 0} (rows : List (List ℕ × C)) (entries : List (ℕ × Option C)) (i : ℕ)
    (d : ℕ × Option C) → AreRight rows entries → i < length entries
    → first_with rows (get_or entries i d).0 ≡ (get_or entries i d).1
right-at rows [] i d all low = absurd (omega (arith, low))
right-at rows (entry ∷ entries) zero d all low = all.0
right-at rows (entry ∷ entries) (suc i) d all low = right-at rows entries i d all.1 (omega (arith, low))

pub none-in : (is : ℕ → Bool) (c : ℕ) (cs : List ℕ) → list_all is cs ≡ true → is c ≡ false
    → char_set_contains cs c ≡ false
none-in is c [] all other = refl
none-in is c (first ∷ cs) all other =
    by (first == c) refl (none-in is c cs (and-right (is first) _ all) other) where
      by : (b : Bool) → (first == c) ≡ b → char_set_contains cs c ≡ false
          → char_set_contains (first ∷ cs) c ≡ false
      by true e ih =
          let same : first ≡ c = grind (arith, nat_tests) in
          let yes : is c ≡ true = ap is (sym same) ∙ and-left (is first) _ all in cc
      by false e ih = rw e ih

-- if each character of the rows passes a test, a character that fails it is in no row
pub none-with : {C : Type 0} (is : ℕ → Bool) (c : ℕ) (rows : List (List ℕ × C))
    → list_all (λ row. list_all is row.0) rows ≡ true → is c ≡ false → first_with rows c ≡ None
none-with is c [] all other = refl
none-with is c (row ∷ rows) all other =
    rw (none-in is c row.0 (and-left (list_all is row.0) _ all) other)
    (none-with is c rows (and-right (list_all is row.0) _ all) other)

-- so the entry at the slot of a character says what the character is read as
pub entry-is : {C : Type 0} (rows : List (List ℕ × C)) (entries : List (ℕ × Option C)) (slot : ℕ → ℕ)
    → AreRight rows entries → all_stand rows entries slot ≡ true → (c : ℕ) → slot c < length entries
    → (entry : ℕ × Option C) → entry ≡ get_or entries (slot c) entry
    → (if entry.0 == c then entry.1 else None) ≡ first_with rows c
entry-is {C} rows entries slot right all c low entry at = by (entry.0 == c) refl where
  other : (b : Bool) → stands entries slot c ≡ b → (entry.0 ≡ c → ⊥) → None ≡ first_with rows c
  other true e not =
      let is : (get_or entries (slot c) (0, None)).0 ≡ c = grind (arith, nat_tests) in
      let one : entry ≡ get_or entries (slot c) (0, None) =
      at ∙ get_or_default entries (slot c) entry (0, None) low in
      absurd (not (ap (λ (found : ℕ × Option C). found.0) one ∙ is))
  other false e not = sym (none-with (stands entries slot) c rows all e)

  by : (b : Bool) → (entry.0 == c) ≡ b → (if b then entry.1 else None) ≡ first_with rows c
  by true e =
      let is : entry.0 ≡ c = grind (arith, nat_tests) in
      sym (subst (λ (found : ℕ × Option C). first_with rows found.0 ≡ found.1) (sym at)
      (right-at rows entries (slot c) entry right low)) ∙ ap (first_with rows) is
  by false e = other (stands entries slot c) refl (λ same. absurd (grind (arith, nat_tests)))
