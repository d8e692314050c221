-- Capitals, the characters that write them, and the characters that are read as them.
use Rattle.std.proofs.Common.{◌≡◌, ℕ, zero, suc, ◌*◌, ◌<◌, Bool, true, false, ◌&&◌, ◌||◌, ◌==◌, List, [], ◌∷◌, map, length, Option, Some, encode_utf8_all, refl, ap₂, subst, if◌then◌else◌, length-append, arith}
use Rattle.std.specs.Char.{char_set_contains, encode_utf8}
use Rattle.std.specs.List.{list_all}
use Rattle.std.specs.Str.{all_scalars}
use Rattle.std.proofs.Math.Decide.{dec_lt}
use Rattle.std.proofs.Math.Utf8.{scalar}
use Rattle.std.proofs.lemmas.Bool.Decides.{nat_tests}
use Rattle.cn_core.proofs.Fronts.{and-left, and-right, both}
use Rattle.cn_grammar.specs.Characters.{first_with}

-- the statement holds for each number below another, one by one
abbrev pub AllBelow : (ℕ → Type 0) → ℕ → Type 0
AllBelow P zero = Unit {0}
AllBelow P (suc n) = P n × AllBelow P n

pub all-at : (P : ℕ → Type 0) (n k : ℕ) → AllBelow P n → k < n → P k
all-at P zero k h low = absurd (omega (arith, low))
all-at P (suc n) k h low = elim (dec_lt k n) [
  | yes less ↦ all-at P n k h.1 less
  | no last ↦ let e : n ≡ k = omega (arith, low, last) in subst P e h.0
]

-- each number below another passes the test
abbrev pub each_below : (ℕ → Bool) → ℕ → Bool
each_below test zero = true
each_below test (suc n) = test n && each_below test n

pub each_below-at : (test : ℕ → Bool) (n k : ℕ) → each_below test n ≡ true → k < n → test k ≡ true
each_below-at test zero k h low = absurd (omega (arith, low))
each_below-at test (suc n) k h low = elim (dec_lt k n) [
  | yes less ↦ each_below-at test n k (and-right (test n) _ h) less
  | no last ↦ let e : k ≡ n = omega (arith, low, last) in rw e (and-left (test n) _ h)
]

-- what a character is read as passes each test that all rows pass
pub read-passes : {C : Type 0} (test : C → Bool) (rows : List (List ℕ × C)) (c : ℕ) (found : C)
    → list_all (λ row. test row.1) rows ≡ true → first_with rows c ≡ Some found
    → test found ≡ true
read-passes test [] c found h e = cc
read-passes {C} test (row ∷ rows) c found h e =
    by (char_set_contains row.0 c) e (λ e. read-passes test rows c found
    (and-right (test row.1) _ h) e) where
      by : (b : Bool) → (if b then Some row.1 else first_with rows c) ≡ Some found
          → (first_with rows c ≡ Some found → test found ≡ true) → test found ≡ true
      by true e ih = let same : row.1 ≡ found = cc in subst (λ c. test c ≡ true) same
          (and-left (test row.1) _ h)
      by false e ih = ih e

in-set : (test : ℕ → Bool) (set : List ℕ) (c : ℕ) → list_all test set ≡ true
    → char_set_contains set c ≡ true → test c ≡ true
in-set test [] c h e = absurd (cc)
in-set test (first ∷ set) c h e =
    by (first == c) refl e (in-set test set c (and-right (test first) _ h)) where
      by : (b : Bool) → (first == c) ≡ b
          → (b || char_set_contains set c) ≡ true
          → (char_set_contains set c ≡ true → test c ≡ true) → test c ≡ true
      by true is e ih = let same : first ≡ c = grind (arith, nat_tests) in
          subst (λ c. test c ≡ true) same (and-left (test first) _ h)
      by false is e ih = ih e

-- a character that is read passes each test that all characters of the rows pass
pub character-passes : {C : Type 0} (test : ℕ → Bool) (rows : List (List ℕ × C)) (c : ℕ) (found : C)
    → list_all (λ row. list_all test row.0) rows ≡ true → first_with rows c ≡ Some found
    → test c ≡ true
character-passes test [] c found h e = absurd (cc)
character-passes {C} test (row ∷ rows) c found h e =
    by (char_set_contains row.0 c) refl e
    (λ e. character-passes test rows c found (and-right (list_all test row.0) _ h) e) where
      by : (b : Bool) → char_set_contains row.0 c ≡ b
          → (if b then Some row.1 else first_with rows c) ≡ Some found
          → (first_with rows c ≡ Some found → test c ≡ true) → test c ≡ true
      by true is e ih = in-set test row.0 c (and-left (list_all test row.0) _ h) is
      by false is e ih = ih e

-- a capital is written as a character of three bytes, which is read as that capital
abbrev pub IsWrittenBack : {C : Type 0} → (ℕ → Option C) → (C → ℕ) → C → Type 0
IsWrittenBack read char capital =
    (read (char capital) ≡ Some capital) × (scalar (char capital) ≡ true)
    × (length (encode_utf8 (char capital)) ≡ 3)

-- so the characters of capitals are read as these capitals
pub capitals-read : {C : Type 0} (read : ℕ → Option C) (char : C → ℕ) (test : C → Bool)
    → ((c : C) → test c ≡ true → IsWrittenBack read char c) → (capitals : List C)
    → list_all test capitals ≡ true → map read (map char capitals) ≡ map Some capitals
capitals-read read char test right [] h = refl
capitals-read {C} read char test right (c ∷ rest) h =
    ap₂ (λ (x : Option C) (xs : List (Option C)). x ∷ xs)
    (right c (and-left (test c) _ h)).0
    (capitals-read read char test right rest (and-right (test c) _ h))

pub capitals-scalar : {C : Type 0} (read : ℕ → Option C) (char : C → ℕ) (test : C → Bool)
    → ((c : C) → test c ≡ true → IsWrittenBack read char c) → (capitals : List C)
    → list_all test capitals ≡ true → all_scalars (map char capitals) ≡ true
capitals-scalar read char test right [] h = refl
capitals-scalar read char test right (c ∷ rest) h =
    both (scalar (char c)) _ (right c (and-left (test c) _ h)).1
    (capitals-scalar read char test right rest (and-right (test c) _ h))

pub capitals-three : {C : Type 0} (read : ℕ → Option C) (char : C → ℕ) (test : C → Bool)
    → ((c : C) → test c ≡ true → IsWrittenBack read char c) → (capitals : List C)
    → list_all test capitals ≡ true
    → length (encode_utf8_all (map char capitals)) ≡ 3 * length (map char capitals)
capitals-three read char test right [] h = refl
capitals-three read char test right (c ∷ rest) h =
    let three = (right c (and-left (test c) _ h)).2 in
    let more = capitals-three read char test right rest (and-right (test c) _ h) in
    let sum = length-append (encode_utf8 (char c)) (encode_utf8_all (map char rest)) in
    omega (arith, three, more, sum)
