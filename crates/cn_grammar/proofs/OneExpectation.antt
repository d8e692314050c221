-- What may come next in a text is one thing.
use Rattle.std.proofs.Common.{◌≡◌, ℕ, ◌+◌, ◌<◌, ◌≤◌, IsTrue, Bool, true, false, List, [], ◌∷◌, ◌++◌, length, take, Err, refl, sym, subst, arith}
use Rattle.std.proofs.Math.Decide.{dec_lt}
use Rattle.std.proofs.Math.Logic.{◌↔◌, ◌⊎◌, inl, inr}
use Rattle.cn_grammar.specs.declared.expecting.Expected.{Expected}
use Rattle.cn_grammar.specs.Answers.{Begins, Answers}
use Rattle.cn_grammar.specs.Expected.{is_expected, BeginsUpTo, IsExpected}
use Rattle.cn_grammar.specs.declared.refusal.Refusal.TheVariants.{Incorrect}
use Rattle.cn_grammar.proofs.OneAnswer.{earlier}

-- no text begins a form up to two places
not-later : {A : Type 0} (IsForm : List ℕ → A → Type 0) (text : List ℕ) (place later : ℕ)
    → BeginsUpTo IsForm text place → Begins IsForm (take later text) → later ≤ length text
    → place < later → ⊥
not-later {A} IsForm text place later up begins within less = by up.longest where
  by : (place ≡ length text) ⊎ ((place < length text) × ¬ Begins IsForm (take (place + 1) text)) → ⊥
  by (inl whole) = omega (arith, whole, within, less)
  by (inr more) = earlier IsForm text place later less begins more.1

within : {A : Type 0} (IsForm : List ℕ → A → Type 0) (text : List ℕ) (place : ℕ)
    → BeginsUpTo IsForm text place → place ≤ length text
within {A} IsForm text place up = by up.longest where
  by : (place ≡ length text) ⊎ ((place < length text) × ¬ Begins IsForm (take (place + 1) text))
      → place ≤ length text
  by (inl whole) = omega (arith, whole)
  by (inr more) = let less = more.0 in omega (arith, less)

one-place : {A : Type 0} (IsForm : List ℕ → A → Type 0) (text : List ℕ) (p q : ℕ)
    → BeginsUpTo IsForm text p → BeginsUpTo IsForm text q → p ≡ q
one-place IsForm text p q a b = by (dec_lt p q) (dec_lt q p) where
  by : Dec (p < q) → Dec (q < p) → p ≡ q
  by (yes less) d = absurd (not-later IsForm text p q a b.begins (within IsForm text q b) less)
  by (no more) (yes less) =
      absurd (not-later IsForm text q p b a.begins (within IsForm text p a) less)
  by (no more) (no less) = omega (arith, more, less)

-- two tests that hold for the same
same-test : {P : Type 0} (a b : Bool) → (IsTrue a → P) → (P → IsTrue a) → (IsTrue b → P)
    → (P → IsTrue b) → a ≡ b
same-test true b to from to_b from_b = sym (from_b (to refl))
same-test false true to from to_b from_b = from (to_b refl)
same-test false false to from to_b from_b = refl

pub agree : {A : Type 0} (IsForm : List ℕ → A → Type 0) (text : List ℕ) (one two : Expected)
    → IsExpected IsForm text one → IsExpected IsForm text two
    → (one.char_index ≡ two.char_index) × (one.may_end ≡ two.may_end)
    × ((c : ℕ) → is_expected one c ≡ is_expected two c)
agree {A} IsForm text one two a b =
    let place = one-place IsForm text one.char_index two.char_index a.up_to b.up_to in
    let end : IsTrue two.may_end ↔ ((value : A) × IsForm (take one.char_index text) value) =
    subst (λ p. IsTrue two.may_end ↔ ((value : A) × IsForm (take p text) value)) (sym place)
    b.may_end in (
      place,
      same-test one.may_end two.may_end a.may_end.0 a.may_end.1 end.0 end.1,
      λ c.
          let next : Begins IsForm (take one.char_index text ++ c ∷ []) ↔ IsTrue (is_expected two c) =
          subst (λ p. Begins IsForm (take p text ++ c ∷ []) ↔ IsTrue (is_expected two c))
          (sym place) (b.next c) in
          let first = a.next c in
          same-test (is_expected one c) (is_expected two c) first.1 first.0 next.1 next.0,
    )

pub where-refused : {A : Type 0} (IsForm : List ℕ → A → Type 0) (text : List ℕ)
    (expected : Expected) → IsExpected IsForm text expected → (place : ℕ)
    → Answers IsForm text (Err (Incorrect place)) → expected.char_index ≡ place
where-refused IsForm text expected a place refused =
    one-place IsForm text expected.char_index place a.up_to
    (record { begins = refused.1; longest = inr (refused.0, refused.2) })
