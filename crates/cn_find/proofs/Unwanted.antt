-- The characters that part a text into numbers.
use Rattle.std.proofs.Common.{◌≡◌, ℕ, Bool, true, false, ◌||◌, ◌==◌, List, [], ◌∷◌, ◌++◌, codes, arith, refl, sym, ap, ◌∙◌}
use Rattle.std.specs.Char.{char_set_contains}
use Rattle.std.specs.List.{list_all}
use Rattle.std.proofs.lemmas.Bool.Decides.{nat_tests}
use Rattle.std.proofs.Math.Bool.{and-false}
use Rattle.cn_core.specs.Mark.{mark_of}
use Rattle.cn_core.proofs.Fronts.{and-left, and-right}
use Rattle.cn_find.specs.declared.wanted.Wanted.{Wanted}
use Rattle.cn_find.specs.Belongs.{begins_measure, belongs, counts_next, is_great, is_numeral, is_wanted}
use Rattle.cn_find.specs.Parting.{is_of_measure}
use Rattle.cn_find.specs.Rule.{number_rule}
use Rattle.cn_find.proofs.Parting.{Parts}

-- the character is not wanted, and `begins_measure` does not test for it
pub record IsUnseen (wanted : Wanted) (c : ℕ) : Type 0 where
  pub unwanted : is_wanted wanted c ≡ false
  pub unmeasured : is_of_measure c ≡ false

-- each character of a set passes a test that all of them pass
pub inside : (test : ℕ → Bool) (set : List ℕ) (c : ℕ) → list_all test set ≡ true
    → char_set_contains set c ≡ true → test c ≡ true
inside test [] c within has = cc
inside test (d ∷ set) c within has =
    by (d == c) refl has (inside test set c (and-right (test d) _ within)) where
      by : (b : Bool) → (d == c) ≡ b → (b || char_set_contains set c) ≡ true
          → (char_set_contains set c ≡ true → test c ≡ true) → test c ≡ true
      by true e has others =
          let same : d ≡ c = grind (arith, nat_tests, e) in
          ap test (sym same) ∙ and-left (test d) _ within
      by false e has others = others has

-- a character that fails the test is not in the set
pub outside : (test : ℕ → Bool) (set : List ℕ) (c : ℕ) → list_all test set ≡ true → test c ≡ false
    → char_set_contains set c ≡ false
outside test set c within none = by (char_set_contains set c) refl where
  by : (b : Bool) → char_set_contains set c ≡ b → char_set_contains set c ≡ false
  by true e = let no : true ≡ false = sym (inside test set c within e) ∙ none in cc
  by false e = e

no-measure : (wanted : Wanted) (c : ℕ) (right : List ℕ) → IsUnseen wanted c
    → begins_measure (c ∷ right) ≡ false
unfolding begins_measure is_of_measure
no-measure wanted c right e = rw (
  outside is_of_measure (codes "瓦赫帕焦伏乏") c refl e.unmeasured,
  outside is_of_measure (codes "字") c refl e.unmeasured,
  outside is_of_measure (codes "比") c refl e.unmeasured,
  outside is_of_measure (codes "电電") c refl e.unmeasured,
  outside is_of_measure (codes "宽寬") c refl e.unmeasured,
  outside is_of_measure (codes "带帶頻") c refl e.unmeasured,
  outside is_of_measure (codes "位") c refl e.unmeasured,
  outside is_of_measure (codes "欧歐") c refl e.unmeasured,
)

measure-same : (wanted : Wanted) (c : ℕ) (right xs : List ℕ) → IsUnseen wanted c
    → begins_measure (xs ++ c ∷ right) ≡ begins_measure xs
unfolding begins_measure is_of_measure
measure-same wanted c right [] e = no-measure wanted c right e
measure-same wanted c right (x ∷ []) e = rw (
  outside is_of_measure (codes "节節") c refl e.unmeasured,
  outside is_of_measure (codes "特") c refl e.unmeasured,
  outside is_of_measure (codes "子") c refl e.unmeasured,
  outside is_of_measure (codes "带帶頻") c refl e.unmeasured,
  outside is_of_measure (codes "宽寬") c refl e.unmeasured,
  outside is_of_measure (codes "数數") c refl e.unmeasured,
  outside is_of_measure (codes "元") c refl e.unmeasured,
)
measure-same wanted c right (x ∷ y ∷ xs) e = refl

-- a character that is not wanted belongs to no number
pub unwanted : (wanted : Wanted) (c : ℕ) (after : List ℕ) → IsUnseen wanted c
    → belongs wanted c after ≡ false
unfolding belongs
unwanted wanted c after e = rw e.unwanted

-- a character before it is the same to numbers, whatever is after it
numeral-same : (wanted : Wanted) (d c : ℕ) (right xs : List ℕ) → IsUnseen wanted c
    → is_numeral wanted d (xs ++ c ∷ right) ≡ is_numeral wanted d xs
numeral-same wanted d c right xs e =
    rw (measure-same wanted c right xs e)

counts-same : (wanted : Wanted) (c : ℕ) (right xs : List ℕ) → IsUnseen wanted c
    → counts_next wanted (xs ++ c ∷ right) ≡ counts_next wanted xs
counts-same wanted c right [] e =
    rw e.unwanted (and-false (is_great (mark_of c)))
counts-same wanted c right (x ∷ xs) e =
    rw (numeral-same wanted x c right xs e)

pub belongs-same : (wanted : Wanted) (d c : ℕ) (right xs : List ℕ) → IsUnseen wanted c
    → belongs wanted d (xs ++ c ∷ right) ≡ belongs wanted d xs
unfolding belongs
belongs-same wanted d c right xs e =
    rw (numeral-same wanted d c right xs e, counts-same wanted c right xs e)

pub unwanted-parts : (wanted : Wanted) (c : ℕ) → is_wanted wanted c ≡ false
    → is_of_measure c ≡ false → Parts (number_rule wanted) c
unwanted-parts wanted c not_wanted unmeasured = record {
  outside = λ front after. unwanted wanted c after e;
  ends = λ front d xs right. belongs-same wanted d c right xs e;
  begins = λ front left d after. refl;
} where
  e : IsUnseen wanted c
  e = record { unwanted = not_wanted; unmeasured = unmeasured }
