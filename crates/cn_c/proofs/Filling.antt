-- Steps of a loop that fills an array with values from a list; and nothing is found at the end of a
-- text.
use Rattle.std.proofs.Common.{◌≡◌, ℕ, ◌+◌, ◌<◌, ◌≤◌, List, [], ◌∷◌, ◌++◌, length, map, take, drop, set, refl, sym, ap, arith, add-one, zero, suc, subst, ◌∙◌}
use Rattle.std.proofs.Math.Seq.{drop-length, take-nil}
use Rattle.std.proofs.lemmas.Str.{IsCharBoundary-end}
use Rattle.cn_find.specs.Spans.{left_by}
use Rattle.cn_find.proofs.Runs.{none_left}
use Rattle.cn_c.specs.declared.finding.Span.{Span}
use Rattle.cn_c.specs.Codes.{CN_DONE}
use Rattle.cn_c.specs.Finds.{Fills, FindsFrom, Search, span_told, spans_told}

-- if a value is left, it is written after those that were
filled-suc : {A B : Type 0} (f : A → B) (n : ℕ) (all rest : List A) (old : List B) (x : A)
    → drop n all ≡ x ∷ rest → n < length old
    → set (map f (take n all) ++ drop n old) n (f x)
    ≡ map f (take (suc n) all) ++ drop (suc n) old
filled-suc f zero [] rest old x e l = cc
filled-suc f zero (a ∷ all) rest [] x e l = absurd (omega (arith, l))
filled-suc f zero (a ∷ all) rest (b ∷ old) x e l =
    let same : a ≡ x = cc in ap (λ y. f y ∷ old) (sym same)
filled-suc f (suc n) [] rest old x e l = cc
filled-suc f (suc n) (a ∷ all) rest [] x e l = absurd (omega (arith, l))
filled-suc f (suc n) (a ∷ all) rest (b ∷ old) x e l =
    ap (λ ys. f a ∷ ys) (filled-suc f n all rest old x e (omega (arith, l)))

pub filled : {A B : Type 0} (f : A → B) (n : ℕ) (all rest : List A) (old : List B) (x : A)
    → drop n all ≡ x ∷ rest → n < length old
    → set (map f (take n all) ++ drop n old) n (f x)
    ≡ map f (take (n + 1) all) ++ drop (n + 1) old
filled f n all rest old x e l = rw add-one (filled-suc f n all rest old x e l)

left-suc : {A : Type 0} (n : ℕ) (all rest : List A) (x : A) → drop n all ≡ x ∷ rest
    → drop (suc n) all ≡ rest
left-suc zero [] rest x e = cc
left-suc zero (a ∷ all) rest x e = cc
left-suc (suc n) [] rest x e = cc
left-suc (suc n) (a ∷ all) rest x e = left-suc n all rest x e

pub left : {A : Type 0} (n : ℕ) (all rest : List A) (x : A) → drop n all ≡ x ∷ rest
    → drop (n + 1) all ≡ rest
left n all rest x e = rw add-one (left-suc n all rest x e)

-- a value that is left is one of the list
pub within : {A : Type 0} (n : ℕ) (all rest : List A) (x : A) → drop n all ≡ x ∷ rest
    → n + 1 ≤ length all
within zero [] rest x e = cc
within zero (a ∷ all) rest x e = omega arith
within (suc n) [] rest x e = cc
within (suc n) (a ∷ all) rest x e = omega (arith, within n all rest x e)

-- if no value is left, taking the most that there may be takes all of them
pub taken : {A : Type 0} (n most : ℕ) (all : List A) → drop n all ≡ [] → n ≤ most
    → take most all ≡ take n all
taken zero zero [] e l = refl
taken zero (suc most) [] e l = refl
taken (suc n) zero [] e l = refl
taken (suc n) (suc most) [] e l = refl
taken zero most (a ∷ all) e l = cc
taken (suc n) zero (a ∷ all) e l = absurd (omega (arith, l))
taken (suc n) (suc most) (a ∷ all) e l =
    ap (λ xs. a ∷ xs) (taken n most all e (omega (arith, l)))

-- at the end of a text no run is left
nothing-told : (search : Search) (text : List ℕ) (most : ℕ)
    → spans_told search text (length text) most ≡ []
nothing-told search text most =
    ap (λ runs. map (span_told search.doubt) (take most runs))
    (ap (left_by search.rule text) (drop-length text) ∙ none_left search.rule text)
    ∙ ap (map (span_told search.doubt)) (take-nil most)

pub nothing-found : (search : Search) (text : List ℕ) (old : List Span)
    → FindsFrom search text (length text) old CN_DONE old 0
nothing-found search text old = record {
  found = λ at. (
    refl,
    subst (λ told. Fills told old old 0) (sym (nothing-told search text (length old))) (refl, refl),
  );
  none = λ none. absurd (none (IsCharBoundary-end text));
}
