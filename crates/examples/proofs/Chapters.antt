-- The chapters that a search has passed.
use Rattle.std.proofs.Common.{◌≡◌, ℕ, ◌⊎◌, inl, inr, Bool, true, false, ◌&&◌, List, [], ◌∷◌, zero, suc, sym, subst, arith, refl}
use Rattle.std.specs.Prelude.{Err}
use Rattle.std.specs.List.{Contains}
use Rattle.std.proofs.lemmas.List.Elements.{Contains-append_cases, Contains-append_right}
use Rattle.chinese_number.specs.Refusal.{Refusal}
use Rattle.chinese_number.specs.Spans.{Span, spans}
use Rattle.chinese_number.specs.declared.Unit.TheVariants.{Zhao}
use Rattle.chinese_number.specs.declared.Wanted.{Wanted}
use Rattle.examples.specs.Chapters.{names_chapter, IsAnswered, IsChapter, NoChapter}

abbrev pub everyday : Wanted
everyday = record { upper = false; greatest = Zhao }

-- the numbers of the line that are left; each chapter of the line is among them or was refused
pub record Passed (line : List ℕ) (left : List Span) : Type 0 where
  pub within : (span : Span) → Contains left span → Contains (spans everyday line) span
  pub still : (span : Span) → IsChapter everyday line span
      → Contains left span ⊎ ((refusal : Refusal) × IsAnswered span (Err refusal))

pub Passed-none : (line : List ℕ) → Passed line (spans everyday line)
Passed-none line = record { within = λ span is. is; still = λ span is. inl is.0 }

only : (one span : Span) → Contains (one ∷ []) span → one ≡ span
only one span (zero, low, e) = e
only one span (suc k, low, e) = absurd (omega (arith, low))

pub first-within : (line : List ℕ) (one : Span) (left : List Span) → Passed line (one ∷ left)
    → Contains (spans everyday line) one
first-within line one left passed = passed.within one (0, omega arith, refl)

pub Passed-more : (line : List ℕ) (one : Span) (left : List Span) → Passed line (one ∷ left)
    → (names_chapter one ≡ true → (refusal : Refusal) × IsAnswered one (Err refusal))
    → Passed line left
Passed-more line one left passed refused = record {
  within = λ span later. passed.within span (Contains-append_right (one ∷ []) left span later);
  still = λ span is. by span is (passed.still span is);
} where
  here : (span : Span) → IsChapter everyday line span
      → Contains (one ∷ []) span ⊎ Contains left span
      → Contains left span ⊎ ((refusal : Refusal) × IsAnswered span (Err refusal))
  here span is (inl is_one) =
      let same = only one span is_one in
      inr (subst (λ it. (refusal : Refusal) × IsAnswered it (Err refusal)) same
      (refused (subst (λ it. names_chapter it ≡ true) (sym same) is.1)))
  here span is (inr later) = inl later

  by : (span : Span) → IsChapter everyday line span
      → Contains (one ∷ left) span ⊎ ((refusal : Refusal) × IsAnswered span (Err refusal))
      → Contains left span ⊎ ((refusal : Refusal) × IsAnswered span (Err refusal))
  by span is (inl among) = here span is (Contains-append_cases (one ∷ []) left span among)
  by span is (inr refusal) = inr refusal

none : {A : Type 0} → (span : Span) → Contains [] span ⊎ A → A
none span (inl (k, low, e)) = absurd (omega (arith, low))
none span (inr a) = a

pub Passed-all : (line : List ℕ) → Passed line [] → NoChapter everyday line
Passed-all line passed = λ span is. none span (passed.still span is)

-- both tests hold, whether or not the second was made
pub both : (one two first second : Bool) → one ≡ true → one ≡ first → two ≡ second
    → two ≡ (first && second)
both one two true second h e k = k
both one two false second h e k = absurd cc

pub neither : (one first second : Bool) → one ≡ false → one ≡ first → one ≡ (first && second)
neither one true second h e = absurd cc
neither one false second h e = h
