-- Texts of characters that are written one after the other.
use Rattle.std.proofs.Common.{◌≡◌, ℕ, List, [], ◌++◌, encode_utf8_all, refl, sym, ap, subst, ◌∙◌, append-nil, append_assoc}
use Rattle.std.proofs.lemmas.Str.{encodes-append}

-- a text is written in pieces: these are written, and the rest remains
pub record SaidSoFar {S : Type 0} (took : S → S → List ℕ → Type 0) (whole left : List ℕ)
    (old now : S) : Type 0 where
  pub done : List ℕ
  pub took_done : took old now (encode_utf8_all done)
  pub parts : whole ≡ done ++ left

module _ {S : Type 0} (took : S → S → List ℕ → Type 0)
    (both : (old mid new : S) (first second : List ℕ) → took old mid first → took mid new second
    → took old new (first ++ second)) where
  -- two texts
  pub said-both : (old mid new : S) (first second : List ℕ) → took old mid (encode_utf8_all first)
      → took mid new (encode_utf8_all second) → took old new (encode_utf8_all (first ++ second))
  said-both old mid new first second p q =
      subst (took old new) (sym (encodes-append first second))
      (both old mid new (encode_utf8_all first) (encode_utf8_all second) p q)

  -- three texts
  pub said-three : (old mid next new : S) (first second third : List ℕ)
      → took old mid (encode_utf8_all first) → took mid next (encode_utf8_all second)
      → took next new (encode_utf8_all third)
      → took old new (encode_utf8_all (first ++ (second ++ third)))
  said-three old mid next new first second third p q r =
      said-both old mid new first (second ++ third) p (said-both mid next new second third q r)

  pub so_far-none : (whole : List ℕ) (old : S) → took old old []
      → SaidSoFar took whole whole old old
  so_far-none whole old none = record { done = []; took_done = none; parts = refl }

  pub so_far-more : (whole left next piece : List ℕ) (old now new : S)
      → SaidSoFar took whole left old now → left ≡ piece ++ next
      → took now new (encode_utf8_all piece) → SaidSoFar took whole next old new
  so_far-more whole left next piece old now new p e put = record {
    done = p.done ++ piece;
    took_done = said-both old now new p.done piece p.took_done put;
    parts = p.parts ∙ ap (λ l. p.done ++ l) e ∙ sym (append_assoc p.done piece next);
  }

  pub so_far-all : (whole left : List ℕ) (old now : S) → SaidSoFar took whole left old now
      → left ≡ [] → took old now (encode_utf8_all whole)
  so_far-all whole left old now p e = subst (took old now)
      (ap encode_utf8_all (sym (p.parts ∙ ap (λ l. p.done ++ l) e ∙ append-nil p.done))) p.took_done
