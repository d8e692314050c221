-- Texts that are written one after the other.
use Rattle.std.proofs.Common.{◌≡◌, ℕ, Bool, true, false, List, [], ◌++◌, Option, Some, None, Result, Ok, Err, refl, sym, ap, subst, ◌∙◌, append-nil, append_assoc}
use Rattle.std.specs.Result.{IfOk}
use Rattle.cn_core.specs.declared.method.ChineseCountMethod.{ChineseCountMethod}
use Rattle.cn_core.specs.Refusal.{Refusal}
use Rattle.cn_quantity_text.specs.Figures.{figures_text}
use Rattle.cn_quantity.specs.declared.quantity.Quantity.{Quantity}
use Rattle.cn_replace.specs.KeptNumbers.{and_text, figures_of_answer, quantity_figures, quantity_of}
use Rattle.cn_replace.specs.Private.{PutsText}

module _ {S : Type 0} (took : S → S → List ℕ → Type 0) where
  -- the first of two texts does not exist
  pub none-first : (old mid new : S) (first second : Option (List ℕ)) (is_there : Bool)
      → is_there ≡ false → PutsText took old mid first is_there
      → PutsText took old new (and_text first second) false
  none-first old mid new None second is_there e put = refl
  none-first old mid new (Some text) second is_there e put = cc

  -- a text that exists
  pub puts-known : (old new : S) (text : Option (List ℕ)) (known : List ℕ) → text ≡ Some known
      → took old new known → PutsText took old new text true
  puts-known old new text known e put =
      subst (λ (each : Option (List ℕ)). PutsText took old new each true) (sym e) (refl, put)

  pub puts-none : (old new : S) (text : Option (List ℕ)) → text ≡ None
      → PutsText took old new text false
  puts-none old new text e =
      subst (λ (each : Option (List ℕ)). PutsText took old new each false) (sym e) refl

module _ {S E : Type 0} (took : S → S → List ℕ → Type 0)
    (both : (old mid new : S) (first second : List ℕ) → took old mid first → took mid new second
    → took old new (first ++ second)) where
  -- one text, and then another that may not exist
  pub and-after : (old mid new : S) (first second : Option (List ℕ)) (is_there : Bool)
      (result : Result Bool E) → is_there ≡ true → PutsText took old mid first is_there
      → IfOk result (PutsText took mid new second)
      → IfOk result (PutsText took old new (and_text first second))
  and-after old mid new first second is_there (Err error) e put more = more
  and-after old mid new None second is_there (Ok value) e put more = cc
  and-after old mid new (Some text) None is_there (Ok value) e put more = more
  and-after old mid new (Some text) (Some next) is_there (Ok value) e put more =
      (more.0, both old mid new text next put.1 more.1)

  -- a piece, and then a text that may not exist
  pub piece-then : (old mid new : S) (piece : List ℕ) (second : Option (List ℕ))
      (result : Result Bool E) → took old mid piece → IfOk result (PutsText took mid new second)
      → IfOk result (PutsText took old new (and_text (Some piece) second))
  piece-then old mid new piece second (Err error) put more = more
  piece-then old mid new piece None (Ok value) put more = more
  piece-then old mid new piece (Some next) (Ok value) put more =
      (more.0, both old mid new piece next put more.1)

module _ {S : Type 0} (took : S → S → List ℕ → Type 0)
    (both : (old mid new : S) (first second : List ℕ) → took old mid first → took mid new second
    → took old new (first ++ second)) where
  -- a text, and then a piece
  pub then-piece : (old mid new : S) (first : Option (List ℕ)) (piece : List ℕ) (is_there : Bool)
      → is_there ≡ true → PutsText took old mid first is_there → took mid new piece
      → PutsText took old new (and_text first (Some piece)) true
  then-piece old mid new None piece is_there e put more = cc
  then-piece old mid new (Some text) piece is_there e put more =
      (refl, both old mid new text piece put.1 more)

-- the figures of a quantity that was read
pub read-some : (method : ChineseCountMethod) (text : List ℕ) (quantity : Quantity)
    → Ok quantity ≡ quantity_of method text
    → quantity_figures method text ≡ Some (figures_text quantity)
unfolding quantity_figures
read-some method text quantity e = ap figures_of_answer (sym e)

pub read-none : (method : ChineseCountMethod) (text : List ℕ) (refusal : Refusal)
    → Err refusal ≡ quantity_of method text → quantity_figures method text ≡ None
unfolding quantity_figures
read-none method text refusal e = ap figures_of_answer (sym e)

-- a text that equals another one
pub if_puts : {S E : Type 0} (took : S → S → List ℕ → Type 0) (old new : S)
    (text other : Option (List ℕ)) (result : Result Bool E) → text ≡ other
    → IfOk result (PutsText took old new text) → IfOk result (PutsText took old new other)
if_puts took old new text other result e put =
    subst (λ (each : Option (List ℕ)). IfOk result (PutsText took old new each)) e put

pub puts : {S : Type 0} (took : S → S → List ℕ → Type 0) (old new : S)
    (text other : Option (List ℕ)) (is_there : Bool) → text ≡ other
    → PutsText took old new text is_there → PutsText took old new other is_there
puts took old new text other is_there e put =
    subst (λ (each : Option (List ℕ)). PutsText took old new each is_there) e put

-- a text is written in pieces: these are written, and the rest remains
pub record PutSoFar {S : Type 0} (took : S → S → List ℕ → Type 0) (whole left : List ℕ)
    (old now : S) : Type 0 where
  pub done : List ℕ
  pub took_done : took old now done
  pub parts : whole ≡ done ++ left

module _ {S : Type 0} (took : S → S → List ℕ → Type 0)
    (both : (old mid new : S) (first second : List ℕ) → took old mid first → took mid new second
    → took old new (first ++ second)) where
  pub so_far-none : (whole : List ℕ) (old : S) → took old old [] → PutSoFar took whole whole old old
  so_far-none whole old none = record { done = []; took_done = none; parts = refl }

  pub so_far-more : (whole left next piece : List ℕ) (old now new : S)
      → PutSoFar took whole left old now → left ≡ piece ++ next → took now new piece
      → PutSoFar took whole next old new
  so_far-more whole left next piece old now new p e put = record {
    done = p.done ++ piece;
    took_done = both old now new p.done piece p.took_done put;
    parts = p.parts ∙ ap (λ l. p.done ++ l) e ∙ sym (append_assoc p.done piece next);
  }

  pub so_far-all : (whole left : List ℕ) (old now : S) → PutSoFar took whole left old now
      → left ≡ [] → took old now whole
  so_far-all whole left old now p e =
      subst (took old now) (sym (p.parts ∙ ap (λ l. p.done ++ l) e ∙ append-nil p.done)) p.took_done
