-- A text that is read from its first character on.
use Rattle.std.proofs.Common.{◌≡◌, ℕ, nat_lt, Bool, true, false, ◌&&◌, List, [], ◌∷◌, ◌++◌, length, chars, refl, sym, ap, ◌∙◌, append_assoc, append-nil}
use Rattle.std.proofs.lemmas.List.{append_cancel_right}
use Rattle.cn_core.proofs.Fronts.{both}
use Rattle.cn_quantity.specs.Characters.{is_fen, is_zhi}
use Rattle.cn_quantity.specs.Ratio.{after_bar, before_bar, is_fraction}
use Rattle.cn_replace.specs.KeptNumbers.{before_end, end_of, is_end}
use Rattle.cn_replace.specs.Pieces.{after_leading, leading}
use Rattle.cn_replace.specs.Private.{IsEnd}

-- some characters at the start of a text are passed, and the search in the rest is the same
pub record Passing (before after : List ℕ → List ℕ) (text rest : List ℕ) : Type 0 where
  pub front : List ℕ
  pub parts : chars text ≡ front ++ chars rest
  pub before_is : before (chars text) ≡ front ++ before (chars rest)
  pub after_is : after (chars text) ≡ after (chars rest)

pub passing_all : (before after : List ℕ → List ℕ) (text : List ℕ) → Passing before after text text
passing_all before after text =
    record { front = []; parts = refl; before_is = refl; after_is = refl }

pub passing_more : (before after : List ℕ → List ℕ) (text rest others : List ℕ) (c : ℕ)
    → Passing before after text rest → chars rest ≡ c ∷ chars others
    → before (c ∷ chars others) ≡ c ∷ before (chars others)
    → after (c ∷ chars others) ≡ after (chars others) → Passing before after text others
passing_more before after text rest others c p e in_before in_after = record {
  front = p.front ++ c ∷ [];
  parts = p.parts ∙ ap (λ l. p.front ++ l) e
      ∙ sym (append_assoc p.front (c ∷ []) (chars others));
  before_is = p.before_is ∙ ap (λ l. p.front ++ before l) e
      ∙ ap (λ l. p.front ++ l) in_before
      ∙ sym (append_assoc p.front (c ∷ []) (before (chars others)));
  after_is = p.after_is ∙ ap after e ∙ in_after;
}

pub passing_end : {before after : List ℕ → List ℕ} (text rest : List ℕ)
    → Passing before after text rest → IsEnd text rest
passing_end text rest p = record { front = p.front; parts = p.parts }

-- a piece that is the whole text before the rest
pub same_front : (front piece rest : List ℕ) → piece ++ rest ≡ front ++ rest → piece ≡ front
same_front front piece rest e = append_cancel_right piece front rest e

pub passing_before : (before after : List ℕ → List ℕ) (text rest piece : List ℕ)
    → Passing before after text rest → before (chars rest) ≡ []
    → chars text ≡ chars piece ++ chars rest → chars piece ≡ before (chars text)
passing_before before after text rest piece p none parts =
    same_front p.front (chars piece) (chars rest) (sym parts ∙ p.parts)
    ∙ sym (append-nil p.front) ∙ ap (λ l. p.front ++ l) (sym none) ∙ sym p.before_is

-- what passes a test
pub leading_more : (test : ℕ → Bool) (text rest others : List ℕ) (c : ℕ)
    → Passing (leading test) (after_leading test) text rest → chars rest ≡ c ∷ chars others
    → test c ≡ true → Passing (leading test) (after_leading test) text others
leading_more test text rest others c p e passes =
    passing_more (leading test) (after_leading test) text rest others c p e (rw passes refl)
    (rw passes refl)

-- some of a section is passed, and the search for its end goes on
pub record Ending (section rest : List ℕ) : Type 0 where
  pub front : List ℕ
  pub parts : chars section ≡ front ++ chars rest
  pub before_is : before_end [] (chars section) ≡ front ++ before_end front (chars rest)
  pub after_is : end_of [] (chars section) ≡ end_of front (chars rest)

pub ending_all : (section : List ℕ) → Ending section section
ending_all section = record { front = []; parts = refl; before_is = refl; after_is = refl }

pub ending_end : (section rest : List ℕ) → Ending section rest → IsEnd section rest
ending_end section rest p = record { front = p.front; parts = p.parts }

module _ (section rest : List ℕ) (p : Ending section rest) (piece : List ℕ)
    (parts : chars section ≡ chars piece ++ chars rest) where
  piece-front : chars piece ≡ p.front
  piece-front = same_front p.front (chars piece) (chars rest) (sym parts ∙ p.parts)

  pub ending_more : (others : List ℕ) (c : ℕ) → chars rest ≡ c ∷ chars others
      → is_end (chars piece) (chars rest) ≡ false → Ending section others
  ending_more others c e stays = record {
    front = p.front ++ c ∷ [];
    parts = p.parts ∙ ap (λ l. p.front ++ l) e
        ∙ sym (append_assoc p.front (c ∷ []) (chars others));
    before_is = p.before_is ∙ ap (λ l. p.front ++ before_end p.front l) e
        ∙ ap (λ l. p.front ++ l) before-more
        ∙ sym (append_assoc p.front (c ∷ []) (before_end (p.front ++ c ∷ []) (chars others)));
    after_is = p.after_is ∙ ap (end_of p.front) e ∙ after-more;
  } where
    no_end : is_end p.front (c ∷ chars others) ≡ false
    no_end = ap (λ l. is_end l (c ∷ chars others)) (sym piece-front)
        ∙ ap (is_end (chars piece)) (sym e) ∙ stays

    before-more : before_end p.front (c ∷ chars others)
        ≡ c ∷ before_end (p.front ++ c ∷ []) (chars others)
    before-more = rw no_end refl

    after-more : end_of p.front (c ∷ chars others) ≡ end_of (p.front ++ c ∷ []) (chars others)
    after-more = rw no_end refl

  end-here : (front text : List ℕ) → is_end front text ≡ true
      → (before_end front text ≡ []) × (end_of front text ≡ text)
  end-here front [] e = (refl, refl)
  end-here front (c ∷ text) e = (rw e refl, rw e refl)

  pub ending_found : is_end (chars piece) (chars rest) ≡ true
      → (chars piece ≡ before_end [] (chars section)) × (chars rest ≡ end_of [] (chars section))
  ending_found ends =
      let here = end-here p.front (chars rest)
      (ap (λ l. is_end l (chars rest)) (sym piece-front) ∙ ends) in (
        piece-front ∙ sym (append-nil p.front) ∙ ap (λ l. p.front ++ l) (sym here.0)
            ∙ sym p.before_is,
        sym (p.after_is ∙ here.1),
      )

pub ending_none : (section rest : List ℕ) → Ending section rest → chars rest ≡ []
    → (chars section ≡ before_end [] (chars section)) × ([] ≡ end_of [] (chars section))
ending_none section rest p none = (
  p.parts ∙ ap (λ l. p.front ++ l) none
      ∙ sym (p.before_is ∙ ap (λ l. p.front ++ before_end p.front l) none),
  sym (p.after_is ∙ ap (end_of p.front) none),
)

-- a character that does not begin 分之
bar_before : (c : ℕ) (text : List ℕ)
    → ((d : ℕ) (after : List ℕ) → text ≡ d ∷ after → (is_fen c && is_zhi d) ≡ false)
    → before_bar (c ∷ text) ≡ c ∷ before_bar text
bar_before c [] none = rw (none-of (is_fen c)) refl where
  none-of : (b : Bool) → (b && false) ≡ false
  none-of true = refl
  none-of false = refl
bar_before c (d ∷ after) none = rw (none d after refl) refl

bar_after : (c : ℕ) (text : List ℕ)
    → ((d : ℕ) (after : List ℕ) → text ≡ d ∷ after → (is_fen c && is_zhi d) ≡ false)
    → after_bar (c ∷ text) ≡ after_bar text
bar_after c [] none = refl
bar_after c (d ∷ after) none = rw (none d after refl) refl

pub bar_more : (text rest others : List ℕ) (c : ℕ)
    → Passing before_bar after_bar text rest → chars rest ≡ c ∷ chars others
    → ((d : ℕ) (after : List ℕ) → chars others ≡ d ∷ after → (is_fen c && is_zhi d) ≡ false)
    → Passing before_bar after_bar text others
bar_more text rest others c p e none =
    passing_more before_bar after_bar text rest others c p e (bar_before c (chars others) none)
    (bar_after c (chars others) none)

-- 分之
bar_here : (text : List ℕ) (c d : ℕ) (after : List ℕ) → text ≡ c ∷ d ∷ after → is_fen c ≡ true
    → is_zhi d ≡ true → (before_bar text ≡ []) × (after_bar text ≡ after)
bar_here text c d after e fen zhi = (
  ap before_bar e ∙ rw (fen, zhi) refl,
  ap after_bar e ∙ rw (fen, zhi) refl,
)

pub bar_found : (text rest before others after : List ℕ) (c d : ℕ)
    → Passing before_bar after_bar text rest → chars rest ≡ c ∷ chars others
    → chars others ≡ d ∷ chars after → is_fen c ≡ true → is_zhi d ≡ true
    → chars text ≡ chars before ++ chars rest
    → (chars before ≡ before_bar (chars text)) × (chars after ≡ after_bar (chars text))
bar_found text rest before others after c d p e f fen zhi parts =
    let here = bar_here (chars rest) c d (chars after) (e ∙ ap (λ l. c ∷ l) f) fen zhi in (
      passing_before before_bar after_bar text rest before p here.0 parts,
      sym (p.after_is ∙ here.1),
    )

-- a text that is passed completely has no 分之
pub no_bar : (text rest : List ℕ) → Passing before_bar after_bar text rest → chars rest ≡ []
    → is_fraction (chars text) ≡ false
no_bar text rest p none =
    let after : after_bar (chars text) ≡ [] = p.after_is ∙ ap after_bar none in
    rw after (last-false (nat_lt 0 (length (before_bar (chars text))))) where
      last-false : (b : Bool) → (b && false) ≡ false
      last-false true = refl
      last-false false = refl

-- both sides of 分之 have characters
pub fraction_is : (text before after : List ℕ) → before ≡ before_bar text → after ≡ after_bar text
    → nat_lt 0 (length before) ≡ true → nat_lt 0 (length after) ≡ true
    → is_fraction text ≡ true
fraction_is text before after e f some more =
    let first : nat_lt 0 (length (before_bar text)) ≡ true =
    ap (λ l. nat_lt 0 (length l)) (sym e) ∙ some in
    let second : nat_lt 0 (length (after_bar text)) ≡ true =
    ap (λ l. nat_lt 0 (length l)) (sym f) ∙ more in
    both (nat_lt 0 (length (before_bar text))) (nat_lt 0 (length (after_bar text))) first second

-- nothing passes
pub none_leads : (test : ℕ → Bool) (text others : List ℕ) (c : ℕ) → text ≡ c ∷ others
    → test c ≡ false → leading test text ≡ []
none_leads test text others c e fails = ap (leading test) e ∙ rw fails refl
