-- A numeral that ends with a great unit and one digit, and the sections of a numeral.
use Rattle.std.proofs.Common.{◌≡◌, ℕ, Bool, true, false, List, [], ◌∷◌, ◌++◌, chars, encode_utf8, encode_utf8_all, reverse, codes, Option, Some, None, if◌then◌else◌, refl, sym, ap, subst, ◌∙◌, append_assoc, append-nil}
use Rattle.std.proofs.lemmas.List.{reverse-reverse}
use Rattle.cn_core.specs.declared.method.ChineseCountMethod.{ChineseCountMethod}
use Rattle.cn_find.specs.Spans.{in_front}
use Rattle.cn_replace.specs.KeptNumbers.{and_text, before_end, end_of, is_above, figure_or_same, is_tenth, quantity_figures, section_text, sections_text, tenth_text}
use Rattle.cn_replace.specs.Pieces.{after_leading, is_zero, leading}
use Rattle.cn_replace.specs.Private.{IsEnd, PutsText}
use Rattle.cn_replace.proofs.Passing.{same_front}

-- the characters of a text, in their order again
pub twice_reversed : (text : List ℕ) → reverse (in_front text) ≡ chars text
twice_reversed text = reverse-reverse (chars text)

-- the text of such a numeral
pub tenth_is : (method : ChineseCountMethod) (text front unit : List ℕ) (c u : ℕ)
    → in_front text ≡ c ∷ u ∷ in_front front → chars unit ≡ u ∷ []
    → tenth_text method (in_front text)
    ≡ and_text (quantity_figures method (chars front))
    (Some (codes "." ++ figure_or_same c ++ encode_utf8_all (chars unit)))
unfolding tenth_text
tenth_is method text front unit c u e f =
    ap (tenth_text method) e
    ∙ ap (λ l. and_text (quantity_figures method l) (Some (codes "." ++ figure_or_same c ++ encode_utf8 u)))
    (reverse-reverse (chars front))
    ∙ ap (λ l. and_text (quantity_figures method (chars front)) (Some (codes "." ++ figure_or_same c ++ l)))
    (sym (append-nil (encode_utf8 u)) ∙ ap encode_utf8_all (sym f))

pub chosen : (method : ChineseCountMethod) (front : List ℕ) (other text : Option (List ℕ))
    → is_tenth front ≡ true → tenth_text method front ≡ text
    → text ≡ (if is_tenth front then tenth_text method front else other)
chosen method front other text e same = sym same ∙ rw e refl

-- the sections of a text up to this place are written, and the next one begins here
pub record Sections {S : Type 0} (took : S → S → List ℕ → Type 0) (method : ChineseCountMethod)
    (text start rest : List ℕ) (old now : S) : Type 0 where
  pub section : List ℕ
  pub begun : chars start ≡ section ++ chars rest
  pub done : List ℕ
  pub took_done : took old now done
  pub completes : sections_text method [] (chars text)
      ≡ and_text (Some done) (sections_text method section (chars rest))

module _ {S : Type 0} (took : S → S → List ℕ → Type 0)
    (both : (old mid new : S) (first second : List ℕ) → took old mid first → took mid new second
    → took old new (first ++ second)) where
  with-nothing : (text : Option (List ℕ)) → text ≡ and_text (Some []) text
  with-nothing None = refl
  with-nothing (Some text) = refl

  pub sections_none : (method : ChineseCountMethod) (text : List ℕ) (old : S) → took old old []
      → Sections took method text text text old old
  sections_none method text old none = record {
    section = [];
    begun = refl;
    done = [];
    took_done = none;
    completes = with-nothing (sections_text method [] (chars text));
  }

  module _ (method : ChineseCountMethod) (text start rest others : List ℕ) (c : ℕ) (old now : S)
      (p : Sections took method text start rest old now) (e : chars rest ≡ c ∷ chars others) where
    begun-more : chars start ≡ (p.section ++ c ∷ []) ++ chars others
    begun-more = p.begun ∙ ap (λ l. p.section ++ l) e
        ∙ sym (append_assoc p.section (c ∷ []) (chars others))

    pub section_end : IsEnd start others
    section_end = record { front = p.section ++ c ∷ []; parts = begun-more }

    one-more : is_above c (chars others) ≡ false
        → sections_text method p.section (c ∷ chars others)
        ≡ sections_text method (p.section ++ c ∷ []) (chars others)
    one-more none = rw none refl

    pub section_goes_on : is_above c (chars others) ≡ false
        → Sections took method text start others old now
    section_goes_on none = record {
      section = p.section ++ c ∷ [];
      begun = begun-more;
      done = p.done;
      took_done = p.took_done;
      completes = p.completes
          ∙ ap (λ l. and_text (Some p.done) (sections_text method p.section l)) e
          ∙ ap (and_text (Some p.done)) (one-more none);
    }

    module _ (piece : List ℕ) (parts : chars start ≡ chars piece ++ chars others)
        (ends : is_above c (chars others) ≡ true) where
      piece_is : chars piece ≡ p.section ++ c ∷ []
      piece_is = same_front (p.section ++ c ∷ []) (chars piece) (chars others)
          (sym parts ∙ begun-more)

      section-ended : sections_text method p.section (c ∷ chars others)
          ≡ and_text (section_text method (p.section ++ c ∷ [])) (sections_text method [] (chars others))
      section-ended = rw ends refl

      next : sections_text method [] (chars text)
          ≡ and_text (Some p.done) (and_text (section_text method (chars piece))
          (sections_text method [] (chars others)))
      next = p.completes
          ∙ ap (λ l. and_text (Some p.done) (sections_text method p.section l)) e
          ∙ ap (and_text (Some p.done)) section-ended
          ∙ ap (λ l. and_text (Some p.done) (and_text (section_text method l)
          (sections_text method [] (chars others)))) (sym piece_is)

      none-after : (done : List ℕ) (section left : Option (List ℕ)) (is_there : Bool) (mid : S)
          → is_there ≡ false → PutsText took now mid section is_there
          → and_text (Some done) (and_text section left) ≡ None
      none-after done None left is_there mid f put = refl
      none-after done (Some section) left is_there mid f put = cc

      pub section_fails : (is_there : Bool) (mid new : S) → is_there ≡ false
          → PutsText took now mid (section_text method (chars piece)) is_there
          → PutsText took old new (sections_text method [] (chars text)) false
      section_fails is_there mid new f put =
          subst (λ (each : Option (List ℕ)). PutsText took old new each false)
          (sym (next ∙ none-after p.done (section_text method (chars piece))
          (sections_text method [] (chars others)) is_there mid f put)) refl

      more : (section : Option (List ℕ)) (is_there : Bool) (mid : S) → is_there ≡ true
          → PutsText took now mid section is_there
          → (done : List ℕ) × took old mid done
          × ((left : Option (List ℕ)) → and_text (Some p.done) (and_text section left)
          ≡ and_text (Some done) left)
      more None is_there mid f put = cc
      more (Some section) is_there mid f put = (
        p.done ++ section,
        both old now mid p.done section p.took_done put.1,
        regrouped section,
      ) where
        regrouped : (section : List ℕ) (left : Option (List ℕ))
            → and_text (Some p.done) (and_text (Some section) left)
            ≡ and_text (Some (p.done ++ section)) left
        regrouped section None = refl
        regrouped section (Some left) = ap Some (sym (append_assoc p.done section left))

      pub section_done : (is_there : Bool) (mid : S) → is_there ≡ true
          → PutsText took now mid (section_text method (chars piece)) is_there
          → Sections took method text others others old mid
      section_done is_there mid f put =
          let m = more (section_text method (chars piece)) is_there mid f put in record {
            section = [];
            begun = refl;
            done = m.0;
            took_done = m.1;
            completes = next ∙ m.2 (sections_text method [] (chars others));
          }

  pub sections_all : (method : ChineseCountMethod) (text start rest : List ℕ) (old now : S)
      → Sections took method text start rest old now → chars rest ≡ []
      → PutsText took old now (sections_text method [] (chars text)) true
  sections_all method text start rest old now p e =
      subst (λ (each : Option (List ℕ)). PutsText took old now each true)
      (sym (p.completes ∙ ap (λ l. and_text (Some p.done) (sections_text method p.section l)) e
      ∙ ap Some (append-nil p.done))) (refl, p.took_done)

-- pieces, by their kind
pub counted_is : (method : ChineseCountMethod) (whole end a b : List ℕ) → whole ≡ a → end ≡ b
    → and_text (quantity_figures method whole) (Some (encode_utf8_all end))
    ≡ and_text (quantity_figures method a) (Some (encode_utf8_all b))
counted_is method whole end a b e f =
    ap (λ l. and_text (quantity_figures method l) (Some (encode_utf8_all end))) e
    ∙ ap (λ l. and_text (quantity_figures method a) (Some (encode_utf8_all l))) f

pub section_is : (method : ChineseCountMethod) (section zeros rest : List ℕ)
    → zeros ≡ leading is_zero section → rest ≡ after_leading is_zero section
    → and_text (Some (encode_utf8_all zeros)) (and_text (quantity_figures method (before_end [] rest))
    (Some (encode_utf8_all (end_of [] rest)))) ≡ section_text method section
unfolding section_text
section_is method section zeros rest e f =
    ap (λ l. and_text (Some (encode_utf8_all l)) (and_text (quantity_figures method (before_end [] rest))
    (Some (encode_utf8_all (end_of [] rest))))) e
    ∙ ap (λ l. and_text (Some (encode_utf8_all (leading is_zero section)))
    (and_text (quantity_figures method (before_end [] l)) (Some (encode_utf8_all (end_of [] l))))) f
