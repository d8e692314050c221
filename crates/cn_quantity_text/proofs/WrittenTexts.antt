-- The part of a written text that is read is the whole text.
use Rattle.std.proofs.Common.{◌≡◌, ℕ, Bool, true, false, not, ◌&&◌, ◌||◌, if◌then◌else◌, is_some, None, List, [], ◌∷◌, ◌++◌, filter, encode_utf8_all, refl, ap, ap₂, ◌∙◌}
use Rattle.std.specs.List.{list_all}
use Rattle.std.proofs.lemmas.List.Folds.{list_all-append}
use Rattle.std.specs.Char.{is_not_whitespace}
use Rattle.std.specs.Str.{all_scalars}
use Rattle.std.proofs.lemmas.List.Elements.{filter-append}
use Rattle.std.proofs.lemmas.Str.{chars-encodes}
use Rattle.cn_core.specs.declared.method.ChineseCountMethod.{ChineseCountMethod}
use Rattle.cn_core.specs.Text.{text_of}
use Rattle.cn_core.proofs.Fronts.{and-left, and-right, both}
use Rattle.cn_core.specs.FigureCharacters.{figure_of, is_currency}
use Rattle.cn_quantity.specs.Characters.{is_ling, is_xia, is_you}
use Rattle.cn_quantity.specs.Ratio.{after_you, mixed}
use Rattle.cn_quantity.proofs.MixedTexts.{no-you as no-mixed}
use Rattle.cn_quantity.specs.Reading.{begins_number, is_below_zero, yen_length}

-- 下 and ¥ can stand before a number, and 又 in a mixed fraction
abbrev pub is_front : ℕ → Bool
is_front c = is_xia c || is_currency c || is_you c

-- characters, of which none is white space, 下, ¥ or 又
pub record IsText (text : List ℕ) : Type 0 where
  pub scalars : all_scalars text ≡ true
  pub kept : filter is_not_whitespace text ≡ text
  pub bare : list_all (λ c. not (is_front c)) text ≡ true

pub IsText-nil : IsText []
IsText-nil = record { scalars = refl; kept = refl; bare = refl }

scalars-append : (front rest : List ℕ) → all_scalars front ≡ true → all_scalars rest ≡ true
    → all_scalars (front ++ rest) ≡ true
scalars-append [] rest one other = other
scalars-append (c ∷ front) rest one other =
    both _ (all_scalars (front ++ rest)) (and-left _ (all_scalars front) one)
    (scalars-append front rest (and-right _ (all_scalars front) one) other)

pub IsText-append : (front rest : List ℕ) → IsText front → IsText rest → IsText (front ++ rest)
IsText-append front rest one other = record {
  scalars = scalars-append front rest one.scalars other.scalars;
  kept = filter-append is_not_whitespace front rest ∙ ap₂ (λ a b. a ++ b) one.kept other.kept;
  bare = list_all-append (λ c. not (is_front c)) front rest
      ∙ both (list_all (λ c. not (is_front c)) front) _ one.bare other.bare;
}

-- so neither 零下 nor ¥ is before it
pub not-below : (text : List ℕ) → IsText text → is_below_zero text ≡ false
not-below [] is = refl
not-below (c ∷ []) is = refl
not-below (c ∷ d ∷ []) is = refl
not-below (c ∷ d ∷ next ∷ rest) is = by (is_ling c) (is_xia d) (is_currency d) (is_you d) bare where
  bare : not (is_xia d || is_currency d || is_you d) ≡ true
  bare = and-left (not (is_front d)) _ (and-right (not (is_front c)) _ is.bare)

  by : (a b e f : Bool) → not (b || e || f) ≡ true → (a && b && begins_number next) ≡ false
  by a true e f h = cc
  by true false e f h = refl
  by false false e f h = refl

pub no-yen : (text : List ℕ) → IsText text → yen_length text ≡ 0
no-yen [] is = refl
no-yen (c ∷ []) is = refl
no-yen (c ∷ next ∷ rest) is = by (is_xia c) (is_currency c) (is_you c) bare where
  bare : not (is_xia c || is_currency c || is_you c) ≡ true
  bare = and-left (not (is_front c)) _ is.bare

  by : (a b f : Bool) → not (a || b || f) ≡ true
      → ◌≡◌ {A = ℕ} (if b && is_some (figure_of next) then 1 else 0) 0
  by true b f h = cc
  by false true f h = cc
  by false false f h = refl

-- and it is not a mixed fraction
no-you : (text : List ℕ) → list_all (λ c. not (is_front c)) text ≡ true → after_you text ≡ []
no-you [] h = refl
no-you (c ∷ rest) h =
    by (is_xia c) (is_currency c) (is_you c) (and-left (not (is_front c)) _ h)
    (no-you rest (and-right (not (is_front c)) _ h)) where
      by : (a b f : Bool) → not (a || b || f) ≡ true → after_you rest ≡ []
          → (if f then rest else after_you rest) ≡ []
      by true b f h ih = cc
      by false true f h ih = cc
      by false false true h ih = cc
      by false false false h ih = ih

pub not-mixed : (method : ChineseCountMethod) (text : List ℕ) → IsText text
    → mixed method text ≡ None
not-mixed method text is = no-mixed method text (no-you text is.bare)

pub text_of-written : (text : List ℕ) → IsText text → text_of (encode_utf8_all text) ≡ text
text_of-written text is =
    ap (filter is_not_whitespace) (chars-encodes text is.scalars) ∙ is.kept
