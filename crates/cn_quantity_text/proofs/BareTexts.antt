-- Texts that contain no white space, no 分, no percent sign and no ‰.
use Rattle.std.proofs.Common.{◌≡◌, ℕ, zero, suc, Bool, true, not, ◌&&◌, List, [], ◌∷◌, ◌++◌, map, Some, refl, ap, ◌∙◌, if◌then◌else◌}
use Rattle.std.specs.Char.{is_not_whitespace}
use Rattle.std.specs.List.{list_all}
use Rattle.std.specs.Str.{all_scalars}
use Rattle.std.proofs.lemmas.List.Folds.{list_all-append}
use Rattle.cn_core.specs.Mark.{mark_of}
use Rattle.cn_core.specs.Numeral.{is_digit_or_unit}
use Rattle.cn_core.proofs.Fronts.{and-left, and-right, both}
use Rattle.cn_quantity_text.specs.Digits.{behind_point, last_digits}
use Rattle.cn_quantity_text.proofs.Cuts.{lacks}
use Rattle.cn_quantity_text.proofs.DigitTexts.{WritesDigits, digits-all, last-digits}
use Rattle.cn_quantity_text.proofs.WrittenTexts.{IsText, IsText-append, IsText-nil, is_front}
use Rattle.cn_quantity.specs.declared.characters.DigitKind.{DigitKind}
use Rattle.cn_quantity.specs.Characters.{digit_by, is_fen, is_share, share_of}
use Rattle.cn_quantity.proofs.NumeralsAreQuantities.{are_marks, own}

abbrev is_clean : ℕ → Bool
is_clean c = not (is_fen c) && not (is_share c)

abbrev is_dark : ℕ → Bool
is_dark c = all_scalars (c ∷ []) && is_not_whitespace c && not (is_front c)

-- the character is none of these
unfoldable pub is_bare : ℕ → Bool
is_bare c = is_dark c && is_clean c

abbrev pub are_bare : List ℕ → Bool
are_bare text = list_all is_bare text

pub bare-append : (front rest : List ℕ) → are_bare front ≡ true → are_bare rest ≡ true
    → are_bare (front ++ rest) ≡ true
bare-append front rest one other =
    list_all-append is_bare front rest ∙ both (are_bare front) (are_bare rest) one other

-- if one test is stronger than another, a text whose characters all pass it passes the other
all-weaker : (strong weak : ℕ → Bool) → ((c : ℕ) → strong c ≡ true → weak c ≡ true)
    → (text : List ℕ) → list_all strong text ≡ true → list_all weak text ≡ true
all-weaker strong weak one [] h = refl
all-weaker strong weak one (c ∷ rest) h =
    both (weak c) (list_all weak rest) (one c (and-left (strong c) (list_all strong rest) h))
    (all-weaker strong weak one rest (and-right (strong c) (list_all strong rest) h))

pub bare-no_fen : (text : List ℕ) → are_bare text ≡ true → lacks is_fen text ≡ true
unfolding is_bare
bare-no_fen text bare =
    all-weaker is_bare (λ c. not (is_fen c))
    (λ c h. and-left (not (is_fen c)) (not (is_share c)) (and-right (is_dark c) (is_clean c) h))
    text bare

pub bare-no_share : (text : List ℕ) → are_bare text ≡ true → lacks is_share text ≡ true
unfolding is_bare
bare-no_share text bare =
    all-weaker is_bare (λ c. not (is_share c))
    (λ c h. and-right (not (is_fen c)) (not (is_share c)) (and-right (is_dark c) (is_clean c) h))
    text bare

pub bare-text : (text : List ℕ) → are_bare text ≡ true → IsText text
unfolding is_bare
bare-text [] bare = IsText-nil
bare-text (c ∷ rest) bare =
    let dark = and-left (is_dark c) (is_clean c) (and-left (is_bare c) (are_bare rest) bare) in
    let seen = and-left (all_scalars (c ∷ []) && is_not_whitespace c) (not (is_front c)) dark in
    IsText-append (c ∷ []) rest (record {
      scalars = and-left (all_scalars (c ∷ [])) (is_not_whitespace c) seen;
      kept = ap (λ b. if b then c ∷ [] else [])
          (and-right (all_scalars (c ∷ [])) (is_not_whitespace c) seen);
      bare = both (not (is_front c)) true
          (and-right (all_scalars (c ∷ []) && is_not_whitespace c) (not (is_front c)) dark) refl;
    })
    (bare-text rest (and-right (is_bare c) (are_bare rest) bare))

-- the digits and units of numerals
pub mark-bare : (c : ℕ) → is_digit_or_unit (mark_of c) ≡ true → is_bare c ≡ true
unfolding is_bare is_fen share_of
mark-bare c marked = own is_bare c refl refl marked

pub marks-bare : (text : List ℕ) → are_marks text ≡ true → are_bare text ≡ true
marks-bare text marks = all-weaker (λ c. is_digit_or_unit (mark_of c)) is_bare mark-bare text marks

-- the point and digits after a whole part
pub behind-bare : (kind : DigitKind) (point : ℕ) (character : ℕ → ℕ) (count number : ℕ)
    → is_bare point ≡ true → WritesDigits kind character
    → ((c value : ℕ) → digit_by kind c ≡ Some value → is_bare c ≡ true)
    → are_bare (behind_point point character count number) ≡ true
behind-bare kind point character zero number point_is writes digit = refl
behind-bare kind point character (suc count) number point_is writes digit =
    both (is_bare point) _ point_is
    (digits-all kind is_bare digit (map character (last_digits (suc count) number))
    (last-digits kind character (suc count) number writes))
