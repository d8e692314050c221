-- A text of known parts, cut at its point, at 分之 and before a share sign.
use Rattle.std.proofs.Common.{◌≡◌, ℕ, Bool, true, false, not, ◌&&◌, if◌then◌else◌, nat_lt, List, [], ◌∷◌, ◌++◌, length, Option, Some, None, is_some, refl, ap, ◌∙◌}
use Rattle.std.specs.List.{list_all}
use Rattle.std.proofs.lemmas.List.Folds.{list_all-append}
use Rattle.cn_core.specs.Mark.{mark_of}
use Rattle.cn_core.specs.Numeral.{is_digit_or_unit}
use Rattle.cn_core.proofs.Fronts.{and-left, and-right, both}
use Rattle.cn_quantity.specs.declared.characters.DigitKind.TheVariants.{Chinese}
use Rattle.cn_quantity.specs.Characters.{is_fen, is_point, is_share, is_zhi, share_of}
use Rattle.cn_quantity.specs.Decimal.{after_point, before_point}
use Rattle.cn_quantity.specs.Ratio.{after_bar, before_bar, begins_with_zhi, last_share, share}
use Rattle.cn_quantity.proofs.Bars.{bar-cut, bar-gone, bar-passed, bar-stops}
use Rattle.cn_quantity.proofs.NumeralsAreQuantities.{are_marks, first-mark, none-of, rest-marks}

-- no character of the text passes the test
abbrev pub lacks : (ℕ → Bool) → List ℕ → Bool
lacks test text = list_all (λ c. not (test c)) text

pub lacks-append : (test : ℕ → Bool) (front rest : List ℕ) → lacks test front ≡ true
    → lacks test rest ≡ true → lacks test (front ++ rest) ≡ true
lacks-append test front rest one other =
    list_all-append (λ c. not (test c)) front rest
    ∙ both (lacks test front) (lacks test rest) one other

lacks-first : (test : ℕ → Bool) (c : ℕ) (rest : List ℕ) → lacks test (c ∷ rest) ≡ true
    → test c ≡ false
lacks-first test c rest h = none-of (test c) (and-left (not (test c)) (lacks test rest) h)

lacks-rest : (test : ℕ → Bool) (c : ℕ) (rest : List ℕ) → lacks test (c ∷ rest) ≡ true
    → lacks test rest ≡ true
lacks-rest test c rest h = and-right (not (test c)) (lacks test rest) h

-- if no digit or unit of numerals passes a test, no character of a text of these passes it
pub marks-lack : (test : ℕ → Bool)
    → ((c : ℕ) → is_digit_or_unit (mark_of c) ≡ true → test c ≡ false)
    → (text : List ℕ) → are_marks text ≡ true → lacks test text ≡ true
marks-lack test none [] h = refl
marks-lack test none (c ∷ rest) h =
    both (not (test c)) (lacks test rest) (ap not (none c (first-mark c rest h)))
    (marks-lack test none rest (rest-marks c rest h))

-- 分之
no-bar : (c : ℕ) (rest : List ℕ) → is_fen c ≡ false → (is_fen c && begins_with_zhi rest) ≡ false
no-bar c rest none = rw none

pub bar-none : (text : List ℕ) → lacks is_fen text ≡ true → after_bar text ≡ []
bar-none [] h = refl
bar-none (c ∷ rest) h =
    bar-gone c rest (no-bar c rest (lacks-first is_fen c rest h))
    ∙ bar-none rest (lacks-rest is_fen c rest h)

pub bar-at : (front : List ℕ) (fen zhi : ℕ) (rest : List ℕ) → lacks is_fen front ≡ true
    → is_fen fen ≡ true → is_zhi zhi ≡ true
    → (before_bar (front ++ fen ∷ zhi ∷ rest) ≡ front)
    × (after_bar (front ++ fen ∷ zhi ∷ rest) ≡ rest)
bar-at [] fen zhi rest none is_one is_two =
    (bar-stops fen zhi rest is_one is_two, bar-cut fen zhi rest is_one is_two)
bar-at (c ∷ front) fen zhi rest none is_one is_two =
    let further = no-bar c (front ++ fen ∷ zhi ∷ rest) (lacks-first is_fen c front none) in
    let more = bar-at front fen zhi rest (lacks-rest is_fen c front none) is_one is_two in (
      bar-passed c (front ++ fen ∷ zhi ∷ rest) further ∙ ap (λ l. c ∷ l) more.0,
      bar-gone c (front ++ fen ∷ zhi ∷ rest) further ∙ more.1,
    )

-- the point
pub point-at : (front : List ℕ) (point : ℕ) (rest : List ℕ)
    → lacks (is_point Chinese) front ≡ true → is_point Chinese point ≡ true
    → (before_point (front ++ point ∷ rest) ≡ front)
    × (after_point (front ++ point ∷ rest) ≡ rest)
point-at [] point rest none is = (rw is, rw is)
point-at (c ∷ front) point rest none is =
    let other = lacks-first (is_point Chinese) c front none in
    let more = point-at front point rest (lacks-rest (is_point Chinese) c front none) is in (
      ap (λ b. if b then [] else c ∷ before_point (front ++ point ∷ rest)) other
          ∙ ap (λ l. c ∷ l) more.0,
      ap (λ b. if b then front ++ point ∷ rest else after_point (front ++ point ∷ rest)) other
          ∙ more.1,
    )

-- the share sign
none-from : (o : Option ℕ) → is_some o ≡ false → o ≡ None
none-from None h = refl
none-from (Some divisor) h = cc

last_share-none : (text : List ℕ) → lacks is_share text ≡ true → last_share text ≡ None
last_share-none [] h = refl
last_share-none (c ∷ []) h = none-from (share_of c) (lacks-first is_share c [] h)
last_share-none (c ∷ next ∷ rest) h =
    last_share-none (next ∷ rest) (lacks-rest is_share c (next ∷ rest) h)

pub share-none : (text : List ℕ) → lacks is_share text ≡ true → share text ≡ None
share-none text h = by (nat_lt 1 (length text)) (last_share-none text h) where
  by : (b : Bool) → last_share text ≡ None → (if b then last_share text else None) ≡ None
  by true h = h
  by false h = refl
