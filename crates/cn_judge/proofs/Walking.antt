-- A step over one character, from the left and from the right, and which characters are not white
-- space.
use Rattle.std.proofs.Common.{◌≡◌, ◌≢◌, ℕ, ◌<◌, Bool, true, false, cond, List, [], ◌∷◌, ◌++◌, length, filter, chars, Option, Some, None, refl, sym, ap, ◌∙◌, arith, IsUtf8, append-nil, encode_utf8, encode_utf8_all, get_or, not, ◌==◌, ◌||◌, zero, suc}
use Rattle.std.specs.List.{list_all}
use Rattle.std.specs.Char.{is_whitespace, is_not_whitespace, char_set_contains}
use Rattle.std.proofs.lemmas.Bool.Decides.{nat_tests}
use Rattle.std.proofs.lemmas.List.Quantifiers.{position-Some}
use Rattle.std.proofs.lemmas.Str.{encodes-chars, encodes-append, encodes_same}
use Rattle.cn_core.specs.Characters.{digit_of, rank, rank_of, digit_rows, unit_rows, row_with}
use Rattle.cn_core.specs.Mark.{digit, unit, other, mark_of, mark_from}
use Rattle.cn_core.proofs.Chars.{chars-from_empty}
use Rattle.cn_core.proofs.Fronts.{and-left, and-right}

-- the last character of a text
pub chars-back : (bytes front : List ℕ) (c : ℕ) → IsUtf8 bytes → IsUtf8 front
    → bytes ≡ front ++ encode_utf8 c → chars bytes ≡ chars front ++ c ∷ []
chars-back bytes front c whole before parts =
    encodes_same (chars bytes) (chars front ++ c ∷ [])
    (encodes-chars bytes whole ∙ parts
    ∙ ap (λ l. l ++ encode_utf8 c) (sym (encodes-chars front before))
    ∙ ap (λ l. encode_utf8_all (chars front) ++ l) (sym (append-nil (encode_utf8 c)))
    ∙ sym (encodes-append (chars front) (c ∷ [])))

-- if a text has one character, the last is the first
pub only-back : (bytes after : List ℕ) (c : ℕ) → chars bytes ≡ c ∷ chars after → length after ≡ 0
    → chars bytes ≡ chars after ++ c ∷ []
only-back bytes after c parts none =
    let empty = chars-from_empty after none in
    parts ∙ ap (λ l. c ∷ l) empty ∙ ap (λ l. l ++ c ∷ []) (sym empty)

pub filter-append : (p : ℕ → Bool) (xs ys : List ℕ)
    → filter p (xs ++ ys) ≡ filter p xs ++ filter p ys
filter-append p [] ys = refl
filter-append p (x ∷ xs) ys = elim (p x) as
    (λ b. cond b (x ∷ filter p (xs ++ ys)) (filter p (xs ++ ys))
    ≡ cond b (x ∷ filter p xs) (filter p xs) ++ filter p ys)
    [ true ↦ ap (λ l. x ∷ l) (filter-append p xs ys) | false ↦ filter-append p xs ys ]

-- a property of each member of a row
row_has : (p : ℕ → Bool) (row : List ℕ) (c : ℕ) → list_all p row ≡ true
    → char_set_contains row c ≡ true → p c ≡ true
row_has p [] c h k = cc
row_has p (d ∷ row) c h k = by (d == c) refl k (row_has p row c (and-right (p d) _ h)) where
  by : (b : Bool) → (d == c) ≡ b → (b || char_set_contains row c) ≡ true
      → (char_set_contains row c ≡ true → p c ≡ true) → p c ≡ true
  by true e k ih = let same : d ≡ c = grind (arith, nat_tests) in rw (← same) (and-left (p d) _ h)
  by false e k ih = ih k

rows_at : (p : List ℕ → Bool) (rows : List (List ℕ)) (i : ℕ) → list_all p rows ≡ true
    → i < length rows → p (get_or rows i []) ≡ true
rows_at p [] i h low = absurd (omega (arith, low))
rows_at p (row ∷ rows) zero h low = and-left (p row) _ h
rows_at p (row ∷ rows) (suc i) h low = rows_at p rows i (and-right (p row) _ h) (omega arith)

pub rows_have : (p : ℕ → Bool) (rows : List (List ℕ)) (c i : ℕ) → list_all (list_all p) rows ≡ true
    → row_with c rows ≡ Some i → p c ≡ true
rows_have p rows c i h e =
    let at = position-Some (λ row. char_set_contains row c) rows i [] e in
    row_has p (get_or rows i []) c (rows_at (list_all p) rows i h at.0) at.1

-- a character without a property that each digit and unit character has is neither
pub outside-mark : (p : ℕ → Bool) (c : ℕ) → list_all (list_all p) digit_rows ≡ true
    → list_all (list_all p) unit_rows ≡ true → p c ≡ false → mark_of c ≡ other
unfolding digit_of rank_of
outside-mark p c digits units lacks =
    by (row_with c digit_rows) (row_with c unit_rows) refl refl where
      by : (d r : Option ℕ) → row_with c digit_rows ≡ d → row_with c unit_rows ≡ r
          → mark_from d r ≡ other
      by (Some value) r e f = let has = rows_have p digit_rows c value digits e in cc
      by None (Some rank) e f = let has = rows_have p unit_rows c rank units f in cc
      by None None e f = refl

-- white space is neither a digit nor a unit
pub white-mark : (c : ℕ) → is_whitespace c ≡ true → mark_of c ≡ other
white-mark c white = outside-mark is_not_whitespace c refl refl (ap not white)

marks-dark : (c : ℕ) → mark_of c ≢ other → is_whitespace c ≡ false
marks-dark c some = by (is_whitespace c) refl where
  by : (b : Bool) → is_whitespace c ≡ b → b ≡ false
  by true white = absurd (some (white-mark c white))
  by false dark = refl

pub digit-dark : (c value : ℕ) → digit value ≡ mark_of c → is_whitespace c ≡ false
digit-dark c value h = marks-dark c (λ e. let f = h ∙ e in cc)

pub unit-dark : (c rank : ℕ) → unit rank ≡ mark_of c → is_whitespace c ≡ false
unit-dark c rank h = marks-dark c (λ e. let f = h ∙ e in cc)
