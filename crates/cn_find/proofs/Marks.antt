-- What the mark of a character says.
use Rattle.std.proofs.Common.{subst, ◌≡◌, ◌≢◌, ◌+◌, ℕ, ◌<◌, ◌≤◌, ltb, List, drop, get_or, length-drop, [], ◌∷◌, length, chars, IsUtf8, encode_utf8_all, Bool, true, false, not, Option, None, Some, is_some, refl, ap, ◌∙◌, sym, arith}
use Rattle.std.specs.Char.{is_whitespace, char_set_contains}
use Rattle.std.specs.List.{list_all}
use Rattle.std.specs.Prelude.{codes}
use Rattle.std.proofs.lemmas.Bool.{ltb-false}
use Rattle.std.proofs.lemmas.Bool.Decides.{nat_tests}
use Rattle.std.proofs.lemmas.List.{append-nil}
use Rattle.std.proofs.lemmas.Str.{IsUtf8-drop, encodes-chars, length-encode, len_utf8_bounds}
use lib.Utf8.{encode}
use Rattle.cn_core.specs.Characters.{digit_of, rank_of, digit_rows, unit_rows, row_with}
use Rattle.cn_core.specs.FigureCharacters.{is_figure, is_wide_figure}
use Rattle.cn_core.specs.Mark.{digit, other, mark_of, mark_from}
use Rattle.cn_core.specs.declared.unit.Unit.{Unit as NumeralUnit}
use Rattle.cn_judge.specs.Marked.{marked}
use Rattle.cn_judge.specs.declared.mark.Mark.{Mark as ReadMark}
use Rattle.cn_judge.specs.declared.mark.Mark.TheVariants.{Digit, Unit, Other}
use Rattle.std.specs.Str.{continuation_len}
use Rattle.cn_core.proofs.Chars.{chars-from_empty}
use Rattle.cn_judge.proofs.FirstBytes.{starts}
use Rattle.cn_judge.proofs.Passing.{ascii-first}
use Rattle.cn_judge.proofs.ThreeBytes.{bytes_by, encode-by}
use Rattle.cn_judge.proofs.Walking.{outside-mark, rows_have}
use Rattle.cn_find.specs.Belongs.{begins_with}
use Rattle.cn_find.specs.Flags.{clings}

none-from : (x : Option ℕ) → not (is_some x) ≡ true → false ≡ is_some x
none-from None e = refl
none-from (Some value) e = cc

-- a digit is not a unit, and any other character is neither
no-unit : (d r : Option ℕ) (value : ℕ) → mark_from d r ≡ digit value → d ≡ Some value
no-unit (Some v) r value e = cc
no-unit None (Some r) value e = cc
no-unit None None value e = cc

no-rank : (d r : Option ℕ) → mark_from d r ≡ other → false ≡ is_some r
no-rank (Some v) r e = cc
no-rank None (Some r) e = cc
no-rank None None e = refl

pub unit_by_mark : (c : ℕ) (mark : ReadMark) → marked mark ≡ mark_of c
    → ((which : NumeralUnit) → mark ≡ Unit which → ⊥) → false ≡ is_some (rank_of c)
unfolding digit_of rank_of
unit_by_mark c (Digit value) same none =
    none-from (rank_of c) (rows_have (λ d. not (is_some (row_with d unit_rows))) digit_rows c value refl
    (no-unit (digit_of c) (rank_of c) value (sym same)))
unit_by_mark c (Unit which) same none = absurd (none which refl)
unit_by_mark c Other same none = no-rank (digit_of c) (rank_of c) (sym same)

-- a character takes at most four bytes
pub no_character : (text : List ℕ) (c : ℕ) → IsUtf8 text → 4 < length text → chars text ≢ c ∷ []
no_character text c whole long same =
    let size : length text ≡ length (encode_utf8_all (c ∷ [])) =
    ap length (sym (encodes-chars text whole) ∙ ap encode_utf8_all same) in
    let few = len_utf8_bounds c in
    let one = length-encode c in
    let none : encode_utf8_all (c ∷ []) ≡ encode c = append-nil (encode c) in
    omega (arith, size, few, one, ap length none, long)

-- a digit clings to a number that it touches, and does not make it approximate
not-so : (b : Bool) → not b ≡ true → b ≡ false
not-so true e = cc
not-so false e = refl

of-digit : (p : ℕ → Bool) (c : ℕ) (d : Option ℕ) → digit_of c ≡ d
    → list_all (list_all p) digit_rows ≡ true → is_some d ≡ true → p c ≡ true
unfolding digit_of
of-digit p c (Some value) e all is = rows_have p digit_rows c value all e
of-digit p c None e all is = cc

pub digit_clings : (c : ℕ) → is_some (digit_of c) ≡ true → clings c ≡ true
unfolding clings digit_of
digit_clings c is = of-digit (λ d. clings d) c (digit_of c) refl refl is

pub digit_no_next : (c : ℕ) → is_some (digit_of c) ≡ true
    → begins_with (codes "几幾数數") (c ∷ []) ≡ false
digit_no_next c is =
    not-so _ (of-digit (λ d. not (begins_with (codes "几幾数數") (d ∷ []))) c (digit_of c) refl refl is)

pub digit_no_last : (c : ℕ) → is_some (digit_of c) ≡ true
    → begins_with (codes "几幾多余餘来來") (c ∷ []) ≡ false
digit_no_last c is =
    not-so _ (of-digit (λ d. not (begins_with (codes "几幾多余餘来來") (d ∷ []))) c (digit_of c) refl
    refl is)

pub digit_no_quite : (c : ℕ) → is_some (digit_of c) ≡ true → char_set_contains (codes "好出") c ≡ false
digit_no_quite c is =
    not-so _ (of-digit (λ d. not (char_set_contains (codes "好出") d)) c (digit_of c) refl refl is)

-- a character of three bytes is not ASCII, and a full-width digit has no mark
three-bytes : (text : List ℕ) (c : ℕ) → IsUtf8 text → length text ≡ 3 → chars text ≡ c ∷ []
    → 128 ≤ c
three-bytes text c whole three same = by (ltb c 128) refl where
  long : length (encode c) ≡ 3
  long = sym (ap length (append-nil (encode c)))
      ∙ ap length (sym (ap encode_utf8_all same) ∙ encodes-chars text whole) ∙ three

  by : (b : Bool) → ltb c 128 ≡ b → 128 ≤ c
  by true e =
      let one : length (encode c) ≡ 1 =
      ap length (encode-by c ∙ ap (λ x. bytes_by x (ltb c 2048) (ltb c 65536) c) e) in
      absurd (omega (arith, one, long))
  by false e = ltb-false c 128 e

no-wide : (c : ℕ) (mark : ReadMark) → marked mark ≡ mark_of c → (mark ≡ Other → ⊥)
    → is_wide_figure c ≡ false
no-wide c mark same known = by (is_wide_figure c) refl where
  by : (b : Bool) → is_wide_figure c ≡ b → b ≡ false
  by false e = refl
  by true e = absurd (known (is-other mark (same ∙ outside-mark (λ d. not (is_wide_figure d)) c refl refl (ap not e)))) where
    is-other : (m : ReadMark) → marked m ≡ other → m ≡ Other
    is-other (Digit value) e = cc
    is-other (Unit which) e = cc
    is-other Other e = refl

known_no_figure : (text : List ℕ) (c : ℕ) (mark : ReadMark) → IsUtf8 text → length text ≡ 3
    → chars text ≡ c ∷ [] → marked mark ≡ mark_of c → (mark ≡ Other → ⊥) → is_figure c ≡ false
known_no_figure text c mark whole three same marks known =
    let large = three-bytes text c whole three same in
    let wide = no-wide c mark marks known in grind (arith, nat_tests, large, wide)

pub only-known : (text rest : List ℕ) (mark : ReadMark) → IsUtf8 text → length text ≡ 3
    → length rest + 3 ≡ length text → (mark ≡ Other → ⊥)
    → ((c : ℕ) × (chars text ≡ c ∷ chars rest) × (marked mark ≡ mark_of c) × (is_whitespace c ≡ false))
    → (c : ℕ) × (chars text ≡ c ∷ []) × (marked mark ≡ mark_of c) × (is_figure c ≡ false)
only-known text rest mark whole three short known first =
    let alone : chars text ≡ first.0 ∷ [] =
    first.1 ∙ ap (λ l. first.0 ∷ l) (chars-from_empty rest (omega (arith, three, short))) in
    let mark_is = first.2 in
    (first.0, alone, mark_is, known_no_figure text first.0 mark whole three alone mark_is known)

-- one byte is one character
pub one_byte : (text bytes : List ℕ) → bytes ≡ text → IsUtf8 text → length bytes ≡ 1
    → chars text ≡ get_or bytes 0 0 ∷ []
one_byte text bytes same utf8 one =
    let whole : IsUtf8 bytes = subst IsUtf8 (sym same) utf8 in
    let first = starts bytes (continuation_len (get_or bytes 0 0) + 1) whole (omega (arith, one)) refl in
    let within = first.within in
    let low : get_or bytes 0 0 < 128 = grind (arith, nat_tests, within, one) in
    let ascii = ascii-first bytes text same utf8 (omega (arith, one)) low in
    let left = length-drop 1 text in
    ascii.0 ∙ ap (λ l. get_or bytes 0 0 ∷ l)
    (chars-from_empty (drop 1 text) (omega (arith, left, one, ap length same)))

-- a text of two or more bytes that begins with an ASCII character has more than one character
pub two-ascii : (bytes text : List ℕ) (c : ℕ) → bytes ≡ text → IsUtf8 text → 1 < length bytes
    → get_or bytes 0 0 < 128 → chars text ≢ c ∷ []
two-ascii bytes text c same utf8 long low alone =
    let first = ascii-first bytes text same utf8 (omega (arith, long)) low in
    let ahead = first.0 in
    let none : chars (drop 1 text) ≡ [] = cc in
    let rest : IsUtf8 (drop 1 text) = IsUtf8-drop text 1 utf8 first.1 in
    let gone : length (drop 1 text) ≡ 0 =
    ap length (sym (encodes-chars (drop 1 text) rest) ∙ ap encode_utf8_all none) in
    omega (arith, gone, length-drop 1 text, long, ap length same)
