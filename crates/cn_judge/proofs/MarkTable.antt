-- The table of marks contains characters of three bytes, none of them white space, each with its
-- own mark.
use Rattle.std.proofs.Common.{◌≡◌, ℕ, ◌+◌, ◌-◌, ◌*◌, ◌/◌, ◌%◌, ◌<◌, ◌≤◌, nat_le, nat_lt, ◌==◌, ◌&&◌, ◌||◌, not, ◌≢◌, Bool, true, false, List, [], ◌∷◌, length, get_or, refl, sym, ap, ◌∙◌, arith, zero, suc}
use Rattle.std.specs.Char.{is_whitespace}
use Rattle.std.specs.List.{list_all}
use Rattle.std.proofs.lemmas.Bool.Decides.{nat_tests}
use Rattle.std.proofs.lemmas.Bool.{not-true}
use Rattle.cn_core.specs.Characters.{digit_of, rank_of, digit_rows, unit_rows}
use Rattle.cn_core.specs.Mark.{mark_of}
use Rattle.cn_core.proofs.Fronts.{and-left, and-right}
use Rattle.cn_core.proofs.Marks.{same_mark, same_mark-is}
use Rattle.cn_judge.specs.declared.mark.Mark.{Mark as ReadMark}
use Rattle.cn_judge.specs.declared.mark.Mark.TheVariants.{Other}
use Rattle.cn_judge.specs.declared.mark.TheConstants.{MARKS}
use Rattle.cn_judge.specs.Marked.{IsKnown, IsUnknown, key_of, marked}
use Rattle.cn_judge.proofs.Walking.{outside-mark}

pub all_at : {X : Type 0} (p : X → Bool) (xs : List X) (i : ℕ) (d : X) → list_all p xs ≡ true
    → i < length xs → p (get_or xs i d) ≡ true
all_at p [] i d h low = absurd (omega (arith, low))
all_at p (x ∷ xs) zero d h low = and-left (p x) _ h
all_at p (x ∷ xs) (suc i) d h low = all_at p xs i d (and-right (p x) _ h) (omega arith)

pub within : {X : Type 0} (xs : List X) (i : ℕ) (a b : X) → i < length xs
    → get_or xs i a ≡ get_or xs i b
within [] i a b low = absurd (omega (arith, low))
within (x ∷ xs) zero a b low = refl
within (x ∷ xs) (suc i) a b low = within xs i a b (omega arith)

-- the sum of the three bytes of a key from which the character's code is computed
abbrev sum_of_bytes : ℕ → ℕ
sum_of_bytes key = key % 256 * 4096 + key / 256 % 256 * 64 + key / 65536

abbrev code_of : ℕ → ℕ
code_of key = sum_of_bytes key - 925824

-- the mark of an entry is that of the character with its key, and this character is not white space
is_right : ℕ × ReadMark → Bool
is_right entry =
    same_mark (marked entry.1) (mark_of (code_of entry.0)) && not (is_whitespace (code_of entry.0))
    && nat_le 925824 (sum_of_bytes entry.0)
    && nat_le 224 (entry.0 % 256) && nat_lt (entry.0 % 256) 240

all_right : list_all is_right MARKS ≡ true
unfolding is_right digit_of rank_of
all_right = refl

-- the slot of a key
abbrev pub slot : ℕ → ℕ
slot key = key * 953497 / 33554432 % 128

pub slot-low : (key : ℕ) → slot key < 128
slot-low key = omega arith

five : (a b c d e : Bool) → (a && b && c && d && e) ≡ true
    → (a ≡ true) × (b ≡ true) × (c ≡ true) × (d ≡ true) × (e ≡ true)
five true true true true true h = (refl, refl, refl, refl, refl)
five true true true true false h = cc
five true true true false e h = cc
five true true false d e h = cc
five true false c d e h = cc
five false b c d e h = cc

entry-right : (entry : ℕ × ReadMark) → is_right entry ≡ true
    → (marked entry.1 ≡ mark_of (code_of entry.0)) × (is_whitespace (code_of entry.0) ≡ false)
    × (925824 ≤ sum_of_bytes entry.0) × (224 ≤ entry.0 % 256) × (entry.0 % 256 < 240)
unfolding is_right
entry-right entry h =
    let parts = five (same_mark (marked entry.1) (mark_of (code_of entry.0)))
    (not (is_whitespace (code_of entry.0))) (nat_le 925824 (sum_of_bytes entry.0))
    (nat_le 224 (entry.0 % 256)) (nat_lt (entry.0 % 256) 240) h in (
      same_mark-is (marked entry.1) (mark_of (code_of entry.0)) parts.0,
      not-true _ parts.1,
      le 925824 (sum_of_bytes entry.0) parts.2,
      le 224 (entry.0 % 256) parts.3,
      lt (entry.0 % 256) 240 parts.4,
    ) where
      le : (a b : ℕ) → nat_le a b ≡ true → a ≤ b
      le a b h = grind (arith, nat_tests)

      lt : (a b : ℕ) → nat_lt a b ≡ true → a < b
      lt a b h = grind (arith, nat_tests)

-- an entry that is found under its own key
pub entry-known : (key : ℕ) (entry : ℕ × ReadMark) → entry ≡ get_or MARKS (slot key) entry
    → entry.0 ≡ key → IsKnown key entry.1
entry-known key entry at found =
    let right = entry-right entry (ap is_right at
    ∙ all_at is_right MARKS (slot key) entry all_right (slot-low key)) in
    record {
      code = code_of entry.0;
      sum = (let heavy = right.2 in omega (arith, heavy, found));
      low = (let low = right.3 in omega (arith, low, found));
      high = (let high = right.4 in omega (arith, high, found));
      mark_is = right.0;
      dark = right.1;
    }

-- the table has an entry for the character, or the character's UTF-8 is not three bytes long
has : ℕ → Bool
has c =
    nat_lt c 2048 || nat_le 65536 c || (get_or MARKS (slot (key_of c)) (0, Other)).0 == key_of c

all_digits : list_all (list_all has) digit_rows ≡ true
unfolding has
all_digits = refl

all_units : list_all (list_all has) unit_rows ≡ true
unfolding has
all_units = refl

not-had : (c : ℕ) (key : ℕ) (entry : ℕ × ReadMark) → 2048 ≤ c → c < 65536 → key_of c ≡ key
    → entry ≡ get_or MARKS (slot key) entry → entry.0 ≢ key → has c ≡ false
unfolding has
not-had c key entry low high same at other_key =
    let found : (get_or MARKS (slot (key_of c)) (0, Other)).0 ≡ entry.0 =
    ap (λ k. (get_or MARKS (slot k) (0, Other)).0) same
    ∙ ap (λ e. e.0) (within MARKS (slot key) (0, Other) entry (slot-low key) ∙ sym at) in
    let not_low : nat_lt c 2048 ≡ false = lt c 2048 (omega (arith, low)) in
    let not_high : nat_le 65536 c ≡ false = le 65536 c (omega (arith, high)) in
    let not_same : ((get_or MARKS (slot (key_of c)) (0, Other)).0 == key_of c) ≡ false =
    rw (found, same) (eq entry.0 key other_key) in
    rw (not_low, not_high, not_same) where
      lt : (a b : ℕ) → b ≤ a → nat_lt a b ≡ false
      lt a b h = grind (arith, nat_tests)

      le : (a b : ℕ) → b < a → nat_le a b ≡ false
      le a b h = grind (arith, nat_tests)

      eq : (a b : ℕ) → a ≢ b → (a == b) ≡ false
      eq a b h = grind (arith, nat_tests)

-- a character of three bytes whose key is not the key of the entry at its slot
pub entry-unknown : (key : ℕ) (entry : ℕ × ReadMark) → entry ≡ get_or MARKS (slot key) entry
    → entry.0 ≢ key → IsUnknown key
entry-unknown key entry at other_key =
    λ c low high same.
    outside-mark has c all_digits all_units (not-had c key entry low high same at other_key)
