-- Of the characters whose UTF-8 is not three bytes long, only the ASCII digits are digits or units.
use Rattle.std.proofs.Common.{◌≡◌, ◌⊎◌, inl, inr, ℕ, ◌+◌, ◌-◌, ◌<◌, ◌≤◌, nat_le, nat_lt, ◌&&◌, ◌||◌, Bool, true, false, refl, ◌∙◌, subst, arith}
use Rattle.std.specs.Char.{is_ascii_digit}
use Rattle.std.specs.List.{list_all, range_with_len}
use Rattle.std.proofs.lemmas.Bool.Decides.{nat_tests}
use Rattle.std.proofs.lemmas.List.FromFn.{get_or-range_with_len}
use Rattle.cn_core.specs.Characters.{digit_of, rank_of, digit_rows, unit_rows}
use Rattle.cn_core.specs.Mark.{digit, other, mark_of}
use Rattle.cn_core.proofs.Marks.{same_mark, same_mark-is}
use Rattle.cn_judge.proofs.MarkTable.{all_at}
use Rattle.cn_judge.proofs.Walking.{outside-mark}

is_digit_mark : ℕ → Bool
is_digit_mark c = same_mark (digit (c - 48)) (mark_of c)

all_digit_marks : list_all is_digit_mark (range_with_len 48 10) ≡ true
unfolding is_digit_mark digit_of rank_of
all_digit_marks = refl

pub ascii_digit-mark : (c : ℕ) → 48 ≤ c → c ≤ 57 → digit (c - 48) ≡ mark_of c
unfolding is_digit_mark
ascii_digit-mark c low high =
    let at : 48 + (c - 48) ≡ c = omega (arith, low) in
    same_mark-is (digit (c - 48)) (mark_of c) (subst (λ d. is_digit_mark d ≡ true)
    (get_or-range_with_len 48 10 (c - 48) 0 (omega (arith, high)) ∙ at)
    (all_at is_digit_mark (range_with_len 48 10) (c - 48) 0 all_digit_marks (omega (arith, high))))

is_marked : ℕ → Bool
is_marked c = (nat_le 2048 c && nat_lt c 65536) || is_ascii_digit c

all_digits : list_all (list_all is_marked) digit_rows ≡ true
unfolding is_marked
all_digits = refl

all_units : list_all (list_all is_marked) unit_rows ≡ true
unfolding is_marked
all_units = refl

pub short-other : (c : ℕ) → ((2048 ≤ c) × (65536 ≤ c)) ⊎ (c < 2048) → is_ascii_digit c ≡ false
    → mark_of c ≡ other
unfolding is_marked
short-other c sides plain =
    let short : (nat_le 2048 c && nat_lt c 65536) ≡ false = by sides in
    outside-mark is_marked c all_digits all_units (rw (short, plain) refl) where
      by : ((2048 ≤ c) × (65536 ≤ c)) ⊎ (c < 2048) → (nat_le 2048 c && nat_lt c 65536) ≡ false
      by (inl great) = let p = great.0 in let q = great.1 in grind (arith, nat_tests)
      by (inr small) = grind (arith, nat_tests)
