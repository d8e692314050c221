-- Decimal digits, as characters.
use Rattle.std.specs.Prelude.{ℕ, ◌-◌, ◌==◌, List, IsTrue, Option, Some, None, if◌then◌else◌}
use Rattle.std.specs.Char.{is_ascii_digit}
use Rattle.std.specs.List.{list_all}

-- each character is a digit
abbrev pub AreDigits : List ℕ → Type 0
AreDigits digits = IsTrue (list_all is_ascii_digit digits)

-- the digit that a character is; none if it is not one
abbrev pub digit_of : ℕ → Option ℕ
digit_of c = if is_ascii_digit c then Some (c - 48) else None

-- what a character gives: one thing if it is the mark, another if it is a digit, and otherwise none
abbrev pub by_character : {A : Type 0} → ℕ → Option A → (ℕ → Option A) → ℕ → Option A
by_character mark at_mark at_digit c =
    if c == mark then at_mark
    else (elim (digit_of c) [ None ↦ None | Some digit ↦ at_digit digit ])
