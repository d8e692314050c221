-- The table of characters has each character that is read at its slot, with its meaning.
use Rattle.std.proofs.Common.{◌≡◌, ℕ, ◌*◌, ◌/◌, ◌%◌, ◌==◌, get_or, true, refl, Option, None, arith, if◌then◌else◌}
use Rattle.cn_grammar.proofs.LookUp.{AreRight, all_stand, entry-is}
use Rattle.cn_amount.specs.declared.capital.Capital.{Capital}
use Rattle.cn_amount.specs.declared.capital.TheConstants.{CAPITALS}
use Rattle.cn_amount.specs.Reading.{capital_of, capital_rows}

all-right : AreRight capital_rows CAPITALS
all-right = (refl, (refl, (refl, (refl, (refl, (refl, (refl, (refl, (refl, (refl, (refl, (refl, (refl, (refl, (refl, (refl, (refl, (refl, (refl, (refl, (refl, (refl, (refl, (refl, (refl, (refl, (refl, (refl, (refl, (refl, (refl, (refl, (refl, (refl, (refl, (refl, (refl, (refl, (refl, (refl, (refl, (refl, (refl, (refl, (refl, (refl, (refl, (refl, (refl, (refl, (refl, (refl, (refl, (refl, (refl, (refl, (refl, (refl, (refl, (refl, (refl, (refl, (refl, (refl, tt))))))))))))))))))))))))))))))))))))))))))))))))))))))))))))))))

-- the place of a character in the table
abbrev slot_of : ℕ → ℕ
slot_of c = c * 3227 / 1024 % 64

stand : all_stand capital_rows CAPITALS slot_of ≡ true
stand = refl

pub capital-is : (entry : ℕ × Option Capital) (c : ℕ) → entry ≡ get_or CAPITALS (slot_of c) entry
    → (if entry.0 == c then entry.1 else None) ≡ capital_of c
unfolding capital_of
capital-is entry c at =
    entry-is capital_rows CAPITALS slot_of all-right stand c (omega arith) entry at
