-- The range of an integer type.
use Rattle.std.specs.Prelude.{ℕ, ◌-◌, ◌^◌, ℤ, pos, neg_ℤ, int_le, ◌&&◌, Bool, true, false}

-- a kind of integer type: whether it is signed, and its least and greatest number
pub record Kind : Type 0 where
  pub signed : Bool
  pub least : ℤ
  pub greatest : ℤ

-- an unsigned type of this many bits: from 0 to 2^bits - 1
abbrev pub unsigned_kind : ℕ → Kind
unsigned_kind bits = record { signed = false; least = pos 0; greatest = pos (2 ^ bits - 1) }

-- a signed type of this many bits: from -2^(bits - 1) to 2^(bits - 1) - 1
abbrev pub signed_kind : ℕ → Kind
signed_kind bits = record {
  signed = true;
  least = neg_ℤ (pos (2 ^ (bits - 1)));
  greatest = pos (2 ^ (bits - 1) - 1);
}

-- a type of this kind holds the number
abbrev pub holds : Kind → ℤ → Bool
holds kind number = int_le kind.least number && int_le number kind.greatest

-- the number with this magnitude, below zero if the flag is true; with magnitude 0 both are 0
abbrev pub signed_number : Bool → ℕ → ℤ
signed_number false magnitude = pos magnitude
signed_number true magnitude = neg_ℤ (pos magnitude)
