-- A string of given bytes.
use Rattle.std.specs.Prelude.{◌≡◌, ℕ, List, string_bytes, string_len, string_capacity}
use Rattle.std.specs.declared.string.String.{String}

-- a string of these bytes, which holds no more memory than they need
pub record IsStringOf {Z : Type 0} (bytes : List ℕ) (text : String Z) : Type 0 where
  pub content : string_bytes text ≡ bytes
  pub capacity : string_capacity text ≡ string_len text
