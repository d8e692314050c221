-- The capitals of the sign of an amount.
use Rattle.std.specs.Prelude.{ℤ, pos, int_lt, Bool, true, false, List, [], ◌∷◌, if◌then◌else◌}
use Rattle.cn_amount.specs.declared.capital.Capital.{Capital}
use Rattle.cn_amount.specs.declared.capital.Capital.TheVariants.{Fu, Open, Shu, Close}

-- the sign of an amount below zero, by whether it is in brackets
abbrev pub sign_form : Bool → List Capital
sign_form false = Fu ∷ []
sign_form true = Open ∷ Fu ∷ Shu ∷ Close ∷ []

-- the sign of an amount, if it is below zero
abbrev pub sign_before : Bool → ℤ → List Capital
sign_before bracketed fen = if int_lt fen (pos 0) then sign_form bracketed else []
