-- Reading a text after a minus sign, or without one.
use Rattle.std.specs.Prelude.{ℕ, Bool, true, false, not, List, if◌then◌else◌}
use Rattle.std.specs.Char.{char_set_contains}
use Rattle.cn_grammar.specs.Sieve.{Sieve}
use Rattle.cn_grammar.specs.declared.sign.Front.{Front}
use Rattle.cn_grammar.specs.declared.sign.Front.TheVariants.{Open, Plain, Minus}

-- a character, which is a minus sign or is not, belongs to the text
abbrev pub keeps : Front → Bool → Bool
keeps Open is_minus = not is_minus
keeps front is_minus = true

-- what is before the text, after this character
abbrev pub next : Front → Bool → Front
next Open is_minus = if is_minus then Minus else Plain
next front is_minus = front

-- the number is below zero
abbrev pub is_below : Front → Bool
is_below Minus = true
is_below front = false

-- the sieve that leaves out one of these signs at the start
abbrev pub sign_sieve : List ℕ → Sieve Front
sign_sieve signs = record {
  keeps = λ front c. keeps front (char_set_contains signs c);
  next = λ front c. next front (char_set_contains signs c);
}
