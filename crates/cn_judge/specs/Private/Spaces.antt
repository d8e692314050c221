-- White space characters, by their bytes.
use Rattle.std.specs.Prelude.{◌≡◌, ◌==◌, ◌&&◌, ◌||◌, nat_lt, if◌then◌else◌, Bool, ℕ, ◌-◌, List, [], ◌∷◌, ◌++◌, length, filter, get_or, chars, false}
use Rattle.std.specs.Char.{is_whitespace, is_not_whitespace}

-- whether a byte is ASCII white space
abbrev pub is_ascii_space : ℕ → Bool
is_ascii_space b = (nat_lt 8 b && nat_lt b 14) || b == 32

-- whether two bytes are a white space character: U+0085 or U+00A0
abbrev pub is_two_byte_space : ℕ → ℕ → Bool
is_two_byte_space a b = a == 194 && (b == 133 || b == 160)

-- whether three bytes are a white space character: U+1680, U+3000, one from U+2000 to U+200A,
-- U+2028, U+2029, U+202F or U+205F
abbrev pub is_three_byte_space : ℕ → ℕ → ℕ → Bool
is_three_byte_space a b d = (((a == 225 && b == 154) || (a == 227 && b == 128)) && d == 128)
    || ((a == 226 && b == 128) && ((nat_lt 127 d && nat_lt d 139) || (d == 168 || (d == 169 || d == 175))))
    || ((a == 226 && b == 129) && d == 159)

-- the number of bytes of the first character if it is white space, else 0, by the first three bytes
abbrev pub first_space_len : List ℕ → ℕ
first_space_len bytes = if is_ascii_space (get_or bytes 0 0) then 1
    else if is_two_byte_space (get_or bytes 0 0) (get_or bytes 1 0) then 2
    else if is_three_byte_space (get_or bytes 0 0) (get_or bytes 1 0) (get_or bytes 2 0) then 3 else 0

-- the number of bytes of the last character if it is white space, else 0, by the last three bytes
abbrev pub last_space_len : List ℕ → ℕ
last_space_len bytes = if is_ascii_space (get_or bytes (length bytes - 1) 0) then 1
    else if is_two_byte_space (get_or bytes (length bytes - 2) 0) (get_or bytes (length bytes - 1) 0) then 2
    else if is_three_byte_space (get_or bytes (length bytes - 3) 0) (get_or bytes (length bytes - 2) 0)
    (get_or bytes (length bytes - 1) 0) then 3 else 0

-- the first character, if there is one, is not white space
abbrev pub BeginsDark : List ℕ → Type 0
BeginsDark text = (c : ℕ) → (rest : List ℕ) → chars text ≡ c ∷ rest → is_whitespace c ≡ false

-- the last character, if there is one, is not white space
abbrev pub EndsDark : List ℕ → Type 0
EndsDark text = (c : ℕ) → (before : List ℕ) → chars text ≡ before ++ c ∷ []
    → is_whitespace c ≡ false

-- the string is `ahead` followed by white space alone
pub record EndsBlank (bytes ahead : List ℕ) : Type 0 where
  pub white : List ℕ
  pub parts : chars bytes ≡ chars ahead ++ white
  pub blank : filter is_not_whitespace white ≡ []
