-- The parts of a string that is read for a type: the sign that is removed, and the text after it.
use Rattle.std.specs.Prelude.{ℕ, List, take, drop, Option}
use Rattle.cn_core.specs.declared.sign.Sign.{Sign}
use Rattle.cn_core.specs.Text.{text_of}
use Rattle.cn_core.specs.Reading.{leading_sign, sign_len}
use Rattle.cn_core.specs.Whole.{Kind}

-- the sign, if there is one
abbrev pub sign_at : Kind → List ℕ → Option Sign
sign_at kind bytes = leading_sign kind.signed (text_of bytes)

-- the number of its characters
abbrev pub sign_length : Kind → List ℕ → ℕ
sign_length kind bytes = sign_len (sign_at kind bytes)

-- its characters
abbrev pub sign_text : Kind → List ℕ → List ℕ
sign_text kind bytes = take (sign_length kind bytes) (text_of bytes)

-- the characters after the sign
abbrev pub unsigned_text : Kind → List ℕ → List ℕ
unsigned_text kind bytes = drop (sign_length kind bytes) (text_of bytes)
