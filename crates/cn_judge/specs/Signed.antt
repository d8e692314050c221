-- The answer for a type, in which places are reported as a char_index.
use Rattle.std.specs.Prelude.{ℕ, ℤ, Option, Result, Ok, Err}
use Rattle.cn_core.specs.declared.sign.Sign.{Sign}
use Rattle.cn_core.specs.Refusal.{Refusal, too_large}
use Rattle.cn_core.specs.Reading.{typed_number, is_minus, too_far}
use Rattle.cn_core.specs.Whole.{signed_number, Kind}

-- the answer from the sign and the answer to the text after it
abbrev pub signed_answer : Kind → Option Sign → Result ℕ Refusal → Result ℤ Refusal
signed_answer kind sign (Ok magnitude) = typed_number kind (signed_number (is_minus sign) magnitude)
signed_answer kind sign (Err too_large) = Err (too_far sign)
signed_answer kind sign (Err refusal) = Err refusal
