-- What laws say about plain digits.
use Rattle.std.specs.Prelude.{Bool, true, false}
use Rattle.cn_core.specs.Mark.{Mark, digit}

-- the mark is a digit
abbrev pub is_digit : Mark → Bool
is_digit (digit value) = true
is_digit mark = false
