-- The characters and bytes in which marks and numbers are written.
use Rattle.std.specs.Prelude.{ℕ, ◌^◌, ℤ, pos, int_lt, nat_abs, nat_lt, Bool, true, List, [], ◌∷◌, ◌++◌, map, encode_utf8_all, if◌then◌else◌}
use Rattle.cn_core.specs.declared.script.ChineseVariant.{ChineseVariant}
use Rattle.cn_core.specs.declared.case.ChineseCase.{ChineseCase}
use Rattle.cn_core.specs.declared.method.ChineseCountMethod.{ChineseCountMethod}
use Rattle.cn_core.specs.declared.method.ChineseCountMethod.TheVariants.{Low}
use Rattle.cn_core.specs.Characters.{digit_char, unit_char, minus_char}
use Rattle.cn_core.specs.Mark.{Mark, digit, unit, other}
use Rattle.cn_core.specs.Naive.{decimal_digits}
use Rattle.cn_core.specs.Spelling.{spelling}

-- the character that writes a mark; a spelling holds only digits and units, so the last case is not
-- used
abbrev pub mark_char : ChineseVariant → ChineseCase → Mark → ℕ
mark_char variant case (digit value) = digit_char variant case value
mark_char variant case (unit rank) = unit_char variant case rank
mark_char variant case other = 0xFFFD

-- the characters of a number, given whether it is negative and the spelling of its magnitude
abbrev pub signed_text : ChineseVariant → ChineseCase → Bool → List Mark → List ℕ
signed_text variant case negative marks =
    (if negative then minus_char variant ∷ [] else []) ++ map (mark_char variant case) marks

-- the bytes of that text
abbrev pub signed_bytes : ChineseVariant → ChineseCase → Bool → List Mark → List ℕ
signed_bytes variant case negative marks = encode_utf8_all (signed_text variant case negative marks)

-- the characters of a number as plain digits, after a minus sign if it is below zero
abbrev pub naive_text : ChineseVariant → ChineseCase → ℤ → List ℕ
naive_text variant case number =
    signed_text variant case (int_lt number (pos 0)) (decimal_digits (nat_abs number))

-- the characters of a number by its spelling, after a minus sign if it is below zero
abbrev pub spelled_text : ChineseVariant → ChineseCase → ChineseCountMethod → ℤ → List ℕ
spelled_text variant case method number =
    signed_text variant case (int_lt number (pos 0)) (spelling method (nat_abs number))

-- whether a method writes a number: each method writes every number, except `Low`, which writes
-- those with a magnitude below 10^16
abbrev pub is_printable : ChineseCountMethod → ℤ → Bool
is_printable Low number = nat_lt (nat_abs number) (10 ^ 16)
is_printable method number = true
