-- The results of a printer by units.
use Rattle.std.specs.Prelude.{ℕ, ℤ, pos, ◌+◌, ◌*◌, ◌<ℤ◌, List, IsTrue, IsFalse, Result, MatchResult}
use Rattle.std.specs.declared.string.String.{String}
use Rattle.cn_core.specs.declared.script.ChineseVariant.{ChineseVariant}
use Rattle.cn_core.specs.declared.case.ChineseCase.{ChineseCase}
use Rattle.cn_core.specs.declared.method.ChineseCountMethod.{ChineseCountMethod}
use Rattle.cn_core.specs.declared.method.ChineseCountMethod.TheVariants.{Low}
use Rattle.cn_core.specs.Printing.{spelled_text, is_printable}
use Rattle.cn_spell.specs.declared.error.NumberToChineseError.{NumberToChineseError}
use Rattle.cn_spell.specs.declared.error.NumberToChineseError.TheVariants.{Overflow, Underflow, OutOfMemory}
use Rattle.cn_spell.specs.Writes.{Puts, Writes}

-- the most bytes of a text, three for each character: a sign, 16 digits under `Low` and 39 under
-- the other methods, and a unit after each digit except the last
abbrev pub most_bytes : ChineseCountMethod → ℕ
most_bytes Low = 3 * (1 + 16 + 15)
most_bytes method = 3 * (1 + 39 + 38)

-- the error is the reason why a method does not write a number: it is too large or too small, by
-- its sign
abbrev pub IsUnwritten : ChineseCountMethod → ℤ → NumberToChineseError → Type 0
IsUnwritten method number Overflow = (pos 0 <ℤ number) × IsFalse (is_printable method number)
IsUnwritten method number Underflow = (number <ℤ pos 0) × IsFalse (is_printable method number)
IsUnwritten method number OutOfMemory = ⊥

-- when each error is returned: memory is requested only if the method writes the number
abbrev pub Refuses : ChineseCountMethod → ℤ → NumberToChineseError → Type 0
Refuses method number OutOfMemory = IsTrue (is_printable method number)
Refuses method number error = IsUnwritten method number error

-- the result is the text of a number that the method writes, or the error
abbrev pub Prints : {Z : Type 0} → ChineseVariant → ChineseCase → ChineseCountMethod → ℤ
    → Result (String Z) NumberToChineseError → Type 0
Prints variant case method number result =
    MatchResult result
    (λ text. IsTrue (is_printable method number)
    × Writes (spelled_text variant case method number) (most_bytes method) text)
    (Refuses method number)

-- the method writes the number, and these are the bytes of its text
abbrev pub PutsSpelled : ChineseVariant → ChineseCase → ChineseCountMethod → ℤ → List ℕ → Type 0
PutsSpelled variant case method number bytes =
    IsTrue (is_printable method number) × Puts (spelled_text variant case method number) bytes
