-- Converts a mark of the code to a mark of the definitions of numerals.
use Rattle.std.specs.Prelude.{◌≡◌, ℕ, ◌+◌, ◌*◌, ◌/◌, ◌%◌, ◌<◌, ◌≤◌, false}
use Rattle.std.specs.Char.{is_whitespace}
use Rattle.cn_core.specs.declared.unit.Unit.{Unit as NumeralUnit}
use Rattle.cn_core.specs.Characters.{rank}
use Rattle.cn_core.specs.Mark.{Mark, digit, unit, other, mark_of}
use Rattle.cn_judge.specs.declared.mark.Mark.{Mark as ReadMark}
use Rattle.cn_judge.specs.declared.mark.Mark.TheVariants.{Digit, Unit, Other}

-- the mark of the definitions that a mark of the code stands for
abbrev pub marked : ReadMark → Mark
marked (Digit value) = digit value
marked (Unit which) = unit (rank which)
marked Other = other

-- the mark of a unit
abbrev pub unit_mark : NumeralUnit → Mark
unit_mark which = unit (rank which)

-- the three bytes of this key, with the first byte lowest, are a character that is not white space,
-- and `mark` is its mark
pub record IsKnown (key : ℕ) (mark : ReadMark) : Type 0 where
  pub code : ℕ
  pub sum : code + 925824 ≡ key % 256 * 4096 + key / 256 % 256 * 64 + key / 65536
  pub low : 224 ≤ key % 256
  pub high : key % 256 < 240
  pub mark_is : marked mark ≡ mark_of code
  pub dark : is_whitespace code ≡ false

-- the key of a character whose UTF-8 is three bytes long: its bytes, with the first byte lowest
abbrev pub key_of : ℕ → ℕ
key_of c = 224 + c / 64 / 64 + (128 + c / 64 % 64) * 256 + (128 + c % 64) * 65536

-- a character of three bytes with this key is neither a digit nor a unit
abbrev pub IsUnknown : ℕ → Type 0
IsUnknown key = (c : ℕ) → 2048 ≤ c → c < 65536 → key_of c ≡ key → mark_of c ≡ other
