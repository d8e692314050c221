-- Values on the way to a number.
use Rattle.std.specs.Prelude.{ℕ, ◌+◌, ◌*◌, if◌then◌else◌}
use Rattle.cn_core.specs.FigureCharacters.{is_comma}
use Rattle.cn_codes.specs.Digits.{value_of}

-- the value of a number with another of its characters, which may be a comma
abbrev pub next_value : ℕ → ℕ → ℕ
next_value value c = if is_comma c then value else 10 * value + value_of c
