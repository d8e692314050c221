-- Definitions that only private contracts use.
use Rattle.std.specs.Prelude.{◌<◌, List}
use Rattle.cn_core.specs.declared.script.ChineseVariant.{ChineseVariant}
use Rattle.cn_date.specs.declared.capital.Capital.{Capital}
use Rattle.cn_date.specs.declared.capital.Capital.TheVariants.{Digit}
use Rattle.cn_core.specs.declared.buffer.Buffer.{Buffer}
use Rattle.cn_grammar.specs.Text as capital_text
use Rattle.cn_date.specs.Writes.{capital_char}

-- a capital that can be written: if it is a digit, it has one place
abbrev pub IsWritten : Capital → Type 0
IsWritten (Digit value) = value < 10
IsWritten capital = Unit {0}

-- the text in a buffer, which was `start` when nothing was written, is these capitals
abbrev pub HasPut : ChineseVariant → Buffer → Buffer → List Capital → Type 0
HasPut variant start text capitals = capital_text.HasPut capital_char variant start text capitals

-- these capitals are written after those that were
abbrev pub PutsMore : ChineseVariant → Buffer → Buffer → List Capital → Type 0
PutsMore variant old new more = capital_text.PutsMore capital_char variant old new more
