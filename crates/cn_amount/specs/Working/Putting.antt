-- Definitions that only private contracts use.
use Rattle.std.specs.Prelude.{◌<◌, List}
use Rattle.cn_amount.specs.declared.capital.Capital.{Capital}
use Rattle.cn_amount.specs.declared.capital.Capital.TheVariants.{Digit}
use Rattle.cn_amount.specs.declared.form.Hand.{Hand}
use Rattle.cn_core.specs.declared.buffer.Buffer.{Buffer}
use Rattle.cn_grammar.specs.Text as capital_text
use Rattle.cn_amount.specs.Writes.{char_by}

-- a capital that can be written: if it is a digit, it has one place
abbrev pub IsWritten : Capital → Type 0
IsWritten (Digit value) = value < 10
IsWritten capital = Unit {0}

-- the text in a buffer, which was `start` when nothing was written, is these capitals
abbrev pub HasPut : Hand → Buffer → Buffer → List Capital → Type 0
HasPut hand start text capitals = capital_text.HasPut char_by hand start text capitals

-- these capitals are written after those that were
abbrev pub PutsMore : Hand → Buffer → Buffer → List Capital → Type 0
PutsMore hand old new more = capital_text.PutsMore char_by hand old new more
