-- What may come next in an input, and one change that repairs it.
use Rattle.std.specs.Prelude.{ℕ, List}
use Rattle.cn_amount.specs.Reading.{IsAmount}
use Rattle.cn_amount.specs.Signed.{IsSignedAmount}
use Rattle.cn_amount.specs.Typed.{IsTypedAmount, IsTypedSignedAmount}
use Rattle.cn_grammar.specs.declared.expecting.Expected.{Expected}
use Rattle.cn_grammar.specs.declared.hint.Hint.{Hint}
use Rattle.cn_grammar.specs.Expected.{IsExpected}
use Rattle.cn_grammar.specs.Repairs.{IsRepair}
use Rattle.cn_date.specs.Reading.{IsDateText}
use Rattle.cn_figures.specs.Figures.{WriteSignedAmount}
use Rattle.cn_message.specs.declared.input.Input.{Input}
use Rattle.cn_message.specs.declared.input.Input.TheVariants.{Amount, SignedAmount, TypedAmount, TypedSignedAmount, Date, Figures}

-- what may come next in a text that is meant to be this input
abbrev pub IsExpectedIn : Input → List ℕ → Expected → Type 0
IsExpectedIn Amount text expected = IsExpected IsAmount text expected
IsExpectedIn SignedAmount text expected = IsExpected IsSignedAmount text expected
IsExpectedIn TypedAmount text expected = IsExpected IsTypedAmount text expected
IsExpectedIn TypedSignedAmount text expected = IsExpected IsTypedSignedAmount text expected
IsExpectedIn Date text expected = IsExpected IsDateText text expected
IsExpectedIn Figures text expected = IsExpected WriteSignedAmount text expected

-- a change that repairs such a text
abbrev pub IsRepairOf : Input → List ℕ → Hint → Type 0
IsRepairOf Amount text hint = IsRepair IsAmount text hint
IsRepairOf SignedAmount text hint = IsRepair IsSignedAmount text hint
IsRepairOf TypedAmount text hint = IsRepair IsTypedAmount text hint
IsRepairOf TypedSignedAmount text hint = IsRepair IsTypedSignedAmount text hint
IsRepairOf Date text hint = IsRepair IsDateText text hint
IsRepairOf Figures text hint = IsRepair WriteSignedAmount text hint
