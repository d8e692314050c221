use Rattle.std.proofs.Common.{refl, rules}
use Rattle.std.proofs.lemmas.Bool.Decides.{nat_tests}
use Rattle.cn_grammar.proofs.Reading.{empty-read}
use Rattle.cn_amount.specs.Reading.{IsAmount}
use Rattle.cn_amount.specs.Working.Steps.{amount_machine}
use Rattle.cn_amount.proofs.ReadText.{amount_reads}
use Rattle.cn_amount.proofs.read.chinese_to_amount.Goals as goal

pub returns-then-is_empty : goal.returns-then-is_empty
returns-then-is_empty c =
    empty-read IsAmount amount_machine amount_reads refl c.args.text.now (search (rules, nat_tests))
