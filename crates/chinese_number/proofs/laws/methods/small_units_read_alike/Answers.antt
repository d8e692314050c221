use Rattle.std.proofs.Common.{sym}
use Rattle.cn_core.specs.declared.method.ChineseCountMethod.TheVariants.{TenThousand, Middle, High}
use Rattle.cn_core.proofs.SmallUnits.{Reads-same_units}
use Rattle.chinese_number.proofs.Methods.{exponent-small, exponent-to_yi}
use Rattle.chinese_number.proofs.laws.methods.small_units_read_alike.Goals as goal

pub returns-clause-all : goal.returns-clause-all
returns-clause-all c = λ kind bytes small one second answer. (
  Reads-same_units one second 5 (exponent-small one second) kind bytes answer small,
  Reads-same_units second one 5 (exponent-small second one) kind bytes answer small,
)

pub returns-clause-three : goal.returns-clause-three
returns-clause-three c = λ kind bytes small answer. (
  (
    Reads-same_units TenThousand Middle 6 (λ rank h. (exponent-to_yi rank h).0) kind bytes answer small,
    Reads-same_units Middle TenThousand 6 (λ rank h. sym (exponent-to_yi rank h).0) kind bytes answer small,
  ),
  (
    Reads-same_units Middle High 6 (λ rank h. (exponent-to_yi rank h).1) kind bytes answer small,
    Reads-same_units High Middle 6 (λ rank h. sym (exponent-to_yi rank h).1) kind bytes answer small,
  ),
)
