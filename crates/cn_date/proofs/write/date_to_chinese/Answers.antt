use Rattle.std.proofs.Common.{◌≡◌, Bool, true, false, rules}
use Rattle.std.specs.Prelude.{MatchBool}
use Rattle.cn_date.specs.declared.date.BillDate.{BillDate}
use Rattle.cn_date.specs.Calendar.{IsDate}
use Rattle.cn_date.proofs.Written.{written-is}
use Rattle.cn_date.proofs.write.date_to_chinese.Goals as goal

there-is : (date : BillDate) (answer : Bool) → MatchBool answer (IsDate date) (¬ IsDate date)
    → answer ≡ true → IsDate date
there-is date true h e = h
there-is date false h e = absurd (cc)

pub returns : goal.returns
returns c = written-is _ _ _ _ (there-is _ _ c.is_date.ensures (search rules))
    c.in_ok-string_of.ensures (search rules)
