-- For each law with premises, values that meet all of them.
use Rattle.std.proofs.Common.{ℕ, false, codes, refl, arith}
use Rattle.cn_date.specs.declared.date.BillDate.{BillDate}
use Rattle.cn_date.specs.Calendar.{IsDate}
use Rattle.cn_date.specs.Reading.{capital_of, IsDateText}

abbrev on : ℕ → ℕ → ℕ → BillDate
on year month day = record { year = year; month = month; day = day }

-- the leap day
written_dates_are_dates : IsDate (on 2024 2 29)
written_dates_are_dates =
    (omega arith, omega arith, omega arith, omega arith, omega arith, omega arith)

-- 13 characters
forms_are_short : IsDateText (codes "贰零贰陆年零壹拾月零贰拾日") (on 2026 10 20)
unfolding capital_of
forms_are_short = record {
  choice = false;
  is_date = (omega arith, omega arith, omega arith, omega arith, omega arith, omega arith);
  form = refl;
}
