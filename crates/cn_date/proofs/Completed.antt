-- What has been read of a date can be completed.
use Rattle.std.proofs.Common.{◌≡◌, ℕ, zero, suc, ◌+◌, ◌*◌, ◌==◌, nat_lt, nat_le, true, false, List, [], ◌∷◌, Some, refl, ◌∙◌, arith}
use Rattle.std.specs.List.{list_all}
use Rattle.std.proofs.lemmas.Bool.Decides.{nat_tests}
use Rattle.cn_date.specs.declared.capital.Capital.{Capital}
use Rattle.cn_date.specs.declared.capital.Capital.TheVariants.{Digit, Shi, Nian, Yue, Ri}
use Rattle.cn_date.specs.declared.date.BillDate.{BillDate}
use Rattle.cn_date.specs.declared.part.Part.{Part}
use Rattle.cn_date.specs.declared.part.Part.TheVariants.{Nothing, Ling, LingOne, LingTens, One, Tens, Both}
use Rattle.cn_date.specs.declared.state.State.{State}
use Rattle.cn_date.specs.declared.state.State.TheVariants.{Year, Month, Day, Complete}
use Rattle.cn_date.specs.Working.Steps.{IsPart, fits_month, fits_day, step, run}
use Rattle.cn_date.specs.Calendar.{days_of}
use Rattle.cn_date.proofs.FormsRead.{some-year}
use Rattle.cn_date.proofs.Fronts.{Front}
use Rattle.cn_grammar.proofs.Runs.{run-ran}
use Rattle.cn_date.proofs.Shows.{is_proper}

-- these capitals complete a date after this state
pub record CanEnd (state : State) : Type 0 where
  pub behind : List Capital
  pub date : BillDate
  pub proper : list_all is_proper behind ≡ true
  pub ends : run state behind ≡ Some (Complete date)

abbrev first_day : List Capital
first_day = Digit 0 ∷ Digit 1 ∷ Ri ∷ []

abbrev first_of : ℕ → ℕ → BillDate
first_of year month = record { year = year; month = month; day = 1 }

month-ends : (year : ℕ) (part : Part) → IsPart part → fits_month part ≡ true
    → CanEnd (Month year part)
month-ends year Nothing p f = record {
  behind = Digit 0 ∷ Digit 1 ∷ Yue ∷ first_day;
  date = first_of year 1;
  proper = refl;
  ends = refl;
}
month-ends year Ling p f = record {
  behind = Digit 1 ∷ Yue ∷ first_day;
  date = first_of year 1;
  proper = refl;
  ends = refl;
}
month-ends year (LingOne digit) p f = record {
  behind = Yue ∷ first_day;
  date = first_of year digit;
  proper = refl;
  ends = refl;
}
month-ends year (LingTens digit) p f = record {
  behind = Yue ∷ first_day;
  date = first_of year (10 * digit);
  proper = refl;
  ends = refl;
}
month-ends year (One zero) p f = absurd (omega (arith, p.0))
month-ends year (One (suc zero)) p f = record {
  behind = Shi ∷ Digit 1 ∷ Yue ∷ first_day;
  date = first_of year 11;
  proper = refl;
  ends = refl;
}
month-ends year (One (suc (suc n))) p f = record {
  behind = Yue ∷ first_day;
  date = first_of year (suc (suc n));
  proper = refl;
  ends =
      let other : (suc (suc n) == 1) ≡ false = grind (arith, nat_tests) in
      run-ran step (Month year (One (suc (suc n)))) Yue first_day
      (Some (Day year (suc (suc n)) (days_of year (suc (suc n))) Nothing)) (rw other refl);
}
month-ends year (Tens digit) p f = record {
  behind = Digit 1 ∷ Yue ∷ first_day;
  date = first_of year (10 * digit + 1);
  proper = refl;
  ends = let one : digit ≡ 1 = grind (arith, nat_tests) in rw one refl;
}
month-ends year (Both tens ones) p f = record {
  behind = Yue ∷ first_day;
  date = first_of year (10 * tens + ones);
  proper = refl;
  ends = refl;
}

-- 壹 after the tens
tens-end : (year month days digit : ℕ) → nat_lt (10 * digit) days ≡ true
    → run (Day year month days (Tens digit)) (Digit 1 ∷ Ri ∷ [])
    ≡ Some (Complete (record { year = year; month = month; day = 10 * digit + 1 }))
tens-end year month days digit f =
    let fits : nat_le (10 * digit + 1) days ≡ true = grind (arith, nat_tests) in
    run-ran step (Day year month days (Tens digit)) (Digit 1) (Ri ∷ [])
    (Some (Day year month days (Both digit 1))) (rw fits refl)

day-ends : (year month days : ℕ) (part : Part) → fits_day days part ≡ true
    → CanEnd (Day year month days part)
day-ends year month days Nothing f = record {
  behind = first_day;
  date = first_of year month;
  proper = refl;
  ends = refl;
}
day-ends year month days Ling f = record {
  behind = Digit 1 ∷ Ri ∷ [];
  date = first_of year month;
  proper = refl;
  ends = refl;
}
day-ends year month days (LingOne digit) f = record {
  behind = Ri ∷ [];
  date = record { year = year; month = month; day = digit };
  proper = refl;
  ends = refl;
}
day-ends year month days (LingTens digit) f = record {
  behind = Ri ∷ [];
  date = record { year = year; month = month; day = 10 * digit };
  proper = refl;
  ends = refl;
}
day-ends year month days (One digit) f = record {
  behind = Shi ∷ Digit 1 ∷ Ri ∷ [];
  date = record { year = year; month = month; day = 10 * digit + 1 };
  proper = refl;
  ends = run-ran step (Day year month days (One digit)) Shi (Digit 1 ∷ Ri ∷ [])
      (Some (Day year month days (Tens digit))) (rw f refl) ∙ tens-end year month days digit f;
}
day-ends year month days (Tens digit) f = record {
  behind = Digit 1 ∷ Ri ∷ [];
  date = record { year = year; month = month; day = 10 * digit + 1 };
  proper = refl;
  ends = tens-end year month days digit f;
}
day-ends year month days (Both tens ones) f = record {
  behind = Ri ∷ [];
  date = record { year = year; month = month; day = 10 * tens + ones };
  proper = refl;
  ends = refl;
}

pub can-end : (state : State) (text : List Capital) → Front state text → CanEnd state
can-end (Year zero) text h = record {
  behind = Digit 1 ∷ Nian ∷ Digit 0 ∷ Digit 1 ∷ Yue ∷ first_day;
  date = first_of 1 1;
  proper = refl;
  ends = refl;
}
can-end (Year (suc n)) text h = record {
  behind = Nian ∷ Digit 0 ∷ Digit 1 ∷ Yue ∷ first_day;
  date = first_of (suc n) 1;
  proper = refl;
  ends = run-ran step (Year (suc n)) Nian (Digit 0 ∷ Digit 1 ∷ Yue ∷ first_day)
      (Some (Month (suc n) Nothing)) (some-year (suc n) (omega arith));
}
can-end (Month year part) text h = month-ends year part h.is_part h.fits
can-end (Day year month days part) text h = day-ends year month days part h.fits
can-end (Complete date) text h = record {
  behind = [];
  date = date;
  proper = refl;
  ends = refl;
}
