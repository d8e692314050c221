-- Each form is read to its end, and its value is its date.
use Rattle.std.proofs.Common.{◌≡◌, ℕ, zero, suc, ◌+◌, ◌*◌, ◌/◌, ◌%◌, ◌^◌, ◌==◌, ◌<◌, ◌≤◌, nat_lt, ◌||◌, Bool, true, false, ◌∷◌, ◌++◌, Some, refl, ap, subst, ◌∙◌, if◌then◌else◌, arith}
use Rattle.std.proofs.Math.Decide.{dec_lt}
use Rattle.std.proofs.lemmas.Bool.Decides.{nat_tests}
use Rattle.cn_date.specs.declared.capital.Capital.TheVariants.{Digit, Nian}
use Rattle.cn_date.specs.declared.date.BillDate.{BillDate}
use Rattle.cn_date.specs.declared.part.Part.TheVariants.{Nothing}
use Rattle.cn_date.specs.declared.state.State.TheVariants.{Year, Month, Day, Complete}
use Rattle.cn_date.specs.Calendar.{IsDate, days_of, is_leap}
use Rattle.cn_date.specs.Form.{figures, year_text, month_text, day_text, date_form}
use Rattle.cn_date.specs.Working.Steps.{step, run}
use Rattle.cn_grammar.proofs.Runs.{run-append, run-more, run-ran}
use Rattle.cn_grammar.proofs.Characters.{AllBelow, all-at}
use Rattle.cn_date.proofs.Years.{figures-more, not-zero}

-- each day of a month, given the number of its days
abbrev ReadsDay : ℕ → ℕ → ℕ → ℕ → Type 0
ReadsDay year month days k =
    run (Day year month days Nothing) (day_text (suc k))
    ≡ Some (Complete (record { year = year; month = month; day = suc k }))

days-28 : (year month : ℕ) → AllBelow (ReadsDay year month 28) 28
days-28 year month = (refl, (refl, (refl, (refl, (refl, (refl, (refl, (refl, (refl, (refl, (refl, (refl, (refl, (refl, (refl, (refl, (refl, (refl, (refl, (refl, (refl, (refl, (refl, (refl, (refl, (refl, (refl, (refl, tt))))))))))))))))))))))))))))

days-29 : (year month : ℕ) → AllBelow (ReadsDay year month 29) 29
days-29 year month = (refl, (refl, (refl, (refl, (refl, (refl, (refl, (refl, (refl, (refl, (refl, (refl, (refl, (refl, (refl, (refl, (refl, (refl, (refl, (refl, (refl, (refl, (refl, (refl, (refl, (refl, (refl, (refl, (refl, tt)))))))))))))))))))))))))))))

days-30 : (year month : ℕ) → AllBelow (ReadsDay year month 30) 30
days-30 year month = (refl, (refl, (refl, (refl, (refl, (refl, (refl, (refl, (refl, (refl, (refl, (refl, (refl, (refl, (refl, (refl, (refl, (refl, (refl, (refl, (refl, (refl, (refl, (refl, (refl, (refl, (refl, (refl, (refl, (refl, tt))))))))))))))))))))))))))))))

days-31 : (year month : ℕ) → AllBelow (ReadsDay year month 31) 31
days-31 year month = (refl, (refl, (refl, (refl, (refl, (refl, (refl, (refl, (refl, (refl, (refl, (refl, (refl, (refl, (refl, (refl, (refl, (refl, (refl, (refl, (refl, (refl, (refl, (refl, (refl, (refl, (refl, (refl, (refl, (refl, (refl, tt)))))))))))))))))))))))))))))))

reads-day : (year month days k : ℕ) → 28 ≤ days → days ≤ 31 → k < days
    → ReadsDay year month days k
reads-day year month days k low high less = elim (dec_lt days 29) [
  | yes a ↦ at 28 (omega (arith, low, a)) (all-at (ReadsDay year month 28) 28 k (days-28 year month) (omega (arith, low, a, less)))
  | no a ↦ elim (dec_lt days 30) [
    | yes b ↦ at 29 (omega (arith, a, b)) (all-at (ReadsDay year month 29) 29 k (days-29 year month) (omega (arith, a, b, less)))
    | no b ↦ elim (dec_lt days 31) [
      | yes c ↦ at 30 (omega (arith, b, c)) (all-at (ReadsDay year month 30) 30 k (days-30 year month) (omega (arith, b, c, less)))
      | no c ↦ at 31 (omega (arith, c, high)) (all-at (ReadsDay year month 31) 31 k (days-31 year month) (omega (arith, c, high, less)))
    ]
  ]
] where
  at : (other : ℕ) → other ≡ days → ReadsDay year month other k → ReadsDay year month days k
  at other e h = subst (λ days. ReadsDay year month days k) e h

-- each month, with a 零 before it if there may be one, and without
abbrev ReadsMonth : ℕ → Bool → ℕ → Type 0
ReadsMonth year choice k =
    run (Month year Nothing) (month_text choice (suc k))
    ≡ Some (Day year (suc k) (days_of year (suc k)) Nothing)

months : (year : ℕ) (choice : Bool) → AllBelow (ReadsMonth year choice) 12
months year true = (refl, (refl, (refl, (refl, (refl, (refl, (refl, (refl, (refl, (refl, (refl, (refl, tt))))))))))))
months year false = (refl, (refl, (refl, (refl, (refl, (refl, (refl, (refl, (refl, (refl, (refl, (refl, tt))))))))))))

-- a year
year-step : (year digit : ℕ) → year < 1000 → 0 < 10 * year + digit
    → step (Year year) (Digit digit) ≡ Some (Year (10 * year + digit))
year-step year digit low some =
    let less : nat_lt year 1000 ≡ true = grind (arith, nat_tests) in
    let more : (10 * year + digit == 0) ≡ false = not-zero (10 * year + digit) some in
    rw (less, more) refl

reads-figures : (count year : ℕ) → year < 10 ^ count → year < 10000
    → run (Year 0) (figures count year) ≡ Some (Year year)
reads-figures zero zero low all = refl
reads-figures zero (suc n) low all = absurd (omega (arith, low))
reads-figures (suc count) zero low all = refl
reads-figures (suc count) (suc n) low all =
    let front = suc n / 10 in
    let last = suc n % 10 in
    let same : 10 * front + last ≡ suc n = omega arith in
    ap (run (Year 0)) (figures-more count (suc n) (omega arith))
    ∙ run-more step (Year 0) (figures count front) (Digit last) (Year front)
    (reads-figures count front (omega (arith, low)) (omega (arith, all)))
    ∙ year-step front last (omega (arith, all)) (omega (arith, same))
    ∙ ap (λ year. Some (Year year)) same

pub some-year : (year : ℕ) → 0 < year → step (Year year) Nian ≡ Some (Month year Nothing)
some-year year some = rw (not-zero year some) refl

pub days-bounds : (year month : ℕ) → (28 ≤ days_of year month) × (days_of year month ≤ 31)
days-bounds year month = by (month == 2) (is_leap year)
    (month == 4 || (month == 6 || (month == 9 || month == 11))) where
      by : (two leap short : Bool)
          → (28 ≤ (if two then (if leap then 29 else 28) else (if short then 30 else 31)))
          × ((if two then (if leap then 29 else 28) else (if short then 30 else 31)) ≤ 31)
      by true true short = (omega arith, omega arith)
      by true false short = (omega arith, omega arith)
      by false leap true = (omega arith, omega arith)
      by false leap false = (omega arith, omega arith)

reads-month : (year : ℕ) (choice : Bool) (month : ℕ) → 0 < month → month ≤ 12
    → run (Month year Nothing) (month_text choice month)
    ≡ Some (Day year month (days_of year month) Nothing)
reads-month year choice zero some low = absurd (omega (arith, some))
reads-month year choice (suc k) some low =
    all-at (ReadsMonth year choice) 12 k (months year choice) (omega (arith, low))

whole-day : (year month day : ℕ) → 0 < day → day ≤ days_of year month
    → run (Day year month (days_of year month) Nothing) (day_text day)
    ≡ Some (Complete (record { year = year; month = month; day = day }))
whole-day year month zero some low = absurd (omega (arith, some))
whole-day year month (suc k) some low =
    let bounds = days-bounds year month in
    reads-day year month (days_of year month) k bounds.0 bounds.1 (omega (arith, low))

pub form-read : (choice : Bool) (date : BillDate) → IsDate date
    → run (Year 0) (date_form choice date) ≡ Some (Complete date)
form-read choice date is =
    let y = date.year in
    let m = date.month in
    let rest = month_text choice m ++ day_text date.day in
    run-append step (Year 0) (year_text y) (Nian ∷ rest) (Year y)
    (reads-figures 4 y (omega (arith, is.1)) is.1)
    ∙ run-ran step (Year y) Nian rest (Some (Month y Nothing)) (some-year y is.0)
    ∙ run-append step (Month y Nothing) (month_text choice m) (day_text date.day)
    (Day y m (days_of y m) Nothing) (reads-month y choice m is.2 is.3)
    ∙ whole-day y m date.day is.4 is.5
