-- The forms that a date can have, and the one in which it is written.
use Rattle.std.specs.Prelude.{ℕ, zero, suc, ◌/◌, ◌%◌, ◌==◌, nat_lt, Bool, false, ◌&&◌, ◌||◌, List, [], ◌∷◌, ◌++◌, if◌then◌else◌}
use Rattle.cn_date.specs.declared.capital.Capital.{Capital}
use Rattle.cn_date.specs.declared.capital.Capital.TheVariants.{Digit, Shi, Nian, Yue, Ri}
use Rattle.cn_date.specs.declared.date.BillDate.{BillDate}

-- the last figures of a number, as many as given at most, without zeros before them; none for 0
abbrev pub figures : ℕ → ℕ → List Capital
figures zero number = []
figures (suc count) number =
    if number == 0 then [] else figures count (number / 10) ++ Digit (number % 10) ∷ []

-- a year, with no 零 before it: 贰零贰陆 for 2026
abbrev pub year_text : ℕ → List Capital
year_text year = figures 4 year

-- a number below 100, such as 伍, 贰拾 or 壹拾伍
abbrev pub number_text : ℕ → List Capital
number_text number =
    if nat_lt number 10 then Digit number ∷ []
    else Digit (number / 10) ∷ Shi ∷ (if number % 10 == 0 then [] else Digit (number % 10) ∷ [])

-- 零 or nothing
abbrev pub ling_text : Bool → List Capital
ling_text stands = if stands then Digit 0 ∷ [] else []

-- there is a 零 before 壹月, 贰月 and 壹拾月; before 叁月 to 玖月 there may be one, by the choice
abbrev pub ling_before_month : Bool → ℕ → Bool
ling_before_month choice month =
    nat_lt month 3 || (month == 10 || (choice && nat_lt month 10))

-- there is a 零 before 壹日 to 玖日, 壹拾日, 贰拾日 and 叁拾日
abbrev pub ling_before_day : ℕ → Bool
ling_before_day day = nat_lt day 10 || day % 10 == 0

-- the text of a month
abbrev pub month_text : Bool → ℕ → List Capital
month_text choice month =
    ling_text (ling_before_month choice month) ++ (number_text month ++ Yue ∷ [])

-- the text of a day
abbrev pub day_text : ℕ → List Capital
day_text day = ling_text (ling_before_day day) ++ (number_text day ++ Ri ∷ [])

-- a form of a date, given the choice
abbrev pub date_form : Bool → BillDate → List Capital
date_form choice date =
    year_text date.year ++ Nian ∷ (month_text choice date.month ++ day_text date.day)

-- the choice of the form that is written
abbrev pub written : Bool
written = false
