-- What each state stands for, and that each step preserves it.
use Rattle.std.proofs.Common.{◌≡◌, ℕ, zero, suc, ◌+◌, ◌*◌, ◌<◌, ◌≤◌, ◌==◌, nat_lt, nat_le, not, Bool, true, false, List, [], ◌∷◌, ◌++◌, Option, Some, None, refl, sym, ap, subst, ◌∙◌, if◌then◌else◌, append-nil, append_assoc, arith}
use Rattle.std.proofs.lemmas.Bool.Decides.{nat_tests}
use Rattle.cn_core.proofs.Fronts.{and-left, and-right}
use Rattle.cn_date.specs.declared.capital.Capital.{Capital}
use Rattle.cn_date.specs.declared.capital.Capital.TheVariants.{Digit, Shi, Nian, Yue, Ri}
use Rattle.cn_date.specs.declared.date.BillDate.{BillDate}
use Rattle.cn_date.specs.declared.part.Part.{Part}
use Rattle.cn_date.specs.declared.part.Part.TheVariants.{Nothing, Ling, LingOne, LingTens, One, Tens, Both}
use Rattle.cn_date.specs.declared.state.State.{State}
use Rattle.cn_date.specs.declared.state.State.TheVariants.{Year, Month, Day, Complete}
use Rattle.cn_date.specs.Calendar.{IsDate, days_of}
use Rattle.cn_date.specs.Form.{year_text, month_text, day_text, date_form}
use Rattle.cn_date.specs.Working.Putting.{IsWritten}
use Rattle.cn_date.specs.Working.Steps.{IsPart, part_step, fits_month, fits_day, month_of, day_of, year_step, month_more, month_done, month_step, day_more, day_done, day_step, step}
use Rattle.cn_grammar.proofs.Characters.{AllBelow, all-at}
use Rattle.cn_date.proofs.FormsRead.{days-bounds}
use Rattle.cn_date.proofs.Years.{year_more}

-- the capitals that have been read of a number
abbrev pub part_text : Part → List Capital
part_text Nothing = []
part_text Ling = Digit 0 ∷ []
part_text (LingOne digit) = Digit 0 ∷ Digit digit ∷ []
part_text (LingTens digit) = Digit 0 ∷ Digit digit ∷ Shi ∷ []
part_text (One digit) = Digit digit ∷ []
part_text (Tens digit) = Digit digit ∷ Shi ∷ []
part_text (Both tens ones) = Digit tens ∷ Shi ∷ Digit ones ∷ []

-- the capitals that have been read up to a state
pub record YearFront (year : ℕ) (text : List Capital) : Type 0 where
  pub most : year < 10000
  pub form : text ≡ year_text year

pub record MonthFront (year : ℕ) (part : Part) (text : List Capital) : Type 0 where
  pub some : 0 < year
  pub most : year < 10000
  pub is_part : IsPart part
  pub fits : fits_month part ≡ true
  pub form : text ≡ year_text year ++ Nian ∷ part_text part

pub record DayFront (year month days : ℕ) (part : Part) (text : List Capital) : Type 0 where
  pub choice : Bool
  pub some : 0 < year
  pub most : year < 10000
  pub month_some : 0 < month
  pub month_most : month ≤ 12
  pub month_days : days ≡ days_of year month
  pub is_part : IsPart part
  pub fits : fits_day days part ≡ true
  pub form : text ≡ year_text year ++ Nian ∷ (month_text choice month ++ part_text part)

pub record DateFront (date : BillDate) (text : List Capital) : Type 0 where
  pub choice : Bool
  pub is_date : IsDate date
  pub form : text ≡ date_form choice date

abbrev pub Front : State → List Capital → Type 0
Front (Year year) text = YearFront year text
Front (Month year part) text = MonthFront year part text
Front (Day year month days part) text = DayFront year month days part text
Front (Complete date) text = DateFront date text

pub nothing-front : Front (Year 0) []
nothing-front = record { most = omega arith; form = refl }

-- one more capital of a number is read
record PartMore (part next : Part) (capital : Capital) : Type 0 where
  is_part : IsPart next
  text : part_text next ≡ part_text part ++ capital ∷ []

made-more : (part made next : Part) (capital : Capital) → Some made ≡ Some next
    → PartMore part made capital → PartMore part next capital
made-more part made next capital e h =
    let is : made ≡ next = cc in subst (λ next. PartMore part next capital) is h

part-more : (part next : Part) (capital : Capital) → IsPart part → IsWritten capital
    → part_step part capital ≡ Some next → PartMore part next capital
part-more Nothing next (Digit zero) p w e =
    made-more Nothing Ling next (Digit zero) e (record { is_part = tt; text = refl })
part-more Nothing next (Digit (suc n)) p w e =
    made-more Nothing (One (suc n)) next (Digit (suc n)) e
    (record { is_part = (omega arith, w); text = refl })
part-more Ling next (Digit (suc n)) p w e =
    made-more Ling (LingOne (suc n)) next (Digit (suc n)) e
    (record { is_part = (omega arith, w); text = refl })
part-more (LingOne digit) next Shi p w e =
    made-more (LingOne digit) (LingTens digit) next Shi e (record { is_part = p; text = refl })
part-more (One digit) next Shi p w e =
    made-more (One digit) (Tens digit) next Shi e (record { is_part = p; text = refl })
part-more (Tens digit) next (Digit (suc n)) p w e =
    made-more (Tens digit) (Both digit (suc n)) next (Digit (suc n)) e
    (record { is_part = (p.0, p.1, omega arith, w); text = refl })
part-more part next capital p w e = absurd (cc)

-- a month that is complete
record IsMonth (part : Part) (month : ℕ) : Type 0 where
  choice : Bool
  some : 0 < month
  most : month ≤ 12
  text : month_text choice month ≡ part_text part ++ Yue ∷ []

some-is : (n m : ℕ) → Some n ≡ Some m → n ≡ m
some-is n m e = cc

month-made : (part : Part) (made month : ℕ) → Some made ≡ Some month → IsMonth part made
    → IsMonth part month
month-made part made month e h = subst (IsMonth part) (some-is made month e) h

with-ling : AllBelow (λ k. month_text true (suc k) ≡ Digit 0 ∷ Digit (suc k) ∷ Yue ∷ []) 9
with-ling = (refl, (refl, (refl, (refl, (refl, (refl, (refl, (refl, (refl, tt)))))))))

without-ling : AllBelow (λ k. month_text false (suc (suc (suc k))) ≡ Digit (suc (suc (suc k))) ∷ Yue ∷ []) 7
without-ling = (refl, (refl, (refl, (refl, (refl, (refl, (refl, tt)))))))

eleven : (tens : ℕ) → (tens == 1) ≡ true → tens ≡ 1
eleven tens h = grind (arith, nat_tests)

few : (ones : ℕ) → nat_le ones 2 ≡ true → ones ≤ 2
few ones h = grind (arith, nat_tests)

both-month : (tens ones month : ℕ) → IsPart (Both tens ones)
    → Some (10 * tens + ones) ≡ Some month → tens ≡ 1 → ones ≤ 2 → IsMonth (Both tens ones) month
both-month tens zero month p e one low = absurd (omega (arith, p.2))
both-month tens (suc zero) month p e one low =
    month-made (Both tens 1) (10 * tens + 1) month e (record {
      choice = true;
      some = omega arith;
      most = omega (arith, one);
      text = rw one refl;
    })
both-month tens (suc (suc zero)) month p e one low =
    month-made (Both tens 2) (10 * tens + 2) month e (record {
      choice = true;
      some = omega arith;
      most = omega (arith, one);
      text = rw one refl;
    })
both-month tens (suc (suc (suc k))) month p e one low = absurd (omega (arith, low))

month-whole : (part : Part) (month : ℕ) → IsPart part → fits_month part ≡ true
    → month_of part ≡ Some month → IsMonth part month
month-whole (LingOne zero) month p f e = absurd (omega (arith, p.0))
month-whole (LingOne (suc k)) month p f e = month-made (LingOne (suc k)) (suc k) month e (record {
  choice = true;
  some = omega arith;
  most = omega (arith, p.1);
  text =
      all-at (λ k. month_text true (suc k) ≡ Digit 0 ∷ Digit (suc k) ∷ Yue ∷ []) 9 k with-ling
      (omega (arith, p.1));
})
month-whole (LingTens digit) month p f e =
    let one : digit ≡ 1 = grind (arith, nat_tests) in
    month-made (LingTens digit) (10 * digit) month e (record {
      choice = true;
      some = omega (arith, one);
      most = omega (arith, one);
      text = rw one refl;
    })
month-whole (One zero) month p f e = absurd (omega (arith, p.0))
month-whole (One (suc (suc (suc k)))) month p f e =
    let other : (suc (suc (suc k)) == 1) ≡ false = grind (arith, nat_tests) in
    month-made (One (suc (suc (suc k)))) (suc (suc (suc k))) month (rw other at e) (record {
      choice = false;
      some = omega arith;
      most = omega (arith, p.1);
      text = all-at (λ k. month_text false (suc (suc (suc k))) ≡ Digit (suc (suc (suc k))) ∷ Yue ∷ []) 7 k without-ling
          (omega (arith, p.1));
    })
month-whole (Both tens ones) month p f e = both-month tens ones month p e
    (eleven tens (and-left (tens == 1) _ f)) (few ones (and-right (tens == 1) _ f))
month-whole part month p f e = absurd (cc)

-- a day that is complete
record IsDay (days : ℕ) (part : Part) (day : ℕ) : Type 0 where
  some : 0 < day
  most : day ≤ days
  text : day_text day ≡ part_text part ++ Ri ∷ []

day-made : (days : ℕ) (part : Part) (made day : ℕ) → Some made ≡ Some day → IsDay days part made
    → IsDay days part day
day-made days part made day e h = subst (IsDay days part) (some-is made day e) h

ones-days : AllBelow (λ k. day_text (suc k) ≡ Digit 0 ∷ Digit (suc k) ∷ Ri ∷ []) 9
ones-days = (refl, (refl, (refl, (refl, (refl, (refl, (refl, (refl, (refl, tt)))))))))

tens-days : AllBelow (λ k. day_text (10 * suc k) ≡ Digit 0 ∷ Digit (suc k) ∷ Shi ∷ Ri ∷ []) 3
tens-days = (refl, (refl, (refl, tt)))

abbrev BothDay : ℕ → ℕ → Type 0
BothDay tens k =
    day_text (10 * suc tens + suc k) ≡ Digit (suc tens) ∷ Shi ∷ Digit (suc k) ∷ Ri ∷ []

both-days : AllBelow (λ tens. AllBelow (BothDay tens) 9) 3
both-days = (
  (refl, (refl, (refl, (refl, (refl, (refl, (refl, (refl, (refl, tt))))))))),
  (
    (refl, (refl, (refl, (refl, (refl, (refl, (refl, (refl, (refl, tt))))))))),
    ((refl, (refl, (refl, (refl, (refl, (refl, (refl, (refl, (refl, tt))))))))), tt),
  ),
)

day-whole : (days : ℕ) (part : Part) (day : ℕ) → 28 ≤ days → days ≤ 31 → IsPart part
    → fits_day days part ≡ true → day_of part ≡ Some day → IsDay days part day
day-whole days (LingOne zero) day low high p f e = absurd (omega (arith, p.0))
day-whole days (LingOne (suc k)) day low high p f e =
    day-made days (LingOne (suc k)) (suc k) day e (record {
      some = omega arith;
      most = omega (arith, p.1, low);
      text = all-at (λ k. day_text (suc k) ≡ Digit 0 ∷ Digit (suc k) ∷ Ri ∷ []) 9 k ones-days
          (omega (arith, p.1));
    })
day-whole days (LingTens zero) day low high p f e = absurd (omega (arith, p.0))
day-whole days (LingTens (suc k)) day low high p f e =
    let within : 10 * suc k ≤ days = grind (arith, nat_tests) in
    day-made days (LingTens (suc k)) (10 * suc k) day e (record {
      some = omega arith;
      most = within;
      text = all-at (λ k. day_text (10 * suc k) ≡ Digit 0 ∷ Digit (suc k) ∷ Shi ∷ Ri ∷ []) 3 k
          tens-days (omega (arith, within, high));
    })
day-whole days (Both zero ones) day low high p f e = absurd (omega (arith, p.0))
day-whole days (Both (suc tens) zero) day low high p f e = absurd (omega (arith, p.2))
day-whole days (Both (suc tens) (suc k)) day low high p f e =
    let within : 10 * suc tens + suc k ≤ days = grind (arith, nat_tests) in
    day-made days (Both (suc tens) (suc k)) (10 * suc tens + suc k) day e (record {
      some = omega arith;
      most = within;
      text = all-at (BothDay tens) 9 k
          (all-at (λ tens. AllBelow (BothDay tens) 9) 3 tens both-days
          (omega (arith, within, high))) (omega (arith, p.3));
    })
day-whole days part day low high p f e = absurd (cc)

-- the branch in which there is a state
if-some : (b : Bool) (made next : State) → (if b then Some made else None) ≡ Some next
    → (b ≡ true) × (made ≡ next)
if-some true made next e = (refl, cc)
if-some false made next e = absurd (cc)

if-none : (b : Bool) (made next : State) → (if b then None else Some made) ≡ Some next
    → (b ≡ false) × (made ≡ next)
if-none true made next e = absurd (cc)
if-none false made next e = (refl, cc)

not-true : (b : Bool) → not b ≡ true → b ≡ false
not-true true e = absurd (cc)
not-true false e = refl

year-digit : (year digit : ℕ) (next : State) (text : List Capital) → digit < 10
    → YearFront year text → year_step year (Digit digit) ≡ Some next
    → Front next (text ++ Digit digit ∷ [])
year-digit year digit next text w h e =
    let b = if-some _ (Year (10 * year + digit)) next e in
    let low : nat_lt year 1000 ≡ true = and-left _ _ b.0 in
    let less : year < 1000 = grind (arith, nat_tests) in
    let none : (10 * year + digit == 0) ≡ false = not-true _ (and-right (nat_lt year 1000) _ b.0) in
    let some : 0 < 10 * year + digit = grind (arith, nat_tests) in
    subst (λ next. Front next (text ++ Digit digit ∷ [])) b.1 (record {
      most = omega (arith, less, w);
      form = ap (λ text. text ++ Digit digit ∷ []) h.form
          ∙ sym (year_more year digit less w some);
    })

year-nian : (year : ℕ) (next : State) (text : List Capital) → YearFront year text
    → year_step year Nian ≡ Some next → Front next (text ++ Nian ∷ [])
year-nian year next text h e =
    let b = if-none _ (Month year Nothing) next e in
    let none = b.0 in
    let some : 0 < year = grind (arith, nat_tests) in
    subst (λ next. Front next (text ++ Nian ∷ [])) b.1 (record {
      some = some;
      most = h.most;
      is_part = tt;
      fits = refl;
      form = ap (λ text. text ++ Nian ∷ []) h.form;
    })

year-front : (year : ℕ) (next : State) (text : List Capital) (capital : Capital)
    → IsWritten capital → YearFront year text → year_step year capital ≡ Some next
    → Front next (text ++ capital ∷ [])
year-front year next text (Digit digit) w h e = year-digit year digit next text w h e
year-front year next text Nian w h e = year-nian year next text h e
year-front year next text capital w h e = absurd (cc)

month-part : (year : ℕ) (part : Part) (next : State) (text : List Capital) (capital : Capital)
    → IsWritten capital → MonthFront year part text → (o : Option Part)
    → part_step part capital ≡ o → month_more year o ≡ Some next
    → Front next (text ++ capital ∷ [])
month-part year part next text capital w h None s e = absurd (cc)
month-part year part next text capital w h (Some more) s e =
    let b = if-some _ (Month year more) next e in
    let m = part-more part more capital h.is_part w s in
    subst (λ next. Front next (text ++ capital ∷ [])) b.1 (record {
      some = h.some;
      most = h.most;
      is_part = m.is_part;
      fits = b.0;
      form = ap (λ text. text ++ capital ∷ []) h.form
          ∙ append_assoc (year_text year) (Nian ∷ part_text part) (capital ∷ [])
          ∙ ap (λ more. year_text year ++ Nian ∷ more) (sym m.text);
    })

month-yue : (year : ℕ) (part : Part) (next : State) (text : List Capital)
    → MonthFront year part text → (o : Option ℕ) → month_of part ≡ o
    → month_done year o ≡ Some next → Front next (text ++ Yue ∷ [])
month-yue year part next text h None s e = absurd (cc)
month-yue year part next text h (Some month) s e =
    let m = month-whole part month h.is_part h.fits s in
    let is : Day year month (days_of year month) Nothing ≡ next = cc in
    subst (λ next. Front next (text ++ Yue ∷ [])) is (record {
      choice = m.choice;
      some = h.some;
      most = h.most;
      month_some = m.some;
      month_most = m.most;
      month_days = refl;
      is_part = tt;
      fits = refl;
      form = ap (λ text. text ++ Yue ∷ []) h.form
          ∙ append_assoc (year_text year) (Nian ∷ part_text part) (Yue ∷ [])
          ∙ ap (λ more. year_text year ++ Nian ∷ more)
          (sym m.text ∙ sym (append-nil (month_text m.choice month)));
    })

month-front : (year : ℕ) (part : Part) (next : State) (text : List Capital) (capital : Capital)
    → IsWritten capital → MonthFront year part text → month_step year part capital ≡ Some next
    → Front next (text ++ capital ∷ [])
month-front year part next text Yue w h e =
    month-yue year part next text h (month_of part) refl e
month-front year part next text capital w h e =
    month-part year part next text capital w h (part_step part capital) refl e

day-part : (year month days : ℕ) (part : Part) (next : State) (text : List Capital)
    (capital : Capital) → IsWritten capital → DayFront year month days part text
    → (o : Option Part) → part_step part capital ≡ o → day_more year month days o ≡ Some next
    → Front next (text ++ capital ∷ [])
day-part year month days part next text capital w h None s e = absurd (cc)
day-part year month days part next text capital w h (Some more) s e =
    let b = if-some _ (Day year month days more) next e in
    let m = part-more part more capital h.is_part w s in
    let front = month_text h.choice month in
    subst (λ next. Front next (text ++ capital ∷ [])) b.1 (record {
      choice = h.choice;
      some = h.some;
      most = h.most;
      month_some = h.month_some;
      month_most = h.month_most;
      month_days = h.month_days;
      is_part = m.is_part;
      fits = b.0;
      form = ap (λ text. text ++ capital ∷ []) h.form
          ∙ append_assoc (year_text year) (Nian ∷ (front ++ part_text part)) (capital ∷ [])
          ∙ ap (λ more. year_text year ++ Nian ∷ more)
          (append_assoc front (part_text part) (capital ∷ [])
          ∙ ap (λ more. front ++ more) (sym m.text));
    })

day-ri : (year month days : ℕ) (part : Part) (next : State) (text : List Capital)
    → DayFront year month days part text → (o : Option ℕ) → day_of part ≡ o
    → day_done year month o ≡ Some next → Front next (text ++ Ri ∷ [])
day-ri year month days part next text h None s e = absurd (cc)
day-ri year month days part next text h (Some day) s e =
    let bounds = days-bounds year month in
    let low : 28 ≤ days = omega (arith, bounds.0, h.month_days) in
    let high : days ≤ 31 = omega (arith, bounds.1, h.month_days) in
    let d = day-whole days part day low high h.is_part h.fits s in
    let front = month_text h.choice month in
    let is : Complete (record { year = year; month = month; day = day }) ≡ next = cc in
    subst (λ next. Front next (text ++ Ri ∷ [])) is (record {
      choice = h.choice;
      is_date = (
        h.some,
        h.most,
        h.month_some,
        h.month_most,
        d.some,
        omega (arith, d.most, h.month_days),
      );
      form = ap (λ text. text ++ Ri ∷ []) h.form
          ∙ append_assoc (year_text year) (Nian ∷ (front ++ part_text part)) (Ri ∷ [])
          ∙ ap (λ more. year_text year ++ Nian ∷ more)
          (append_assoc front (part_text part) (Ri ∷ []) ∙ ap (λ more. front ++ more) (sym d.text));
    })

day-front : (year month days : ℕ) (part : Part) (next : State) (text : List Capital)
    (capital : Capital) → IsWritten capital → DayFront year month days part text
    → day_step year month days part capital ≡ Some next → Front next (text ++ capital ∷ [])
day-front year month days part next text Ri w h e =
    day-ri year month days part next text h (day_of part) refl e
day-front year month days part next text capital w h e =
    day-part year month days part next text capital w h (part_step part capital) refl e

pub front-more : (state next : State) (text : List Capital) (capital : Capital)
    → IsWritten capital → Front state text → step state capital ≡ Some next
    → Front next (text ++ capital ∷ [])
front-more (Year year) next text capital w h e = year-front year next text capital w h e
front-more (Month year part) next text capital w h e =
    month-front year part next text capital w h e
front-more (Day year month days part) next text capital w h e =
    day-front year month days part next text capital w h e
front-more (Complete date) next text capital w h e = absurd (cc)
