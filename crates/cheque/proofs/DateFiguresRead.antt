-- The states read the figures of dates.
use Rattle.std.proofs.Common.{◌≡◌, ℕ, zero, suc, ◌+◌, ◌-◌, ◌*◌, ◌<◌, ◌≤◌, ◌==◌, nat_lt, Bool, true, false, List, [], ◌∷◌, ◌++◌, length, length-append, Some, None, ◌⊎◌, inl, inr, option_map, codes, refl, sym, ap, subst, ◌∙◌, if◌then◌else◌, append_assoc, arith}
use Rattle.std.specs.Char.{is_ascii_digit}
use Rattle.std.proofs.lemmas.Bool.Decides.{nat_tests}
use Rattle.chinese_number.specs.declared.BillDate.{BillDate}
use Rattle.cn_grammar.specs.Answers.{Begins}
use Rattle.cn_grammar.specs.Machine.{run, Leads, Reached, Reads}
use Rattle.cn_grammar.proofs.Runs.{some-is, run-ran, run-append, kept}
use Rattle.cheque.specs.declared.dates.Number.{Number}
use Rattle.cheque.specs.declared.dates.State.{State}
use Rattle.cheque.specs.declared.dates.State.TheVariants.{Year, Month, Day}
use Rattle.cn_dynamic.specs.Decimal.{value_after, value_of}
use Rattle.cheque.specs.Digits.{AreDigits}
use Rattle.cheque.specs.DateFigures.{WriteNumber, IsDateFigures}
use Rattle.cheque.specs.Working.DateSteps.{AreBelow, no_number, with_digit, after_digit, after_hyphen, step, end, date_machine}
use Rattle.cheque.proofs.DigitValues.{first-digit, rest-digits, one-digit, digits-more, value-more, digit-low, at-digit, by-either}

-- what each state stands for
abbrev Front : State → List ℕ → Type 0
Front (Year year) text = WriteNumber year.digits text year.value × (year.digits ≤ 4)
Front (Month year month) text =
    (years months : List ℕ) × WriteNumber 4 years year
    × WriteNumber month.digits months month.value × (month.digits ≤ 2)
    × (text ≡ years ++ 45 ∷ months)
Front (Day year month day) text =
    (years months days : List ℕ) × WriteNumber 4 years year × WriteNumber 2 months month
    × WriteNumber day.digits days day.value × (day.digits ≤ 2)
    × (text ≡ years ++ 45 ∷ (months ++ 45 ∷ days))

number-more : (count : ℕ) (digits : List ℕ) (value c : ℕ) → WriteNumber count digits value
    → is_ascii_digit c ≡ true
    → WriteNumber (count + 1) (digits ++ c ∷ []) (10 * value + (c - 48))
number-more count digits value c h d = (
  omega (arith, h.0, length-append digits (c ∷ [])),
  digits-more digits (c ∷ []) h.1 (one-digit c d),
  omega (arith, h.2, value-more 0 digits c),
)

-- the branch in which there is a value
chosen : {A : Type 0} (b : Bool) (some next : A) → (if b then Some some else None) ≡ Some next
    → (b ≡ true) × (some ≡ next)
chosen true some next e = (refl, some-is some next e)
chosen false some next e = absurd (cc)

taken : (W : Number → State) (number : Number) (digit most : ℕ) (next : State)
    → option_map W (with_digit number digit most) ≡ Some next
    → (number.digits < most)
    × (W (record { digits = number.digits + 1; value = 10 * number.value + digit }) ≡ next)
taken W number digit most next e = by (nat_lt number.digits most) refl e where
  by : (b : Bool) → nat_lt number.digits most ≡ b
      → option_map W (if b
      then Some (record { digits = number.digits + 1; value = 10 * number.value + digit })
      else None) ≡ Some next
      → (number.digits < most)
      × (W (record { digits = number.digits + 1; value = 10 * number.value + digit }) ≡ next)
  by true less e = (grind (arith, nat_tests, less), some-is _ next e)
  by false less e = absurd (cc)

digit-more : (state next : State) (text : List ℕ) (c : ℕ) → Front state text
    → is_ascii_digit c ≡ true → after_digit state (c - 48) ≡ Some next → Front next (text ++ c ∷ [])
digit-more (Year year) next text c h d e =
    let t = taken Year year (c - 48) 4 next e in
    subst (λ state. Front state (text ++ c ∷ [])) t.1
    (number-more year.digits text year.value c h.0 d, omega (arith, t.0))
digit-more (Month year month) next text c h d e =
    let t = taken (Month year) month (c - 48) 2 next e in
    subst (λ state. Front state (text ++ c ∷ [])) t.1 (
      h.0,
      h.1 ++ c ∷ [],
      h.2,
      number-more month.digits h.1 month.value c h.3 d,
      omega (arith, t.0),
      ap (λ front. front ++ c ∷ []) h.5 ∙ append_assoc h.0 (45 ∷ h.1) (c ∷ []),
    )
digit-more (Day year month day) next text c h d e =
    let t = taken (Day year month) day (c - 48) 2 next e in
    subst (λ state. Front state (text ++ c ∷ [])) t.1 (
      h.0,
      h.1,
      h.2 ++ c ∷ [],
      h.3,
      h.4,
      number-more day.digits h.2 day.value c h.5 d,
      omega (arith, t.0),
      ap (λ front. front ++ c ∷ []) h.7
          ∙ append_assoc h.0 (45 ∷ (h.1 ++ 45 ∷ h.2)) (c ∷ [])
          ∙ ap (λ rest. h.0 ++ 45 ∷ rest) (append_assoc h.1 (45 ∷ h.2) (c ∷ [])),
    )

equal : (a b : ℕ) → (a == b) ≡ true → a ≡ b
equal a b h = grind (arith, nat_tests, h)

hyphen-more : (state next : State) (text : List ℕ) → Front state text
    → after_hyphen state ≡ Some next → Front next (text ++ 45 ∷ [])
hyphen-more (Year year) next text h e =
    let t = chosen (year.digits == 4) (Month year.value no_number) next e in
    subst (λ state. Front state (text ++ 45 ∷ [])) t.1 (
      text,
      [],
      subst (λ count. WriteNumber count text year.value) (equal year.digits 4 t.0) h.0,
      (refl, refl, refl),
      omega arith,
      refl,
    )
hyphen-more (Month year month) next text h e =
    let t = chosen (month.digits == 2) (Day year month.value no_number) next e in
    subst (λ state. Front state (text ++ 45 ∷ [])) t.1 (
      h.0,
      h.1,
      [],
      h.2,
      subst (λ count. WriteNumber count h.1 month.value) (equal month.digits 2 t.0) h.3,
      (refl, refl, refl),
      omega arith,
      ap (λ front. front ++ 45 ∷ []) h.5 ∙ append_assoc h.0 (45 ∷ h.1) (45 ∷ []),
    )
hyphen-more (Day year month day) next text h e = absurd (cc)

front-more : (state next : State) (text : List ℕ) (c : ℕ) → Front state text
    → step state c ≡ Some next → Front next (text ++ c ∷ [])
front-more state next text c h e =
    by (by-either 45 (after_hyphen state) (after_digit state) c next e) where
      by : ((45 ≡ c) × (after_hyphen state ≡ Some next))
          ⊎ ((is_ascii_digit c ≡ true) × (after_digit state (c - 48) ≡ Some next))
          → Front next (text ++ c ∷ [])
      by (inl (is, e)) = subst (λ c. Front next (text ++ c ∷ [])) is (hyphen-more state next text h e)
      by (inr (d, e)) = digit-more state next text c h d e

front-read : (text : List ℕ) (state : State) → Leads date_machine text state → Front state text
front-read text state e = kept step Front front-more [] text (Year no_number) state
    ((refl, refl, refl), omega arith) e

-- a number of few digits is small
few : (digits : List ℕ) (count value : ℕ) → WriteNumber count digits value → count < 4 → value < 1000
few [] count value h less = omega (arith, h.2)
few (a ∷ []) count value h less = omega (arith, h.2, digit-low a (first-digit a [] h.1))
few (a ∷ b ∷ []) count value h less =
    omega (
      arith,
      h.2,
      digit-low a (first-digit a (b ∷ []) h.1),
      digit-low b (first-digit b [] (rest-digits a (b ∷ []) h.1)),
    )
few (a ∷ b ∷ c ∷ []) count value h less =
    let rest = rest-digits a (b ∷ c ∷ []) h.1 in
    omega (
      arith,
      h.2,
      digit-low a (first-digit a (b ∷ c ∷ []) h.1),
      digit-low b (first-digit b (c ∷ []) rest),
      digit-low c (first-digit c [] (rest-digits b (c ∷ []) rest)),
    )
few (a ∷ b ∷ c ∷ d ∷ digits) count value h less = absurd (omega (arith, h.0, less))

two : (digits : List ℕ) (value : ℕ) → WriteNumber 2 digits value → value < 100
two (a ∷ b ∷ []) value h =
    omega (
      arith,
      h.2,
      digit-low a (first-digit a (b ∷ []) h.1),
      digit-low b (first-digit b [] (rest-digits a (b ∷ []) h.1)),
    )
two [] value h = absurd (omega (arith, h.0))
two (a ∷ []) value h = absurd (omega (arith, h.0))
two (a ∷ b ∷ c ∷ digits) value h = absurd (omega (arith, h.0))

pub are-below : (state : State) → Reached date_machine state → AreBelow state
are-below state reached = by state (front-read reached.0 state reached.1) where
  by : (state : State) → Front state reached.0 → AreBelow state
  by (Year year) h = λ less. few reached.0 year.digits year.value h.0 less
  by (Month year month) h = λ less. few h.1 month.digits month.value h.3 (omega (arith, less))
  by (Day year month day) h = λ less. few h.2 day.digits day.value h.5 (omega (arith, less))

pub month-small : (state : State) → Reached date_machine state → (year month : ℕ) (day : Number)
    → state ≡ Day year month day → month < 100
month-small state reached year month day is =
    let h = front-read reached.0 (Day year month day)
    (subst (Leads date_machine reached.0) is reached.1) in
    two h.1 month h.4

pub day-small : (state : State) → Reached date_machine state → (year month : ℕ) (day : Number)
    → state ≡ Day year month day → day.digits ≡ 2 → day.value < 100
day-small state reached year month day is whole =
    let h = front-read reached.0 (Day year month day)
    (subst (Leads date_machine reached.0) is reached.1) in
    two h.2 day.value (subst (λ count. WriteNumber count h.2 day.value) whole h.5)

-- a text that is read to its end is figures
only-read : (text : List ℕ) (state : State) (date : BillDate) → Leads date_machine text state
    → end state ≡ Some date → IsDateFigures text date
only-read text (Day year month day) date r e =
    let h = front-read text (Day year month day) r in
    let t = chosen (day.digits == 2) (record { year = year; month = month; day = day.value }) date e in
    subst (IsDateFigures text) t.1 (record {
      year = h.0;
      month = h.1;
      day = h.2;
      writes_year = h.3;
      writes_month = h.4;
      writes_day = subst (λ count. WriteNumber count h.2 day.value) (equal day.digits 2 t.0) h.5;
      form = h.7;
    })
only-read text (Year year) date r e = absurd (cc)
only-read text (Month year month) date r e = absurd (cc)

-- figures are read to their end
step-digit : (state : State) (c : ℕ) → is_ascii_digit c ≡ true → step state c ≡ after_digit state (c - 48)
step-digit state c d = at-digit 45 (after_hyphen state) (after_digit state) c refl d

run-number : (W : Number → State) (most : ℕ)
    → ((number : Number) (digit : ℕ) → after_digit (W number) digit
    ≡ option_map W (with_digit number digit most))
    → (count value : ℕ) (digits : List ℕ) → AreDigits digits → count + length digits ≡ most
    → run step (W (record { digits = count; value = value })) digits
    ≡ Some (W (record { digits = most; value = value_after value digits }))
run-number W most steps count value [] h is =
    let same : count ≡ most = omega (arith, is) in
    ap (λ count. Some (W (record { digits = count; value = value }))) same
run-number W most steps count value (c ∷ digits) h is =
    let number : Number = record { digits = count; value = value } in
    let next : Number = record { digits = count + 1; value = 10 * value + (c - 48) } in
    let less : nat_lt count most ≡ true = grind (arith, nat_tests, is) in
    run-ran step (W number) c digits (Some (W next))
    (step-digit (W number) c (first-digit c digits h) ∙ steps number (c - 48)
    ∙ ap (λ (b : Bool). option_map W (if b then Some next else None)) less)
    ∙ run-number W most steps (count + 1) (10 * value + (c - 48)) digits (rest-digits c digits h)
    (omega (arith, is))
    ∙ (let same : 10 * value + (c - 48) ≡ value * 10 + (c - 48) = omega arith in
    ap (λ v. Some (W (record { digits = most; value = value_after v digits }))) same)

each-read : (text : List ℕ) (date : BillDate) → IsDateFigures text date
    → (state : State) × Leads date_machine text state × (end state ≡ Some date)
each-read text date h =
    let years = run-number Year 4 (λ number digit. refl) 0 0 h.year h.writes_year.1
    (omega (arith, h.writes_year.0)) in
    let months = run-number (Month (value_of h.year)) 2 (λ number digit. refl) 0 0 h.month
    h.writes_month.1 (omega (arith, h.writes_month.0)) in
    let days = run-number (Day (value_of h.year) (value_of h.month)) 2 (λ number digit. refl) 0 0
    h.day h.writes_day.1 (omega (arith, h.writes_day.0)) in (
      Day (value_of h.year) (value_of h.month) (record { digits = 2; value = value_of h.day }),
      ap (run step (Year no_number)) h.form
          ∙ run-append step (Year no_number) h.year _ _ years
          ∙ run-append step (Month (value_of h.year) no_number) h.month _ _ months ∙ days,
      ap (λ year. Some (record { year = year; month = value_of h.month; day = value_of h.day }))
          (sym h.writes_year.2)
          ∙ ap (λ month. Some (record { year = date.year; month = month; day = value_of h.day }))
          (sym h.writes_month.2)
          ∙ ap (λ day. Some (record { year = date.year; month = date.month; day = day }))
          (sym h.writes_day.2),
    )

-- what has been read can be completed by zeros
abbrev zeros : ℕ → List ℕ
zeros zero = []
zeros (suc n) = 48 ∷ zeros n

length-zeros : (n : ℕ) → length (zeros n) ≡ n
length-zeros zero = refl
length-zeros (suc n) = let more = length-zeros n in omega (arith, more)

are-zeros : (n : ℕ) → AreDigits (zeros n)
are-zeros zero = refl
are-zeros (suc n) = are-zeros n

filled : (most count : ℕ) (digits : List ℕ) (value : ℕ) → WriteNumber count digits value
    → count ≤ most
    → WriteNumber most (digits ++ zeros (most - count)) (value_of (digits ++ zeros (most - count)))
filled most count digits value h few = (
  omega (arith, h.0, few, length-append digits (zeros (most - count)), length-zeros (most - count)),
  digits-more digits (zeros (most - count)) h.1 (are-zeros (most - count)),
  refl,
)

begins-read : (text : List ℕ) (state : State) → Leads date_machine text state
    → Begins IsDateFigures text
begins-read text state r = by state (front-read text state r) where
  by : (state : State) → Front state text → Begins IsDateFigures text
  by (Year year) h =
      let z = zeros (4 - year.digits) in (
        z ++ codes "-00-00",
        record { year = value_of (text ++ z); month = 0; day = 0 },
        record {
          year = text ++ z;
          month = codes "00";
          day = codes "00";
          writes_year = filled 4 year.digits text year.value h.0 h.1;
          writes_month = (refl, refl, refl);
          writes_day = (refl, refl, refl);
          form = sym (append_assoc text z (codes "-00-00"));
        },
      )
  by (Month year month) h =
      let z = zeros (2 - month.digits) in (
        z ++ codes "-00",
        record { year = year; month = value_of (h.1 ++ z); day = 0 },
        record {
          year = h.0;
          month = h.1 ++ z;
          day = codes "00";
          writes_year = h.2;
          writes_month = filled 2 month.digits h.1 month.value h.3 h.4;
          writes_day = (refl, refl, refl);
          form = ap (λ front. front ++ (z ++ codes "-00")) h.5
              ∙ append_assoc h.0 (45 ∷ h.1) (z ++ codes "-00")
              ∙ ap (λ rest. h.0 ++ 45 ∷ rest) (sym (append_assoc h.1 z (codes "-00")));
        },
      )
  by (Day year month day) h =
      let z = zeros (2 - day.digits) in (
        z,
        record { year = year; month = month; day = value_of (h.2 ++ z) },
        record {
          year = h.0;
          month = h.1;
          day = h.2 ++ z;
          writes_year = h.3;
          writes_month = h.4;
          writes_day = filled 2 day.digits h.2 day.value h.5 h.6;
          form = ap (λ front. front ++ z) h.7
              ∙ append_assoc h.0 (45 ∷ (h.1 ++ 45 ∷ h.2)) z
              ∙ ap (λ rest. h.0 ++ 45 ∷ rest) (append_assoc h.1 (45 ∷ h.2) z);
        },
      )

pub date_reads : Reads IsDateFigures date_machine
date_reads = record { each = each-read; only = only-read; begins = begins-read }
