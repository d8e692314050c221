-- The figures shown for a date are figures of that date.
use Rattle.std.proofs.Common.{◌≡◌, ℕ, ◌+◌, ◌/◌, ◌%◌, ◌<◌, [], ◌∷◌, ◌++◌, length, Ok, codes, decimal, sym, ap, ap₂, subst, ◌∙◌, append_assoc, arith, rules}
use Rattle.std.specs.Str.{IsAscii}
use Rattle.std.proofs.lemmas.Fmt.{decimal_digit, IsAscii-decimal}
use Rattle.std.proofs.lemmas.Str.{chars-IsAscii, IsAscii-append}
use Rattle.chinese_number.specs.declared.BillDate.{BillDate}
use Rattle.cn_dynamic.specs.Decimal.{value_of}
use Rattle.cheque.specs.Digits.{AreDigits}
use Rattle.cheque.specs.DateFigures as Date
use Rattle.cheque.proofs.DigitValues.{one-digit, digits-more, digit-is}

one-ascii : (number : ℕ) → number < 10 → IsAscii (decimal number)
one-ascii number low = IsAscii-decimal number (omega (arith, low))

-- the two digits of a number below 100
two-digits : (number : ℕ)
    → Date.two_digits number ≡ (48 + number / 10 % 10) ∷ (48 + number % 10) ∷ []
two-digits number =
    ap₂ (λ a b. a ++ b) (decimal_digit (number / 10 % 10) (omega arith))
    (decimal_digit (number % 10) (omega arith))

are-two : (number : ℕ) → AreDigits (Date.two_digits number)
are-two number =
    let tens = one-digit (48 + number / 10 % 10) (digit-is (number / 10 % 10) (omega arith)) in
    let ones = one-digit (48 + number % 10) (digit-is (number % 10) (omega arith)) in
    subst AreDigits (sym (two-digits number))
    (digits-more ((48 + number / 10 % 10) ∷ []) ((48 + number % 10) ∷ []) tens ones)

write-two : (number : ℕ) → number < 100 → Date.WriteNumber 2 (Date.two_digits number) number
write-two number low =
    let worth : number ≡ value_of ((48 + number / 10 % 10) ∷ (48 + number % 10) ∷ []) = omega arith in (
      ap length (two-digits number),
      are-two number,
      worth ∙ ap value_of (sym (two-digits number)),
    )

write-year : (year : ℕ) → year < 10000
    → Date.WriteNumber 4 (Date.two_digits (year / 100) ++ Date.two_digits year) year
write-year year low =
    let digits : Date.two_digits (year / 100) ++ Date.two_digits year
    ≡ (48 + year / 100 / 10 % 10) ∷ (48 + year / 100 % 10) ∷ (48 + year / 10 % 10)
    ∷ (48 + year % 10) ∷ [] =
    ap₂ (λ a b. a ++ b) (two-digits (year / 100)) (two-digits year) in
    let worth : year ≡ value_of ((48 + year / 100 / 10 % 10) ∷ (48 + year / 100 % 10)
    ∷ (48 + year / 10 % 10) ∷ (48 + year % 10) ∷ []) = omega arith in (
      ap length digits,
      digits-more (Date.two_digits (year / 100)) (Date.two_digits year) (are-two (year / 100))
          (are-two year),
      worth ∙ ap value_of (sym digits),
    )

two-ascii : (number : ℕ) → IsAscii (Date.two_digits number)
two-ascii number = IsAscii-append _ _ (one-ascii (number / 10 % 10) (omega arith))
    (one-ascii (number % 10) (omega arith))

pub dates : (date : BillDate) → date.year < 10000 → date.month < 100 → date.day < 100
    → Date.ReadsDateFigures (Date.figures_of date) (Ok date)
dates date year month day =
    let ascii : IsAscii (Date.figures_of date) =
    IsAscii-append _ _ (two-ascii (date.year / 100)) (IsAscii-append _ _ (two-ascii date.year)
    (IsAscii-append (codes "-") _ (search rules) (IsAscii-append _ _ (two-ascii date.month)
    (IsAscii-append (codes "-") _ (search rules) (two-ascii date.day))))) in
    subst (λ figures. Date.IsDateFigures figures date)
    (sym (chars-IsAscii (Date.figures_of date) ascii)) (record {
      year = Date.two_digits (date.year / 100) ++ Date.two_digits date.year;
      month = Date.two_digits date.month;
      day = Date.two_digits date.day;
      writes_year = write-year date.year year;
      writes_month = write-two date.month month;
      writes_day = write-two date.day day;
      form = sym (append_assoc (Date.two_digits (date.year / 100)) (Date.two_digits date.year) _);
    })
