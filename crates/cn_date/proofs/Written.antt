-- What is written for a date, as bytes.
use Rattle.std.proofs.Common.{◌≡◌, ℕ, zero, suc, ◌*◌, ◌<◌, ◌≤◌, ◌/◌, ◌%◌, Bool, true, false, ◌==◌, nat_lt, List, [], ◌∷◌, ◌++◌, length, encode_utf8_all, Ok, refl, sym, ap, subst, ◌∙◌, if◌then◌else◌, length-append, arith}
use Rattle.std.specs.List.{list_all}
use Rattle.std.specs.Str.{IsUtf8}
use Rattle.std.specs.String.{string_bytes, string_len}
use Rattle.std.specs.declared.string.String.{String}
use Rattle.std.proofs.lemmas.Bool.Decides.{nat_tests}
use Rattle.std.proofs.lemmas.List.{length-map}
use Rattle.std.proofs.lemmas.List.Folds.{list_all-append}
use Rattle.std.proofs.lemmas.Str.{chars-encodes}
use Rattle.cn_core.specs.declared.script.ChineseVariant.{ChineseVariant}
use Rattle.cn_core.proofs.Fronts.{both}
use Rattle.cn_date.specs.declared.capital.Capital.{Capital}
use Rattle.cn_date.specs.declared.capital.Capital.TheVariants.{Digit, Nian}
use Rattle.cn_date.specs.declared.date.BillDate.{BillDate}
use Rattle.cn_date.specs.Calendar.{IsDate}
use Rattle.cn_date.specs.Form.{figures, year_text, month_text, day_text, date_form, written}
use Rattle.cn_date.specs.Reading.{capital_of, IsDateText, ReadsDate}
use Rattle.cn_date.specs.Writes.{capital_char, date_text, IsText}
use Rattle.cn_date.specs.Working.Putting.{HasPut}
use Rattle.cn_core.specs.declared.buffer.Buffer.{Buffer}
use Rattle.cn_core.specs.Buffers.{IsTextOf}
use Rattle.cn_core.specs.Strings.{IsStringOf}
use Rattle.cn_grammar.proofs.Puts.{puts-all}
use Rattle.cn_date.proofs.FormsRead.{days-bounds}
use Rattle.cn_grammar.proofs.Characters.{each_below-at}
use Rattle.cn_grammar.proofs.Characters as every
use Rattle.cn_date.proofs.Shows.{is_proper, capital-back, capitals-read, capitals-scalar}

shown-both : (front back : List Capital) → list_all is_proper front ≡ true
    → list_all is_proper back ≡ true → list_all is_proper (front ++ back) ≡ true
shown-both front back p q = list_all-append is_proper front back
    ∙ both (list_all is_proper front) (list_all is_proper back) p q

shown-figures : (count n : ℕ) → list_all is_proper (figures count n) ≡ true
shown-figures zero n = refl
shown-figures (suc count) n = by (n == 0) (shown-figures count (n / 10)) where
  last : nat_lt (n % 10) 10 ≡ true
  last = grind (arith, nat_tests)

  by : (b : Bool) → list_all is_proper (figures count (n / 10)) ≡ true
      → list_all is_proper (if b then [] else figures count (n / 10) ++ Digit (n % 10) ∷ []) ≡ true
  by true h = refl
  by false h = shown-both (figures count (n / 10)) (Digit (n % 10) ∷ []) h (rw last refl)

shown-month : (month : ℕ) → month < 13 → list_all is_proper (month_text written month) ≡ true
shown-month month low = each_below-at (λ month. list_all is_proper (month_text written month)) 13 month refl low

shown-day : (day : ℕ) → day < 32 → list_all is_proper (day_text day) ≡ true
shown-day day low = each_below-at (λ day. list_all is_proper (day_text day)) 32 day refl low

shown-form : (date : BillDate) → IsDate date → list_all is_proper (date_form written date) ≡ true
shown-form date is =
    let bounds = days-bounds date.year date.month in
    shown-both (year_text date.year) _ (shown-figures 4 date.year)
    (both (is_proper Nian) _ refl
    (shown-both (month_text written date.month) (day_text date.day)
    (shown-month date.month (omega (arith, is.3)))
    (shown-day date.day (omega (arith, is.5, bounds.1)))))

pub written-read : (variant : ChineseVariant) (date : BillDate) → IsDate date
    → ReadsDate (encode_utf8_all (date_text variant date)) (Ok date)
written-read variant date is =
    subst (λ text. IsDateText text date)
    (sym (chars-encodes (date_text variant date)
    (capitals-scalar variant (date_form written date) (shown-form date is))))
    (record {
      choice = written;
      is_date = is;
      form = capitals-read variant (date_form written date) (shown-form date is);
    })

pub written-utf8 : (variant : ChineseVariant) (date : BillDate) (bytes : List ℕ) → IsDate date
    → bytes ≡ encode_utf8_all (date_text variant date) → IsUtf8 bytes
written-utf8 variant date bytes ok is = (
  date_text variant date,
  (capitals-scalar variant (date_form written date) (shown-form date ok), sym is),
)

text-length : {Z : Type 0} (text : String Z) → string_len text ≡ length (string_bytes text)
text-length text = let ok = text.bytes.ok in omega (arith, ok)

written-length : (variant : ChineseVariant) (date : BillDate) → IsDate date
    → length (encode_utf8_all (date_text variant date)) ≡ 3 * length (date_text variant date)
written-length variant date ok =
    every.capitals-three capital_of (capital_char variant) is_proper (capital-back variant)
    (date_form written date) (shown-form date ok)

pub written-is : {Z : Type 0} (variant : ChineseVariant) (date : BillDate) (text : String Z)
    (bytes : List ℕ) → IsDate date → IsStringOf bytes text
    → bytes ≡ encode_utf8_all (date_text variant date) → IsText variant date text
written-is variant date text bytes ok is written =
    let same = is.content ∙ written in
    let size = text-length text in
    record {
      is_date = ok;
      bytes = same;
      len = omega (arith, size, ap length same, written-length variant date ok);
      capacity = is.capacity;
    }

length-figures : (count n : ℕ) → length (figures count n) ≤ count
length-figures zero n = omega arith
length-figures (suc count) n = by (n == 0) (length-figures count (n / 10)) where
  by : (b : Bool) → length (figures count (n / 10)) ≤ count
      → length (if b then [] else figures count (n / 10) ++ Digit (n % 10) ∷ []) ≤ suc count
  by true h = omega arith
  by false h = omega (arith, h, length-append (figures count (n / 10)) (Digit (n % 10) ∷ []))

short-month : (choice : Bool) (month : ℕ) → month < 13 → nat_lt (length (month_text choice month)) 5 ≡ true
short-month true month low = each_below-at (λ month. nat_lt (length (month_text true month)) 5) 13 month refl low
short-month false month low = each_below-at (λ month. nat_lt (length (month_text false month)) 5) 13 month refl low

short-day : (day : ℕ) → day < 32 → nat_lt (length (day_text day)) 5 ≡ true
short-day day low = each_below-at (λ day. nat_lt (length (day_text day)) 5) 32 day refl low

below-from : (n : ℕ) → nat_lt n 5 ≡ true → n < 5
below-from n h = grind (arith, nat_tests)

pub length-form : (choice : Bool) (date : BillDate) → IsDate date → length (date_form choice date) ≤ 13
length-form choice date is =
    let bounds = days-bounds date.year date.month in
    let m = below-from _ (short-month choice date.month (omega (arith, is.3))) in
    let d = below-from _ (short-day date.day (omega (arith, is.5, bounds.1))) in
    let y = length-figures 4 date.year in
    let a = length-append (year_text date.year) (Nian ∷ (month_text choice date.month ++ day_text date.day)) in
    let b = length-append (month_text choice date.month) (day_text date.day) in
    omega (arith, m, d, y, a, b)

-- the text has at most 39 bytes
pub few-bytes : (variant : ChineseVariant) (date : BillDate) → IsDate date
    → length (encode_utf8_all (date_text variant date)) ≤ 39
few-bytes variant date ok = omega (
  arith,
  written-length variant date ok,
  length-map (date_form written date) (capital_char variant),
  length-form written date ok,
)

-- the capitals written for a date are its text, and fit the buffer
pub text-of : (variant : ChineseVariant) (date : BillDate)
    (start text : Buffer) (bytes : List ℕ) → IsDate date → length start.bytes.now ≡ 39
    → HasPut variant start text (date_form written date)
    → IsTextOf text bytes → bytes ≡ encode_utf8_all (date_text variant date)
text-of variant date start text bytes ok size put of =
    puts-all _ _ start text _ bytes put of (omega (arith, few-bytes variant date ok, size))
