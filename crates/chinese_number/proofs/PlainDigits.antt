-- Plain digits are read back, also after zeros.
use Rattle.std.proofs.Common.{◌≡◌, ℕ, ◌+◌, ◌-◌, ◌*◌, ◌/◌, ◌%◌, ◌^◌, ◌<◌, ◌≤◌, ℤ, pos, nat_abs, int_lt, Bool, true, false, nat_lt, nat_le, if◌then◌else◌, List, [], ◌∷◌, ◌++◌, length, map, fold, take, drop, All, encode_utf8_all, decimal, Option, Some, None, Result, Ok, Err, refl, sym, ap, subst, ◌∙◌, arith, length-append, take-append-drop, take_all}
use Rattle.std.proofs.lemmas.Bool.Decides.{nat_tests}
use Rattle.std.proofs.lemmas.Fmt.{decimal_by_steps_wide}
use Rattle.std.proofs.lemmas.List.{map-append}
use Rattle.std.proofs.lemmas.List.Elements.{All-head, All-tail}
use Rattle.std.proofs.lemmas.List.Sums.{fold-append}
use Rattle.std.specs.List.{list_all}
use Rattle.std.specs.Option.{option_or}
use Rattle.cn_core.specs.declared.case.ChineseCase.{ChineseCase}
use Rattle.cn_core.specs.declared.script.ChineseVariant.{ChineseVariant}
use Rattle.cn_core.specs.declared.sign.Sign.{Sign}
use Rattle.cn_core.specs.Mark.{Mark, digit, unit, other}
use Rattle.cn_core.specs.Naive.{decimal_digits, decimal_value, digit_value, naive_answer, first_fault, fault_at, refused_or}
use Rattle.cn_core.specs.Numeral.{with_first_digit, starts_with_digit}
use Rattle.cn_core.specs.Refusal.{Refusal, empty, incorrect_at, too_large, too_small}
use Rattle.cn_core.specs.Text.{marks_of}
use Rattle.cn_core.specs.Reading.{naive_reading, is_minus, typed_number, typed_answer}
use Rattle.cn_core.specs.Whole.{signed_number, Kind, holds}
use Rattle.cn_core.specs.Printing.{signed_bytes, naive_text}
use Rattle.cn_core.proofs.Fronts.{list_all-both}
use Rattle.chinese_number.specs.Digits.{is_digit}
use Rattle.chinese_number.specs.Parts.{sign_at, unsigned_text}
use Rattle.cn_spell.proofs.Printed.{is_printed}
use Rattle.chinese_number.proofs.Reading.{IsWhole, HasParts-signed_text, naive_reading-parts, typed_answer-held, minus_is_signed, held-typed_number, held_is, size_of}
use Rattle.cn_spell.proofs.SignedNumbers.{written_sign, typed_number-held}

-- one more digit in the sum
abbrev step : ℕ → Mark → ℕ
step number mark = number * 10 + digit_value mark

-- a sum grows with each digit
step-le : (number : ℕ) (marks : List Mark) → number ≤ fold step number marks
step-le number [] = omega arith
step-le number (mark ∷ rest) = let up = step-le (step number mark) rest in omega (arith, up)

pub front-le : (k : ℕ) (marks : List Mark) → decimal_value (take k marks) ≤ decimal_value marks
front-le k marks =
    let parts : fold step 0 (take k marks ++ drop k marks)
    ≡ fold step (fold step 0 (take k marks)) (drop k marks) =
    fold-append step 0 (take k marks) (drop k marks) in
    let whole : fold step 0 (take k marks ++ drop k marks) ≡ fold step 0 marks =
    ap (fold step 0) (take-append-drop k marks) in
    let up = step-le (fold step 0 (take k marks)) (drop k marks) in
    omega (arith, parts, whole, up)

-- digits whose number fits have no fault
no_fault : (marks : List Mark) (place : ℕ) (rest : List Mark) → list_all is_digit rest ≡ true
    → decimal_value marks < 2 ^ 128 → first_fault marks place rest ≡ None
no_fault marks place [] h small = refl
no_fault marks place (digit value ∷ rest) h small =
    let low = front-le (place + 1) marks in
    let test : nat_le (2 ^ 128) (decimal_value (take (place + 1) marks)) ≡ false =
    grind (arith, nat_tests) in
    rw test (no_fault marks (place + 1) rest h small)
no_fault marks place (unit rank ∷ rest) h small = cc
no_fault marks place (other ∷ rest) h small = cc

pub naive_answer-digits : (marks : List Mark) → 0 < length marks → list_all is_digit marks ≡ true
    → decimal_value marks < 2 ^ 128 → naive_answer marks ≡ Ok (decimal_value marks)
naive_answer-digits [] some h small = absurd (omega (arith, some))
naive_answer-digits (mark ∷ rest) some h small =
    ap (λ f. refused_or f (decimal_value (mark ∷ rest)))
    (no_fault (mark ∷ rest) 0 (mark ∷ rest) h small)

-- and without a fault there are digits alone, whose number fits
option_or-None : (a b : Option Refusal) → option_or a b ≡ None → (a ≡ None) × (b ≡ None)
option_or-None None b h = (refl, h)
option_or-None (Some x) b h = cc

all_digits : (marks : List Mark) (place : ℕ) (rest : List Mark)
    → first_fault marks place rest ≡ None → list_all is_digit rest ≡ true
all_digits marks place [] h = refl
all_digits marks place (digit value ∷ rest) h =
    all_digits marks (place + 1) rest (option_or-None (fault_at marks place (digit value))
    (first_fault marks (place + 1) rest) h).1
all_digits marks place (unit rank ∷ rest) h = cc
all_digits marks place (other ∷ rest) h = cc

digits_fit : (marks : List Mark) (place : ℕ) (rest : List Mark) → first_fault marks place rest
    ≡ None → 0 < length rest → place + length rest ≡ length marks → decimal_value marks < 2 ^ 128
digits_fit marks place [] h some at = absurd (omega (arith, some))
digits_fit marks place (digit value ∷ []) h some at =
    by (nat_le (2 ^ 128) (decimal_value (take (place + 1) marks))) refl
    (option_or-None (fault_at marks place (digit value)) None h).0 where
      by : (b : Bool) → nat_le (2 ^ 128) (decimal_value (take (place + 1) marks)) ≡ b
          → (if b then Some too_large else None) ≡ None → decimal_value marks < 2 ^ 128
      by true e h = cc
      by false e h =
          let end : place + 1 ≡ length marks = omega (arith, at) in
          let all : take (place + 1) marks ≡ marks =
          take_all (place + 1) marks (omega (arith, end)) in
          let low : decimal_value (take (place + 1) marks) < 2 ^ 128 = grind (arith, nat_tests) in
          subst (λ l. decimal_value l < 2 ^ 128) all low
digits_fit marks place (digit value ∷ mark ∷ rest) h some at =
    digits_fit marks (place + 1) (mark ∷ rest)
    (option_or-None (fault_at marks place (digit value))
    (first_fault marks (place + 1) (mark ∷ rest)) h).1 (omega arith) (omega (arith, at))
digits_fit marks place (unit rank ∷ rest) h some at = cc
digits_fit marks place (other ∷ rest) h some at = cc

-- what an answered text of digits is like
pub record IsPlain (marks : List Mark) (number : ℕ) : Type 0 where
  pub some : 0 < length marks
  pub digits : list_all is_digit marks ≡ true
  pub value : decimal_value marks ≡ number
  pub small : number < 2 ^ 128

pub IsPlain-answered : (marks : List Mark) (number : ℕ) → naive_answer marks ≡ Ok number
    → IsPlain marks number
IsPlain-answered [] number h = cc
IsPlain-answered (mark ∷ rest) number h =
    by (first_fault (mark ∷ rest) 0 (mark ∷ rest)) refl h where
      by : (f : Option Refusal) → first_fault (mark ∷ rest) 0 (mark ∷ rest) ≡ f
          → refused_or f (decimal_value (mark ∷ rest)) ≡ Ok number → IsPlain (mark ∷ rest) number
      by (Some refusal) e h = cc
      by None e h =
          let value : decimal_value (mark ∷ rest) ≡ number = cc in
          let fits = digits_fit (mark ∷ rest) 0 (mark ∷ rest) e (omega arith) (omega arith) in
          record {
            some = omega arith;
            digits = all_digits (mark ∷ rest) 0 (mark ∷ rest) e;
            value =
                value;
            small = omega (arith, value, fits);
          }

-- an answered number has an answered magnitude
pub answered : (kind : Kind) (bytes : List ℕ) (sign : Option Sign) (number : ℤ)
    (judged : Result ℕ Refusal) → typed_answer kind bytes sign judged ≡ Ok number
    → (magnitude : ℕ) × (judged ≡ Ok magnitude)
answered kind bytes sign number (Ok magnitude) h = (magnitude, refl)
answered kind bytes sign number (Err empty) h = cc
answered kind bytes sign number (Err (incorrect_at place)) h = cc
answered kind bytes sign number (Err too_large) h = cc
answered kind bytes sign number (Err too_small) h = cc

-- exactly digits whose signed value fits are answered by that value
pub naive_reading-number : (kind : Kind) (bytes : List ℕ) (number : ℤ)
    → naive_reading kind bytes ≡ Ok number
    → let marks = marks_of (unsigned_text kind bytes) in
    (0 < length marks) × (list_all is_digit marks ≡ true)
    × (signed_number (is_minus (sign_at kind bytes)) (decimal_value marks) ≡ number)
    × holds kind number ≡ true
naive_reading-number kind bytes number h =
    let sign = sign_at kind bytes in
    let marks = marks_of (unsigned_text kind bytes) in
    let a = answered kind bytes sign number (naive_answer marks) h in
    let plain = IsPlain-answered marks a.0 a.1 in
    let held : typed_number kind (signed_number (is_minus sign) a.0) ≡ Ok number =
    ap (typed_answer kind bytes sign) (sym a.1) ∙ h in (
      plain.some,
      plain.digits,
      ap (signed_number (is_minus sign)) plain.value
          ∙ held_is kind (signed_number (is_minus sign) a.0) number held,
      held-typed_number kind (signed_number (is_minus sign) a.0) number held,
    )

pub naive_reading-digits : (kind : Kind) (bytes : List ℕ) (number : ℤ) → IsWhole kind
    → let marks = marks_of (unsigned_text kind bytes) in
    (0 < length marks) × (list_all is_digit marks ≡ true)
    × (signed_number (is_minus (sign_at kind bytes)) (decimal_value marks) ≡ number)
    × holds kind number ≡ true
    → naive_reading kind bytes ≡ Ok number
naive_reading-digits kind bytes number whole (some, digits, is, held) =
    let sign = sign_at kind bytes in
    let marks = marks_of (unsigned_text kind bytes) in
    let small : decimal_value marks < 2 ^ 128 =
    omega (arith, whole.fits number held, size_of sign (decimal_value marks), ap nat_abs is) in
    ap (typed_answer kind bytes sign) (naive_answer-digits marks some digits small)
    ∙ ap (typed_number kind) is ∙ typed_number-held kind number held

-- zeros in front leave the answer as it was
zeros_sum : (zeros : List Mark) → All (λ mark. mark ≡ digit 0) zeros
    → (list_all is_digit zeros ≡ true) × (fold step 0 zeros ≡ 0)
zeros_sum [] h = (refl, refl)
zeros_sum (mark ∷ rest) h =
    let is = All-head (λ mark. mark ≡ digit 0) mark rest h in
    let ih = zeros_sum rest (All-tail (λ mark. mark ≡ digit 0) mark rest h) in
    (rw is ih.0, rw is ih.1)

pub naive_answer-zeros : (zeros marks : List Mark) (number : ℕ)
    → All (λ mark. mark ≡ digit 0) zeros → naive_answer marks ≡ Ok number
    → naive_answer (zeros ++ marks) ≡ Ok number
naive_answer-zeros zeros marks number z h =
    let plain = IsPlain-answered marks number h in
    let sum = zeros_sum zeros z in
    let total : decimal_value (zeros ++ marks) ≡ number =
    fold-append step 0 zeros marks ∙ ap (λ n. fold step n marks) sum.1 ∙ plain.value in
    let long : 0 < length (zeros ++ marks) = omega (arith, length-append zeros marks, plain.some) in
    naive_answer-digits (zeros ++ marks) long
    (list_all-both is_digit zeros marks sum.0 plain.digits) (omega (arith, total, plain.small))
    ∙ ap Ok total

-- the decimal digits of a number
pub record IsDecimal (number : ℕ) (bytes : List ℕ) : Type 0 where
  pub some : 0 < length bytes
  pub printed : list_all is_printed (map (λ byte. digit (byte - 48)) bytes) ≡ true
  pub digits : list_all is_digit (map (λ byte. digit (byte - 48)) bytes) ≡ true
  pub value : decimal_value (map (λ byte. digit (byte - 48)) bytes) ≡ number

IsDecimal-one : (n : ℕ) → n < 10 → IsDecimal n ((48 + n) ∷ [])
IsDecimal-one n low =
    let same : 48 + n - 48 ≡ n = omega arith in
    let test : nat_lt n 10 ≡ true = grind (arith, nat_tests) in
    record {
      some = omega arith;
      printed = rw (same, test);
      digits = refl;
      value =
          omega (arith, same);
    }

IsDecimal-more : (n : ℕ) (bytes : List ℕ) → 10 ≤ n → IsDecimal (n / 10) bytes
    → IsDecimal n (bytes ++ ((48 + n % 10) ∷ []))
IsDecimal-more n bytes high h =
    let f = λ (byte : ℕ). digit (byte - 48) in
    let same : 48 + n % 10 - 48 ≡ n % 10 = omega arith in
    let test : nat_lt (n % 10) 10 ≡ true =
    (let low : n % 10 < 10 = omega arith in grind (arith, nat_tests)) in
    let parts : map f (bytes ++ ((48 + n % 10) ∷ [])) ≡ map f bytes ++ digit (n % 10) ∷ [] =
    map-append f bytes ((48 + n % 10) ∷ []) ∙ ap (λ d. map f bytes ++ digit d ∷ []) same in
    let sum : fold step (decimal_value (map f bytes)) (digit (n % 10) ∷ []) ≡ n =
    (let v = h.value in rw v (omega arith)) in
    record {
      some = omega (arith, length-append bytes ((48 + n % 10) ∷ []));
      printed = rw parts (list_all-both is_printed (map f bytes) (digit (n % 10) ∷ []) h.printed
          (rw test));
      digits = rw parts (list_all-both is_digit (map f bytes) (digit (n % 10) ∷ []) h.digits refl);
      value = ap decimal_value parts ∙ fold-append step 0 (map f bytes) (digit (n % 10) ∷ []) ∙ sum;
    }

pub decimal_is : (n : ℕ) → n < 2 ^ 128 → IsDecimal n (decimal n)
decimal_is n small = decimal_by_steps_wide IsDecimal IsDecimal-one IsDecimal-more n
    (omega (arith, small))

pub starts : (bytes : List ℕ) → 0 < length bytes
    → starts_with_digit (with_first_digit (map (λ byte. digit (byte - 48)) bytes)) ≡ true
starts [] h = absurd (omega (arith, h))
starts (byte ∷ rest) h = refl

long : (bytes : List ℕ) → 0 < length bytes → 0 < length (map (λ byte. digit (byte - 48)) bytes)
long [] h = absurd (omega (arith, h))
long (byte ∷ rest) h = omega arith

-- what is printed as plain digits is read back
pub naive_reading-signed_text : (kind : Kind) (variant : ChineseVariant) (case : ChineseCase) (number : ℤ) → IsWhole kind → holds kind number ≡ true
    → naive_reading kind (signed_bytes variant case (int_lt number (pos 0)) (decimal_digits (nat_abs number))) ≡ Ok number
naive_reading-signed_text kind variant case number whole held =
    let small = whole.fits number held in
    let d = decimal_is (nat_abs number) small in
    let negative = int_lt number (pos 0) in
    let marks = decimal_digits (nat_abs number) in
    let bytes = signed_bytes variant case negative marks in
    naive_reading-parts kind bytes (written_sign negative) marks
    (HasParts-signed_text kind variant case negative marks (minus_is_signed kind number whole held) d.printed (starts (decimal (nat_abs number)) d.some))
    ∙ ap (typed_answer kind bytes (written_sign negative))
    (naive_answer-digits marks (long (decimal (nat_abs number)) d.some) d.digits
    (omega (arith, d.value, small)) ∙ ap Ok d.value)
    ∙ typed_answer-held kind number bytes held

-- so two numbers with one such text are one
pub same_from_digits : (kind : Kind) (variant : ChineseVariant) (case : ChineseCase) (one second : ℤ) → IsWhole kind → holds kind one ≡ true → holds kind second ≡ true
    → encode_utf8_all (naive_text variant case one) ≡ encode_utf8_all (naive_text variant case second) → one ≡ second
same_from_digits kind variant case one second whole held_one held_second same =
    let answers : Ok one ≡ Ok second = sym (naive_reading-signed_text kind variant case one whole held_one) ∙ ap (naive_reading kind) same ∙ naive_reading-signed_text kind variant case second whole held_second in
    cc
