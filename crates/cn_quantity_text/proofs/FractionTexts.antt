-- A written fraction is read as that fraction.
use Rattle.std.proofs.Common.{◌≡◌, ℕ, ◌*◌, ◌^◌, ◌<◌, ◌≤◌, Bool, true, false, ◌&&◌, ◌||◌, ◌==◌, nat_le, nat_lt, is_none, List, [], ◌∷◌, ◌++◌, length, map, Option, Some, None, Ok, Err, refl, sym, ap, ◌∙◌, arith, if◌then◌else◌}
use Rattle.std.specs.List.{list_all}
use Rattle.std.specs.Option.{option_map_or}
use Rattle.std.proofs.lemmas.Bool.Decides.{nat_tests}
use Rattle.cn_core.specs.declared.case.ChineseCase.{ChineseCase}
use Rattle.cn_core.specs.declared.method.ChineseCountMethod.{ChineseCountMethod}
use Rattle.cn_core.specs.declared.script.ChineseVariant.{ChineseVariant}
use Rattle.cn_core.specs.declared.sign.Sign.{Sign}
use Rattle.cn_core.specs.Characters.{rank_of, digit_char, sign_of as numeral_sign}
use Rattle.cn_core.specs.Mark.{Mark, digit, mark_of}
use Rattle.cn_core.specs.Numeral.{is_digit_or_unit}
use Rattle.cn_core.specs.Place.{some_unfit}
use Rattle.cn_core.specs.Printing.{mark_char}
use Rattle.cn_core.specs.Refusal.{incorrect_at}
use Rattle.cn_core.specs.Spelling.{spelling}
use Rattle.cn_core.specs.Text.{marks_of}
use Rattle.cn_core.specs.Value.{numeral_value, weight}
use Rattle.cn_core.proofs.Fronts.{and-left, and-right, both}
use Rattle.cn_quantity_text.specs.Numerals.{divisor_text, stand_alone, without_front}
use Rattle.cn_quantity_text.proofs.DecimalTexts.{IsSpelled, IsSpelled-magnitude, part-whole, printed-marks}
use Rattle.cn_quantity_text.proofs.SpelledNumbers.{mark_read}
use Rattle.cn_quantity.specs.Answer.{and_then}
use Rattle.cn_quantity.specs.Characters.{sign_of}
use Rattle.cn_quantity.specs.Number.{decimal_of, divisor_answer, is_divisor, number_answer, part_answer}
use Rattle.cn_quantity.specs.Reading.{leading_sign}
use Rattle.cn_quantity.specs.Units.{are_rising_units, times_units}
use Rattle.cn_quantity.proofs.NumeralsAreQuantities.{are_marks, first-mark, own, units-no_value, units-product}
use Rattle.cn_spell.proofs.Printed.{IsReadBack, IsReadBack-marks, is_printed}
use Rattle.cn_spell.proofs.ReadByOther.{IsReadBy}
use Rattle.cn_spell.proofs.SpelledMarks.{spelling-printed}

-- the properties of a written divisor
pub record IsDivisorText (method : ChineseCountMethod) (divisor : ℕ)
    (text : List ℕ) : Type 0 where
  pub marks : are_marks text ≡ true
  pub some : 0 < length text
  pub no_sign : (more : List ℕ) → leading_sign (text ++ more) ≡ None
  pub read : part_answer method text ≡ Ok (record { number = divisor; decimals = 0 })

-- a divisor with its 一, or without one to leave out, is a number like any other
IsDivisorText-spelled : (method : ChineseCountMethod) (divisor : ℕ) (text : List ℕ)
    → IsSpelled method divisor text → IsDivisorText method divisor text
IsDivisorText-spelled method divisor text s = record {
  marks = s.marks;
  some = filled;
  no_sign = λ more. ap (λ l. leading_sign (l ++ more)) s.begins.parts ∙ s.begins.no_sign;
  read = part-whole method divisor text s;
} where
  filled : 0 < length text
  filled = let size = ap length s.begins.parts in omega (arith, size)

-- after 一, the product of the scales of the rising units is the number
units-number : (write read : ChineseCountMethod) (divisor : ℕ) (text : List ℕ)
    → divisor < 2 ^ 128 → IsReadBy write read divisor
    → spelling write divisor ≡ digit 1 ∷ marks_of text → are_rising_units text ≡ true
    → times_units read 1 text ≡ Some divisor
units-number write read divisor text small is spelled rising =
    let none = units-no_value read 1 text rising in
    let value : numeral_value read (digit 1 ∷ marks_of text) ≡ divisor =
    ap (numeral_value read) (sym spelled) ∙ is.value in
    let product : 1 * weight read (marks_of text) ≡ divisor = omega (arith, none, value) in
    let fits : some_unfit read (marks_of text) ≡ false =
    ap (some_unfit read) (sym spelled) ∙ is.fits in
    units-product read 1 0 1 text rising (omega arith) fits (omega (arith, product, small))
    ∙ ap Some product

-- a unit below 兆 is not a sign
small-no_sign : (c rank : ℕ) → is_digit_or_unit (mark_of c) ≡ true → rank_of c ≡ Some rank
    → rank ≤ 5 → sign_of c ≡ None
unfolding rank_of sign_of numeral_sign
small-no_sign c rank marked is low = by (sign_of c) (ap (λ r. option_map_or (λ rank. nat_lt 5 rank)
    r true || is_none (sign_of c)) (sym is)
    ∙ own (λ c. option_map_or (λ rank. nat_lt 5 rank) (rank_of c) true || is_none (sign_of c)) c
    refl refl marked) where
      by : (s : Option Sign) → (nat_lt 5 rank || is_none s) ≡ true → s ≡ None
      by None h = refl
      by (Some sign) h =
          let above : (nat_lt 5 rank || false) ≡ true = h in
          absurd (grind (arith, nat_tests, low, above))

-- a text that stands alone begins with such a unit
alone-no_sign : (text more : List ℕ) → are_marks text ≡ true → stand_alone text ≡ true
    → leading_sign (text ++ more) ≡ None
alone-no_sign [] more marks alone = cc
alone-no_sign (c ∷ rest) more marks alone =
    by (rank_of c) refl (and-right (are_rising_units (c ∷ rest)) _ alone) where
      by : (r : Option ℕ) → rank_of c ≡ r → option_map_or (λ rank. nat_le rank 5) r false ≡ true
          → sign_of c ≡ None
      by None is low = cc
      by (Some rank) is low =
          small-no_sign c rank (first-mark c rest marks) is (grind (arith, nat_tests, low))

alone-some : (text : List ℕ) → stand_alone text ≡ true → 0 < length text
alone-some [] alone = cc
alone-some (c ∷ rest) alone = omega arith

-- without its 一, the divisor is rising units
IsDivisorText-alone : (variant : ChineseVariant) (case : ChineseCase)
    (write read : ChineseCountMethod) (divisor : ℕ) (marks : List Mark) → divisor < 2 ^ 128
    → IsReadBy write read divisor → spelling write divisor ≡ digit 1 ∷ marks
    → list_all is_printed marks ≡ true
    → stand_alone (map (mark_char variant case) marks) ≡ true
    → IsDivisorText read divisor (map (mark_char variant case) marks)
IsDivisorText-alone variant case write read divisor marks small is spelled printed alone = record {
  marks = known;
  some = some;
  no_sign = λ more. alone-no_sign text more known alone;
  read = ap (λ b. if b then decimal_of 0 (times_units read 1 text)
      else number_answer read text) (both (nat_lt 0 (length text)) (are_rising_units text)
      (grind (arith, nat_tests, some)) rising)
      ∙ ap (decimal_of 0) (units-number write read divisor text small is
      (spelled ∙ ap (λ l. digit 1 ∷ l) (sym back.marks_same)) rising);
} where
  text : List ℕ
  text = map (mark_char variant case) marks

  back : IsReadBack (map (mark_char variant case) marks) marks
  back = IsReadBack-marks variant case marks printed

  known : are_marks (map (mark_char variant case) marks) ≡ true
  known = printed-marks variant case marks printed

  some : 0 < length (map (mark_char variant case) marks)
  some = alone-some (map (mark_char variant case) marks) alone

  rising : are_rising_units (map (mark_char variant case) marks) ≡ true
  rising = and-left (are_rising_units (map (mark_char variant case) marks)) _ alone

-- the character of 一 is not the character of any other mark
one-mark : (variant : ChineseVariant) (case : ChineseCase) (mark : Mark)
    → is_printed mark ≡ true
    → (mark_char variant case mark == digit_char variant case 1) ≡ true → mark ≡ digit 1
one-mark variant case mark printed same =
    let e : mark_char variant case mark ≡ digit_char variant case 1 =
    grind (arith, nat_tests, same) in
    sym (mark_read variant case mark printed) ∙ ap mark_of e ∙ mark_read variant case (digit 1) refl

divisor-by : (variant : ChineseVariant) (case : ChineseCase) (write read : ChineseCountMethod)
    (divisor : ℕ) (marks : List Mark) → divisor < 2 ^ 128
    → IsReadBy write read divisor → spelling write divisor ≡ marks
    → list_all is_printed marks ≡ true
    → IsSpelled read divisor (map (mark_char variant case) marks)
    → IsDivisorText read divisor
    (without_front (digit_char variant case 1) (map (mark_char variant case) marks))
divisor-by variant case write read divisor [] small is spelled printed s =
    IsDivisorText-spelled read divisor [] s
divisor-by variant case write read divisor (mark ∷ rest) small is spelled printed s =
    by (mark_char variant case mark == digit_char variant case 1)
    (stand_alone (map (mark_char variant case) rest)) refl refl where
      by : (one alone : Bool) → (mark_char variant case mark == digit_char variant case 1) ≡ one
          → stand_alone (map (mark_char variant case) rest) ≡ alone
          → IsDivisorText read divisor (if one && alone then map (mark_char variant case) rest
          else map (mark_char variant case) (mark ∷ rest))
      by false alone e f = IsDivisorText-spelled read divisor _ s
      by true false e f = IsDivisorText-spelled read divisor _ s
      by true true e f =
          let first = one-mark variant case mark
          (and-left (is_printed mark) (list_all is_printed rest) printed) e in
          IsDivisorText-alone variant case write read divisor rest small is
          (spelled ∙ ap (λ m. m ∷ rest) first)
          (and-right (is_printed mark) (list_all is_printed rest) printed) f

pub IsDivisorText-written : (variant : ChineseVariant) (case : ChineseCase)
    (write read : ChineseCountMethod) (divisor : ℕ) → divisor < 2 ^ 128
    → IsReadBy write read divisor
    → IsDivisorText read divisor (divisor_text variant case write divisor)
IsDivisorText-written variant case write read divisor small is =
    divisor-by variant case write read divisor (spelling write divisor) small is refl
    (spelling-printed write divisor is.square)
    (IsSpelled-magnitude variant case write read divisor small is)

-- a divisor above 0 is read as a number
pub divisor-answered : (method : ChineseCountMethod) (divisor : ℕ) (text : List ℕ) → 0 < divisor
    → part_answer method text ≡ Ok (record { number = divisor; decimals = 0 })
    → divisor_answer method text ≡ Ok divisor
divisor-answered method divisor text some read =
    ap (λ a. and_then a
    (λ decimal. if is_divisor decimal then Ok decimal.number else Err (incorrect_at 0))) read
    ∙ ap (λ b. if b && true then Ok divisor else Err (incorrect_at 0)) above where
      above : nat_lt 0 divisor ≡ true
      above = grind (arith, nat_tests, some)
