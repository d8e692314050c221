-- What is printed for a quantity is read back as the same numerator and denominator, in its form.
use Rattle.std.proofs.Common.{◌≡◌, ℕ, ◌^◌, ◌<◌, ◌==◌, pos, int_lt, nat_lt, Bool, true, false, MatchBool, List, take, Option, Some, None, Ok, if◌then◌else◌, refl, sym, ap, subst, option_map, arith}
use Rattle.std.proofs.lemmas.Bool.Decides.{nat_tests}
use Rattle.std.proofs.lemmas.Int.{ints}
use Rattle.std.proofs.lemmas.Str.{is_utf8-from_IsUtf8}
use Rattle.std.specs.Str.{IsUtf8}
use Rattle.cn_core.specs.declared.case.ChineseCase.{ChineseCase}
use Rattle.cn_core.specs.declared.method.ChineseCountMethod.{ChineseCountMethod}
use Rattle.cn_core.specs.declared.method.ChineseCountMethod.TheVariants.{TenThousand, Middle}
use Rattle.cn_core.specs.declared.script.ChineseVariant.{ChineseVariant}
use Rattle.cn_core.specs.declared.script.ChineseVariant.TheVariants.{Traditional, Simple}
use Rattle.cn_core.specs.Whole.{holds, signed_kind}
use Rattle.cn_quantity_text.specs.Numerals.{greatest_spelled, is_written_by, spelled_numbers}
use Rattle.cn_quantity_text.specs.ReadBack.{form_read_back}
use Rattle.cn_quantity_text.specs.Writes.{numeral_bytes}
use Rattle.cn_quantity_text.proofs.NumeralsRead.{each-below, middle-read, numerals-read, numerals-text}
use Rattle.cn_dynamic.specs.declared.Way.TheVariants.{Digits, Units}
use Rattle.cn_dynamic.specs.Either.{written_method}
use Rattle.cn_quantity.specs.declared.quantity.Quantity.{Quantity as ExactQuantity}
use Rattle.cn_quantity.specs.declared.quantity.QuantityForm.{QuantityForm}
use Rattle.cn_quantity.specs.Reading.{quantity_answer}
use Rattle.cn_c.specs.declared.codes.NamedWay.{NamedWay}
use Rattle.cn_c.specs.declared.codes.NamedWay.TheVariants.{By, Either}
use Rattle.cn_c.specs.declared.number.Number.{Number}
use Rattle.cn_c.specs.declared.quantity.Quantity.{Quantity}
use Rattle.cn_c.specs.Codes.{CN_DONE, CN_TOO_LARGE, CN_TOO_SMALL}
use Rattle.cn_c.specs.Halves.{AreHalves, bits_of, number_of}
use Rattle.cn_c.specs.Prints.{PutsNothing, PutsIfItFits}
use Rattle.cn_c.specs.Quantities.{IsQuantityReadAs, IsTold, TellsQuantity, form_code, method_of}
use Rattle.cn_c.specs.QuantityPrints.{PutsQuantity, IsQuantityPrintedAs}
use Rattle.cn_c.proofs.ReadBack.{put-text, utf8-scalars}

-- the result of reading the text of a quantity is that quantity
abbrev IsBack : ExactQuantity → ChineseCountMethod → List ℕ → Type 0
IsBack quantity method bytes =
    IsUtf8 bytes × ((status : ℕ) (told : Quantity)
    → IsQuantityReadAs (Some method) bytes status told
    → (status ≡ CN_DONE) × (number_of true told.numerator ≡ quantity.numerator)
    × (number_of false told.denominator ≡ pos quantity.denominator)
    × (Some (form_code (form_read_back quantity)) ≡ Some told.form))

-- the result of reading a text that is read as a quantity is that quantity
pub read-told : (read : ExactQuantity) (method : ChineseCountMethod) (bytes : List ℕ)
    → IsUtf8 bytes → quantity_answer method bytes ≡ Ok read
    → (status : ℕ) (told : Quantity) → IsQuantityReadAs (Some method) bytes status told
    → (status ≡ CN_DONE) × IsTold read told
read-told read method bytes utf8 is status told tells =
    let t : TellsQuantity bytes (quantity_answer method bytes) status told =
    rw (is_utf8-from_IsUtf8 bytes utf8) at tells in
    subst (λ answer. TellsQuantity bytes answer status told) is t

-- a text that is read as a quantity with the same numerator and denominator
read-back : (quantity : ExactQuantity) (method : ChineseCountMethod) (bytes : List ℕ)
    → IsUtf8 bytes
    → quantity_answer method bytes ≡ Ok (record {
      numerator = quantity.numerator;
      denominator = quantity.denominator;
      form = form_read_back quantity;
    })
    → IsBack quantity method bytes
read-back quantity method bytes utf8 is = (
  utf8,
  λ status told tells.
      let ok = read-told _ method bytes utf8 is status told tells in
      (ok.0, ok.1.numerator, ok.1.denominator, ap Some (sym ok.1.form)),
)

not-done : (below : Bool) → CN_DONE ≡ (if below then CN_TOO_SMALL else CN_TOO_LARGE) → ⊥
not-done true e = omega (arith, e)
not-done false e = omega (arith, e)

-- one method writes the quantity, and another reads the text
abbrev IsReadBy : ExactQuantity → ChineseVariant → ChineseCase → ChineseCountMethod
    → ChineseCountMethod → Type 0
IsReadBy quantity script case write read =
    0 < quantity.denominator → is_written_by write quantity ≡ true
    → quantity_answer read (numeral_bytes script case write quantity)
    ≡ Ok (record {
      numerator = quantity.numerator;
      denominator = quantity.denominator;
      form = form_read_back quantity;
    })

exact-back : (quantity : ExactQuantity) (write read : ChineseCountMethod) (script : ChineseVariant)
    (case : ChineseCase) (old new : List ℕ) (len : ℕ)
    → holds (signed_kind 128) quantity.numerator ≡ true → quantity.denominator < 2 ^ 128
    → IsReadBy quantity script case write read
    → PutsQuantity quantity write script case old CN_DONE new len
    → IsBack quantity read (take len new)
exact-back quantity write read script case old new len held fits reads put =
    over (quantity.denominator == 0) refl put where
      bytes : List ℕ
      bytes = numeral_bytes script case write quantity

      text : 0 < quantity.denominator → is_written_by write quantity ≡ true
          → PutsIfItFits bytes old CN_DONE new len → IsBack quantity read (take len new)
      text above written put =
          subst (IsBack quantity read) (sym (put-text bytes old new len put))
          (read-back quantity read bytes
          (utf8-scalars _ (numerals-text script case write quantity held above fits written).scalars)
          (reads above written))

      by : (b : Bool) → is_written_by write quantity ≡ b → 0 < quantity.denominator
          → MatchBool b (PutsIfItFits bytes old CN_DONE new len)
          (PutsNothing (if int_lt quantity.numerator (pos 0) then CN_TOO_SMALL else CN_TOO_LARGE)
          old CN_DONE new len)
          → IsBack quantity read (take len new)
      by true written above put = text above written put
      by false written above put = absurd (not-done (int_lt quantity.numerator (pos 0)) put.0)

      over : (b : Bool) → (quantity.denominator == 0) ≡ b
          → MatchBool b (PutsNothing 12 old CN_DONE new len)
          (MatchBool (is_written_by write quantity) (PutsIfItFits bytes old CN_DONE new len)
          (PutsNothing (if int_lt quantity.numerator (pos 0) then CN_TOO_SMALL else CN_TOO_LARGE)
          old CN_DONE new len))
          → IsBack quantity read (take len new)
      over true is put = absurd (omega (arith, put.0))
      over false is put = by (is_written_by write quantity) refl (grind (arith, is)) put

-- the same method writes and reads
own-back : (quantity : ExactQuantity) (method : ChineseCountMethod) (script : ChineseVariant)
    (case : ChineseCase) (old new : List ℕ) (len : ℕ)
    → holds (signed_kind 128) quantity.numerator ≡ true → quantity.denominator < 2 ^ 128
    → PutsQuantity quantity method script case old CN_DONE new len
    → IsBack quantity method (take len new)
own-back quantity method script case old new len held fits put =
    exact-back quantity method method script case old new len held fits
    (λ above written. numerals-read script case method quantity held above fits written) put

-- the quantity is written and read either way
either-back : (quantity : ExactQuantity) (script : ChineseVariant) (case : ChineseCase)
    (old new : List ℕ) (len : ℕ)
    → holds (signed_kind 128) quantity.numerator ≡ true → quantity.denominator < 2 ^ 128
    → PutsQuantity quantity (written_method script (greatest_spelled quantity)) script case old
    CN_DONE new len
    → IsBack quantity TenThousand (take len new)
either-back quantity Traditional case old new len held fits put =
    own-back quantity TenThousand Traditional case old new len held fits put
either-back quantity Simple case old new len held fits put =
    by (nat_lt (greatest_spelled quantity) (10 ^ 16)) refl put where
      by : (b : Bool) → nat_lt (greatest_spelled quantity) (10 ^ 16) ≡ b
          → PutsQuantity quantity (if b then Middle else TenThousand) Simple case old CN_DONE new len
          → IsBack quantity TenThousand (take len new)
      by true e put =
          exact-back quantity Middle TenThousand Simple case old new len held fits
          (λ above written. middle-read Simple case quantity held above fits
          (each-below (10 ^ 16) (spelled_numbers quantity) (grind (arith, nat_tests, e)))) put
      by false e put = own-back quantity TenThousand Simple case old new len held fits put

-- two halves are a number that 128 bits hold
pub halves-held : (number : Number) → AreHalves number
    → holds (signed_kind 128) (number_of true number) ≡ true
halves-held number are = grind (arith, ints, are.0, are.1)

pub quantity-back : (numerator denominator : Number) (form : Option QuantityForm)
    (way : Option NamedWay) (script : Option ChineseVariant)
    (case : Option ChineseCase) (old new : List ℕ) (len : ℕ) → AreHalves numerator
    → AreHalves denominator
    → IsQuantityPrintedAs
    (option_map (λ form. record {
      numerator = number_of true numerator;
      denominator = bits_of denominator;
      form = form;
    }) form) way script case old CN_DONE new len
    → IsUtf8 (take len new) × ((status : ℕ) (told : Quantity)
    → IsQuantityReadAs (method_of way) (take len new) status told
    → (status ≡ CN_DONE) × (number_of true told.numerator ≡ number_of true numerator)
    × (number_of false told.denominator ≡ number_of false denominator)
    × (option_map (λ exact. form_code (form_read_back exact)) (option_map (λ form. record {
      numerator = number_of true numerator;
      denominator = bits_of denominator;
      form = form;
    }) form) ≡ Some told.form))
quantity-back numerator denominator None way script case old new len above below printed =
    absurd (omega (arith, printed.0))
quantity-back numerator denominator (Some form) way None case old new len above below printed =
    absurd (omega (arith, printed.0))
quantity-back numerator denominator (Some form) way (Some script) None old new len above below
    printed =
    absurd (omega (arith, printed.0))
quantity-back numerator denominator (Some form) None (Some script) (Some case) old new len above
    below printed =
    absurd (omega (arith, printed.0))
quantity-back numerator denominator (Some form) (Some (By Digits)) (Some script) (Some case) old new
    len above below printed =
    absurd (omega (arith, printed.0))
quantity-back numerator denominator (Some form) (Some (By (Units method))) (Some script) (Some case)
    old new len above below printed =
    own-back _ method script case old new len (halves-held numerator above)
    (omega (arith, below.0, below.1)) printed
quantity-back numerator denominator (Some form) (Some Either) (Some script) (Some case) old new len
    above below printed =
    either-back _ script case old new len (halves-held numerator above)
    (omega (arith, below.0, below.1)) printed
