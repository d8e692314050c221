-- Quantities as C passes them, and what a call that reads them writes and returns.
use Rattle.std.specs.Prelude.{◌≡◌, ℕ, pos, true, false, List, [], ◌∷◌, Option, Some, None, Result, Ok, Err, slice_get}
use Rattle.std.specs.Option.{option_map}
use Rattle.std.specs.Bool.{MatchBool}
use Rattle.std.specs.Str.{is_utf8}
use Rattle.chinese_number.specs.declared.ChineseCountMethod.{ChineseCountMethod}
use Rattle.chinese_number.specs.declared.ChineseCountMethod.TheVariants.{TenThousand}
use Rattle.chinese_number.specs.Refusal.{Refusal}
use Rattle.cn_dynamic.specs.declared.Way.TheVariants.{Units}
use Rattle.cn_quantity.specs.declared.quantity.Quantity.{Quantity as ExactQuantity}
use Rattle.cn_quantity.specs.declared.quantity.QuantityForm.{QuantityForm}
use Rattle.cn_quantity.specs.declared.quantity.QuantityForm.TheVariants.{Whole, Decimal, Percent, Fraction}
use Rattle.cn_quantity.specs.Reading.{quantity_answer}
use Rattle.cn_c.specs.declared.codes.NamedWay.{NamedWay}
use Rattle.cn_c.specs.declared.codes.NamedWay.TheVariants.{By, Either}
use Rattle.cn_c.specs.declared.quantity.Quantity.{Quantity}
use Rattle.cn_c.specs.Codes.{named_ways, refusal_status, CN_DONE, CN_NOT_UTF8, CN_UNKNOWN}
use Rattle.cn_c.specs.Halves.{bits_of, number_of}
use Rattle.cn_c.specs.Reads.{chars_in_front, bytes_in_front}

-- the method by which a quantity is read: that of a way with units, and for either way the standard
-- one, since a quantity in plain digits is read under each method
abbrev pub method_of : Option NamedWay → Option ChineseCountMethod
method_of (Some (By (Units method))) = Some method
method_of (Some Either) = Some TenThousand
method_of way = None

-- the code of a form
abbrev pub form_code : QuantityForm → ℕ
form_code Whole = 0
form_code Decimal = 1
form_code Percent = 2
form_code Fraction = 3

-- the forms, in the order of their codes
abbrev pub quantity_forms : List QuantityForm
quantity_forms = Whole ∷ Decimal ∷ Percent ∷ Fraction ∷ []

-- the quantity that halves and the code of a form stand for, if the code names a form
abbrev pub quantity_of : Quantity → Option ExactQuantity
quantity_of told =
    option_map (λ form. record {
      numerator = number_of true told.numerator;
      denominator = bits_of told.denominator;
      form = form;
    })
    (slice_get quantity_forms told.form)

-- what is written if there is no quantity: zeros, and the position of a fault
abbrev pub no_quantity : ℕ → ℕ → Quantity
no_quantity char_index byte_index = record {
  numerator = record { low = 0; high = 0 };
  denominator = record { low = 0; high = 0 };
  form = 0;
  char_index = char_index;
  byte_index = byte_index;
}

-- the halves and the code of the form are those of the quantity, and the position is 0
pub record IsTold (quantity : ExactQuantity) (told : Quantity) : Type 0 where
  pub numerator : number_of true told.numerator ≡ quantity.numerator
  pub denominator : number_of false told.denominator ≡ pos quantity.denominator
  pub form : told.form ≡ form_code quantity.form
  pub char_index : told.char_index ≡ 0
  pub byte_index : told.byte_index ≡ 0

-- the answer to a text is shown by the status and by what is written
abbrev pub TellsQuantity : List ℕ → Result ExactQuantity Refusal → ℕ → Quantity → Type 0
TellsQuantity text (Ok quantity) status told = (status ≡ CN_DONE) × IsTold quantity told
TellsQuantity text (Err refusal) status told =
    (status ≡ refusal_status refusal)
    × (told ≡ no_quantity (chars_in_front refusal) (bytes_in_front text refusal))

-- the result of reading bytes as a quantity by a method, or UNKNOWN if none is named
abbrev pub IsQuantityReadAs : Option ChineseCountMethod → List ℕ → ℕ → Quantity → Type 0
IsQuantityReadAs (Some method) bytes status told =
    MatchBool (is_utf8 bytes) (TellsQuantity bytes (quantity_answer method bytes) status told)
    ((status ≡ CN_NOT_UTF8) × (told ≡ no_quantity 0 0))
IsQuantityReadAs None bytes status told = (status ≡ CN_UNKNOWN) × (told ≡ no_quantity 0 0)

-- the result of reading bytes as a quantity, given the code of a method
abbrev pub IsQuantityRead : List ℕ → ℕ → ℕ → Quantity → Type 0
IsQuantityRead bytes method status told =
    IsQuantityReadAs (method_of (slice_get named_ways method)) bytes status told
