-- What is read strictly, or written, is also an amount as people type it.
use Rattle.std.proofs.Common.{◌≡◌, ℕ, ℤ, pos, Bool, true, false, ◌&&◌, ◌||◌, ◌==◌, List, [], ◌∷◌, ◌++◌, map, Some, codes, refl, sym, ap, ◌∙◌, if◌then◌else◌, append_assoc, arith}
use Rattle.std.specs.Char.{char_set_contains, is_not_whitespace}
use Rattle.std.specs.List.{Contains, list_all}
use Rattle.std.proofs.lemmas.List.Elements.{All-contains}
use Rattle.std.proofs.lemmas.List.Folds.{list_all-append}
use Rattle.std.proofs.lemmas.List.Sums.{AllPass-from_list_all}
use Rattle.cn_core.proofs.Fronts.{both as both-true}
use Rattle.cn_core.specs.Whole.{signed_number}
use Rattle.cn_amount.specs.declared.capital.Capital.{Capital}
use Rattle.cn_amount.specs.declared.capital.Capital.TheVariants.{Ren, Min, Bi}
use Rattle.cn_amount.specs.Form.{Choices, from_top}
use Rattle.cn_amount.specs.declared.places.Places.{Places}
use Rattle.cn_amount.specs.Places.{ArePlaces, amount_value}
use Rattle.cn_amount.specs.Reading.{capital_of, capital_rows, capitals_of, IsAmount}
use Rattle.cn_amount.specs.Signed.{minus_signs, IsSignedAmount}
use Rattle.cn_amount.specs.Typed.{below_signs, signs, names, currencies, IsPrefixed, visible, IsTypedAmount, IsTypedSignedAmount}
use Rattle.cn_amount.proofs.AmountCharacters.{amount-passes}
use Rattle.cn_amount.proofs.Prefixes.{in-set, on-row, rows-pass, has, has-contains}
use Rattle.cn_amount.proofs.TypedReads.{all-visible, signs-visible, visible-is}

-- an amount is 人民币 or nothing, and an amount without 人民币
pub record IsSplit (text : List ℕ) (fen : ℕ) : Type 0 where
  pub currency : List ℕ
  pub amount : List ℕ
  pub is_currency : Contains currencies currency
  pub parts : text ≡ currency ++ amount
  pub form : IsAmount (codes "人民币" ++ amount) fen

-- the choices with 人民币
abbrev with_currency : Choices → Choices
with_currency choices = record choices { currency = true }

with-name : (text : List ℕ) (fen : ℕ) (choices : Choices) (places : Places) → ArePlaces places
    → capitals_of text ≡ map Some (from_top choices places) → fen ≡ amount_value places
    → IsAmount (codes "人民币" ++ text) fen
unfolding capital_of
with-name text fen choices places digits form value = record {
  choices = with_currency choices;
  places = places;
  digits = digits;
  form = ap (λ capitals. Some Ren ∷ Some Min ∷ Some Bi ∷ capitals) form;
  value = value;
}

-- the characters of 人民币
abbrev is_named : Capital → ℕ → Bool
is_named Ren c = 0x4EBA == c
is_named Min c = 0x6C11 == c
is_named Bi c = (0x5E01 == c) || (0x5E63 == c)
is_named capital c = true

named : (c : ℕ) (capital : Capital) → capital_of c ≡ Some capital → is_named capital c ≡ true
unfolding capital_of
named c capital e =
    on-row (λ capital c. is_named capital c ≡ true) capital_rows c capital
    (rows-pass is_named capital_rows refl) e

name-is : (a b c : ℕ) → is_named Ren a ≡ true → is_named Min b ≡ true → is_named Bi c ≡ true
    → has names (a ∷ b ∷ c ∷ []) ≡ true
name-is a b c ren min bi = rw (ren, min) (by (0x5E01 == c) (0x5E63 == c) bi) where
  by : (x y : Bool) → (x || y) ≡ true → ((x && true) || ((y && true) || false)) ≡ true
  by true y e = refl
  by false true e = refl
  by false false e = absurd (cc)

names-currencies : (word : List ℕ) → Contains names word → Contains currencies word
names-currencies word h =
    has-contains currencies word (All-contains (λ word. has currencies word ≡ true) names word
    (AllPass-from_list_all (has currencies) names refl) h)

split-name : (text : List ℕ) (fen : ℕ) (h : IsAmount text fen)
    → capitals_of text ≡ Some Ren ∷ Some Min ∷ Some Bi ∷ map Some (from_top h.choices h.places)
    → IsSplit text fen
split-name [] fen h e = absurd (cc)
split-name (a ∷ []) fen h e = absurd (cc)
split-name (a ∷ b ∷ []) fen h e = absurd (cc)
split-name (a ∷ b ∷ c ∷ text) fen h e =
    let ren : capital_of a ≡ Some Ren = cc in
    let min : capital_of b ≡ Some Min = cc in
    let bi : capital_of c ≡ Some Bi = cc in
    let rest : capitals_of text ≡ map Some (from_top h.choices h.places) = cc in
    record {
      currency = a ∷ b ∷ c ∷ [];
      amount = text;
      is_currency = names-currencies (a ∷ b ∷ c ∷ []) (has-contains names (a ∷ b ∷ c ∷ [])
          (name-is a b c (named a Ren ren) (named b Min min) (named c Bi bi)));
      parts = refl;
      form = with-name text fen h.choices h.places h.digits rest h.value;
    }

pub split-amount : (text : List ℕ) (fen : ℕ) → IsAmount text fen → IsSplit text fen
split-amount text fen h = by h.choices.currency h.form where
  by : (b : Bool)
      → capitals_of text
      ≡ map Some ((if b then Ren ∷ Min ∷ Bi ∷ [] else []) ++ from_top h.choices h.places)
      → IsSplit text fen
  by true e = split-name text fen h e
  by false e = record {
    currency = [];
    amount = text;
    is_currency = (0, omega arith, refl);
    parts = refl;
    form = with-name text fen h.choices h.places h.digits e h.value;
  }

-- so is an amount after a sign, or none
pub prefixed-amount : (below : Bool) (sign text : List ℕ) (fen : ℕ)
    → Contains (signs below) sign → IsAmount text fen
    → IsPrefixed (visible (sign ++ text)) below fen
prefixed-amount below sign text fen is h =
    let split = split-amount text fen h in
    let none = list_all-append is_not_whitespace sign text
    ∙ both-true (list_all is_not_whitespace sign) (list_all is_not_whitespace text)
    (all-visible (signs below) (signs-visible below) sign is)
    (amount-passes is_not_whitespace refl text fen h) in
    record {
      circle = [];
      sign = sign;
      currency = split.currency;
      prefix = sign ++ split.currency;
      amount = split.amount;
      is_circle = (0, omega arith, refl);
      is_sign = is;
      is_currency = split.is_currency;
      order = (0, omega arith, refl);
      parts = visible-is (sign ++ text) none ∙ ap (λ text. sign ++ text) split.parts
          ∙ sym (append_assoc sign split.currency split.amount);
      form = split.form;
    }

pub amount-typed : (text : List ℕ) (fen : ℕ) → IsAmount text fen → IsTypedAmount text fen
amount-typed text fen h = prefixed-amount false [] text fen (0, omega arith, refl) h

pub typed-signed : (text : List ℕ) (fen : ℕ) → IsTypedAmount text fen
    → IsTypedSignedAmount text (pos fen)
typed-signed text fen h = record { below = false; magnitude = fen; form = h; value = refl }

minus-sign : (c : ℕ) → char_set_contains minus_signs c ≡ true → Contains below_signs (c ∷ [])
minus-sign c e =
    in-set (λ c. Contains below_signs (c ∷ [])) minus_signs c
    ((1, omega arith, refl), ((0, omega arith, refl), tt)) e

pub signed-typed : (text : List ℕ) (fen : ℤ) → IsSignedAmount text fen
    → IsTypedSignedAmount text fen
signed-typed [] fen h = record {
  below = false;
  magnitude = h.magnitude;
  form = amount-typed [] h.magnitude h.form;
  value = h.value;
}
signed-typed (c ∷ text) fen h =
    by (char_set_contains minus_signs c) refl h.form h.value where
      by : (b : Bool) → char_set_contains minus_signs c ≡ b
          → IsAmount (if b then text else c ∷ text) h.magnitude
          → fen ≡ signed_number b h.magnitude → IsTypedSignedAmount (c ∷ text) fen
      by true is form value = record {
        below = true;
        magnitude = h.magnitude;
        form = prefixed-amount true (c ∷ []) text h.magnitude (minus-sign c is) form;
        value = value;
      }
      by false is form value = record {
        below = false;
        magnitude = h.magnitude;
        form = amount-typed (c ∷ text) h.magnitude form;
        value = value;
      }
