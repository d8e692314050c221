-- The yuan of figures that have been read: their digits, and the fen that these write.
use Rattle.std.proofs.Common.{◌≡◌, ℕ, ◌+◌, ◌*◌, ◌<◌, ◌≤◌, nat_lt, Bool, true, false, List, [], ◌∷◌, ◌++◌, length, length-append, map, Option, Some, None, refl, sym, ap, ◌∙◌, if◌then◌else◌, append-nil, append_assoc, arith}
use Rattle.std.proofs.lemmas.Bool.Decides.{nat_tests}
use Rattle.std.proofs.lemmas.List.{map-append}
use Rattle.std.proofs.lemmas.List.Sums.{fold-append}
use Rattle.cn_amount.specs.Places.{amount_limit}
use Rattle.cn_figures.specs.declared.part.Part.{Part}
use Rattle.cn_figures.specs.declared.part.Part.TheVariants.{Digit, Comma}
use Rattle.cn_core.specs.Digits.{value_after, value_of}
use Rattle.cn_figures.specs.Figures.{Triple, with_commas, digits_of, marked, below}
use Rattle.cn_figures.specs.Working.Steps.{with_more}

-- an amount that is not below the limit stays so when it grows
pub below-more : (fen times more : ℕ) → fen ≤ fen * times
    → with_more (below fen) times more ≡ below (fen * times + more)
below-more fen times more grows = by (nat_lt fen amount_limit) refl where
  by : (b : Bool) → nat_lt fen amount_limit ≡ b
      → with_more (if b then Some fen else None) times more ≡ below (fen * times + more)
  by true e = refl
  by false e =
      let far : nat_lt (fen * times + more) amount_limit ≡ false = grind (arith, nat_tests, e, grows) in
      ap (λ (b : Bool). if b then Some (fen * times + more) else None) (sym far)

-- one more digit of the yuan
pub digit-more : (yuan digit : ℕ)
    → with_more (below (100 * yuan)) 10 (100 * digit) ≡ below (100 * (yuan * 10 + digit))
digit-more yuan digit =
    let more : 100 * yuan * 10 + 100 * digit ≡ 100 * (yuan * 10 + digit) = omega arith in
    below-more (100 * yuan) 10 (100 * digit) (omega arith) ∙ ap below more

pub value-behind : (digits more : List ℕ)
    → value_of (digits ++ more) ≡ value_after (value_of digits) more
value-behind digits more = fold-append (λ number digit. number * 10 + digit) 0 digits more

-- one more triple
with_commas-more : (triples : List Triple) (a b c : ℕ)
    → with_commas (triples ++ (a, b, c) ∷ []) ≡ with_commas triples ++ Comma ∷ Digit a ∷ Digit b ∷ Digit c ∷ []
with_commas-more [] a b c = refl
with_commas-more ((x, y, z) ∷ triples) a b c =
    ap (λ more. Comma ∷ Digit x ∷ Digit y ∷ Digit z ∷ more) (with_commas-more triples a b c)

digits-more : (triples : List Triple) (a b c : ℕ)
    → digits_of (triples ++ (a, b, c) ∷ []) ≡ digits_of triples ++ a ∷ b ∷ c ∷ []
digits-more [] a b c = refl
digits-more ((x, y, z) ∷ triples) a b c = ap (λ more. x ∷ y ∷ z ∷ more) (digits-more triples a b c)

-- these parts are the yuan of figures, with these digits and this many fen
pub record IsYuan (front : List ℕ) (triples : List Triple) (parts : List Part) (fen : Option ℕ)
    : Type 0 where
  pub currency : Bool
  pub some : 0 < length front
  pub form : parts ≡ marked currency ++ (map Digit front ++ with_commas triples)
  pub worth : fen ≡ below (100 * value_of (front ++ digits_of triples))

-- the first digit, after ¥ or nothing
pub yuan-begun : (currency : Bool) (parts : List Part) (fen : Option ℕ) (digit : ℕ)
    → parts ≡ marked currency → fen ≡ Some 0
    → IsYuan (digit ∷ []) [] (parts ++ Digit digit ∷ []) (with_more fen 10 (100 * digit))
yuan-begun currency parts fen digit is none =
    let same : 0 * 10 + 100 * digit ≡ 100 * (0 * 10 + digit) = omega arith in record {
      currency = currency;
      some = omega arith;
      form = ap (λ parts. parts ++ Digit digit ∷ []) is;
      worth = ap (λ fen. with_more fen 10 (100 * digit)) none ∙ ap below same;
    }

-- a digit before all commas
pub yuan-digit : (front : List ℕ) (parts : List Part) (fen : Option ℕ) (digit : ℕ)
    → IsYuan front [] parts fen
    → IsYuan (front ++ digit ∷ []) [] (parts ++ Digit digit ∷ []) (with_more fen 10 (100 * digit))
yuan-digit front parts fen digit h = record {
  currency = h.currency;
  some = omega (arith, length-append front (digit ∷ []));
  form = ap (λ front. front ++ Digit digit ∷ []) (h.form
      ∙ ap (λ digits. marked h.currency ++ digits) (append-nil (map Digit front)))
      ∙ append_assoc (marked h.currency) (map Digit front) (Digit digit ∷ [])
      ∙ ap (λ digits. marked h.currency ++ digits) (sym (map-append Digit front (digit ∷ []))
      ∙ sym (append-nil (map Digit (front ++ digit ∷ []))));
  worth = ap (λ fen. with_more fen 10 (100 * digit)) (h.worth
      ∙ ap (λ digits. below (100 * value_of digits)) (append-nil front))
      ∙ digit-more (value_of front) digit
      ∙ ap (λ yuan. below (100 * yuan)) (sym (value-behind front (digit ∷ [])))
      ∙ ap (λ digits. below (100 * value_of digits)) (sym (append-nil (front ++ digit ∷ [])));
}

-- a triple after its comma
pub yuan-triple : (front : List ℕ) (triples : List Triple) (parts : List Part) (fen : Option ℕ)
    (a b c : ℕ) → IsYuan front triples parts fen
    → IsYuan front (triples ++ (a, b, c) ∷ [])
    (parts ++ Comma ∷ Digit a ∷ Digit b ∷ Digit c ∷ [])
    (with_more (with_more (with_more fen 10 (100 * a)) 10 (100 * b)) 10 (100 * c))
yuan-triple front triples parts fen a b c h =
    let triple = Comma ∷ Digit a ∷ Digit b ∷ Digit c ∷ [] in
    let was = value_of (front ++ digits_of triples) in
    let digits : front ++ digits_of (triples ++ (a, b, c) ∷ [])
    ≡ (front ++ digits_of triples) ++ a ∷ b ∷ c ∷ [] =
    ap (λ more. front ++ more) (digits-more triples a b c)
    ∙ sym (append_assoc front (digits_of triples) (a ∷ b ∷ c ∷ [])) in
    record {
      currency = h.currency;
      some = h.some;
      form = ap (λ front. front ++ triple) h.form
          ∙ append_assoc (marked h.currency) (map Digit front ++ with_commas triples) triple
          ∙ ap (λ more. marked h.currency ++ more)
          (append_assoc (map Digit front) (with_commas triples) triple
          ∙ ap (λ more. map Digit front ++ more) (sym (with_commas-more triples a b c)));
      worth = ap (λ fen. with_more (with_more (with_more fen 10 (100 * a)) 10 (100 * b)) 10 (100 * c))
          h.worth
          ∙ ap (λ fen. with_more (with_more fen 10 (100 * b)) 10 (100 * c)) (digit-more was a)
          ∙ ap (λ fen. with_more fen 10 (100 * c)) (digit-more (was * 10 + a) b)
          ∙ digit-more ((was * 10 + a) * 10 + b) c
          ∙ ap (λ yuan. below (100 * yuan))
          (sym (ap value_of digits ∙ value-behind (front ++ digits_of triples) (a ∷ b ∷ c ∷ [])));
    }
