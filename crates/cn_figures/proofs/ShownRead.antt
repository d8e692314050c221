-- The figures shown for an amount are figures of that amount.
use Rattle.std.proofs.Common.{◌≡◌, ℕ, ◌+◌, ◌-◌, ◌/◌, ◌%◌, ◌^◌, ◌<◌, nat_lt, Bool, true, false, List, [], ◌∷◌, ◌++◌, map, Option, Some, None, Ok, codes, if◌then◌else◌, decimal, inl, refl, sym, ap, ap₂, subst, ◌∙◌, append-nil, arith, rules}
use Rattle.std.specs.Prelude.{IsTrue}
use Rattle.std.specs.Char.{is_ascii_digit}
use Rattle.std.specs.List.{list_all}
use Rattle.std.specs.Str.{IsAscii}
use Rattle.std.proofs.lemmas.Bool.Decides.{nat_tests}
use Rattle.std.proofs.lemmas.Fmt.{decimal_digit, decimal_nonempty, digits_decimal, digits_value-decimal, IsAscii-decimal}
use Rattle.std.proofs.lemmas.List.{map-append, length-map}
use Rattle.std.proofs.lemmas.Str.{chars-IsAscii, IsAscii-append}
use Rattle.std.proofs.lemmas.Str.Parse.{IsNumeralModel, IsDigitsTest, FoldsDigits, numerals_by_fold}
use Rattle.cn_amount.specs.Places.{amount_limit}
use Rattle.cn_grammar.proofs.Characters.{AllBelow, all-at}
use Rattle.cn_core.proofs.Fronts.{and-left, and-right}
use Rattle.cn_core.specs.FigureCharacters.{figure_of}
use Rattle.cn_figures.specs.declared.part.Part.{Part}
use Rattle.cn_figures.specs.declared.part.Part.TheVariants.{Digit, Point}
use Rattle.cn_core.specs.Digits.{value_after, value_of}
use Rattle.cn_figures.specs.Figures.{IsFigures, ReadsFigures, figures_of}
use Rattle.cn_figures.specs.Parts.{part_of, parts_of}

-- decimal digits, and the number that they write
abbrev AreDigits : List ℕ → Type 0
AreDigits text = IsTrue (list_all is_ascii_digit text)

abbrev digits : List ℕ → List ℕ
digits text = map (λ c. c - 48) text

tells : IsDigitsTest AreDigits
tells = record {
  empty = refl;
  parts = λ c cs e.
      (grind (arith, nat_tests, and-left (is_ascii_digit c) _ e), and-right (is_ascii_digit c) _ e);
  more = λ c cs k e. grind (arith, nat_tests, k, e);
}

folds : FoldsDigits (λ number text. value_after number (digits text))
folds = record { empty = λ n. refl; more = λ n c cs k. refl }

model : IsNumeralModel AreDigits (λ text. value_of (digits text))
model = numerals_by_fold AreDigits tells (λ number text. value_after number (digits text)) folds

-- each digit is read as itself
each-digit : AllBelow (λ digit. part_of (48 + digit) ≡ Some (Digit digit)) 10
unfolding part_of figure_of
each-digit = (refl, (refl, (refl, (refl, (refl, (refl, (refl, (refl, (refl, (refl, tt))))))))))

digit-part : (digit : ℕ) → digit < 10 → part_of (48 + digit) ≡ Some (Digit digit)
digit-part digit low = all-at (λ digit. part_of (48 + digit) ≡ Some (Digit digit)) 10 digit each-digit low

digits-parts : (text : List ℕ) → AreDigits text → parts_of text ≡ map Some (map Digit (digits text))
digits-parts [] h = refl
digits-parts (c ∷ text) h =
    let is = and-left (is_ascii_digit c) _ h in
    let low : c - 48 < 10 = grind (arith, nat_tests, is) in
    let same : 48 + (c - 48) ≡ c = grind (arith, nat_tests, is) in
    ap₂ (λ (x : Option Part) (xs : List (Option Part)). x ∷ xs)
    (ap part_of (sym same) ∙ digit-part (c - 48) low)
    (digits-parts text (and-right (is_ascii_digit c) _ h))

point-part : part_of 46 ≡ Some Point
unfolding part_of figure_of
point-part = refl

-- an amount, by the digits that are shown
shown : (fen : ℕ) → fen < amount_limit → IsFigures (figures_of fen) fen
shown fen few =
    let short : fen / 100 < 2 ^ 64 = omega arith in
    let yuan = decimal (fen / 100) in
    let j = fen / 10 % 10 in
    let f = fen % 10 in
    let places : parts_of (codes "." ++ (decimal j ++ decimal f))
    ≡ Some Point ∷ Some (Digit j) ∷ Some (Digit f) ∷ [] =
    ap₂ (λ (a b : List ℕ). parts_of (codes "." ++ (a ++ b)))
    (decimal_digit j (omega arith)) (decimal_digit f (omega arith))
    ∙ ap (λ x. x ∷ part_of (48 + j) ∷ part_of (48 + f) ∷ []) point-part
    ∙ ap₂ (λ (x y : Option Part). Some Point ∷ x ∷ y ∷ [])
    (digit-part j (omega arith)) (digit-part f (omega arith)) in (
      map Digit (digits yuan) ++ Point ∷ Digit j ∷ Digit f ∷ [],
      map-append part_of yuan (codes "." ++ (decimal j ++ decimal f))
          ∙ ap₂ (λ (a b : List (Option Part)). a ++ b)
          (digits-parts yuan (digits_decimal model (fen / 100) short)) places
          ∙ sym (map-append Some (map Digit (digits yuan)) (Point ∷ Digit j ∷ Digit f ∷ [])),
      record {
        currency = false;
        front = digits yuan;
        triples = [];
        places = j ∷ f ∷ [];
        some = omega (arith, decimal_nonempty (fen / 100) short, length-map yuan (λ c. c - 48));
        short = inl refl;
        zeros = refl;
        form = refl;
        value = omega (
          arith,
          digits_value-decimal model (fen / 100) short,
          ap value_of (append-nil (digits yuan)),
        );
      },
    )

one-ascii : (number : ℕ) → number < 10 → IsAscii (decimal number)
one-ascii number low = IsAscii-decimal number (omega (arith, low))

pub amounts : (fen : ℕ) → fen < amount_limit → ReadsFigures (figures_of fen) (Ok fen)
amounts fen few =
    let ascii : IsAscii (figures_of fen) =
    IsAscii-append _ _ (IsAscii-decimal (fen / 100) (omega arith))
    (IsAscii-append (codes ".") _ (search rules)
    (IsAscii-append _ _ (one-ascii (fen / 10 % 10) (omega arith)) (one-ascii (fen % 10) (omega arith)))) in
    let less : nat_lt fen amount_limit ≡ true = grind (arith, nat_tests, few) in (
      fen,
      subst (λ figures. IsFigures figures fen) (sym (chars-IsAscii (figures_of fen) ascii)) (shown fen few),
      ap (λ (b : Bool). if b then Some fen else None) (sym less),
    )
