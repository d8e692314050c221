-- A prefix of a spelling has at most the spelled value, even if its last digit counts a tenth of
-- the unit before it.
use Rattle.std.proofs.Common.{◌≡◌, ℕ, zero, suc, ◌+◌, ◌-◌, ◌*◌, ◌/◌, ◌%◌, ◌^◌, ◌<◌, ◌≤◌, Bool, true, false, nat_lt, List, [], ◌∷◌, ◌++◌, map, refl, sym, ap, ◌∙◌, arith, if◌then◌else◌}
use Rattle.std.proofs.lemmas.Bool.Decides.{nat_tests}
use Rattle.std.proofs.Math.Decide.{dec_le}
use Rattle.std.proofs.Math.Nat.{mul-pos, mul_assoc, mul-le-mul_left, mul-le-mul_right, lt_of_mul-lt-mul_right, div-le_of_le-mul, pow-le-pow_right, le_trans}
use Rattle.std.proofs.lemmas.Nat.{pow-add}
use Rattle.cn_core.specs.declared.method.ChineseCountMethod.{ChineseCountMethod}
use Rattle.cn_core.specs.Mark.{Mark, digit, unit, other}
use Rattle.cn_core.specs.Scale.{scale, exponent}
use Rattle.cn_core.specs.Spelling.{spelling_within, after_unit}
use Rattle.cn_core.specs.Value.{value, colloquial_value, product, records_from}
use Rattle.cn_core.proofs.ScaleLaws.{exponent-some, scale-pos}
use Rattle.cn_core.proofs.Spellings.{Spells, Spells-digit, Spells-step, IsCut, after_unit-by, spelled-by}

product-pos : (method : ChineseCountMethod) (ranks : List ℕ)
    → 0 < product (map (scale method) ranks)
product-pos method [] = omega arith
product-pos method (rank ∷ ranks) = mul-pos (scale-pos method rank) (product-pos method ranks)

-- appending marks to a list lowers no weight
weight-more : (method : ChineseCountMethod) (least : ℕ) (marks back : List Mark)
    → product (map (scale method) (records_from least marks))
    ≤ product (map (scale method) (records_from least (marks ++ back)))
weight-more method least [] back = let p =
    product-pos method (records_from least back) in omega (arith, p)
weight-more method least (digit number ∷ marks) back = weight-more method least marks back
weight-more method least (other ∷ marks) back = weight-more method least marks back
weight-more method least (unit rank ∷ marks) back =
    let later = mul-le-mul_left (scale method rank) (weight-more method (rank + 1) marks back) in
    grind (arith, nat_tests, later, weight-more method least marks back)

value-more : (method : ChineseCountMethod) (marks back : List Mark)
    → value method marks ≤ value method (marks ++ back)
value-more method [] back = omega arith
value-more method (digit number ∷ marks) back = let w =
    mul-le-mul_left number (weight-more method 0 marks back) in let ih =
    value-more method marks back in omega (arith, w, ih)
value-more method (unit rank ∷ marks) back = value-more method marks back
value-more method (other ∷ marks) back = value-more method marks back

-- a list that starts with a digit and is directly after a unit has at least the value that this
-- digit would have as the last mark
abbrev OutweighsEnd : ChineseCountMethod → Mark → List Mark → Type 0
OutweighsEnd method (unit rank) (digit number ∷ rest) =
    colloquial_value method (unit rank ∷ digit number ∷ []) ≤ value method (digit number ∷ rest)
OutweighsEnd method mark rest = Unit {0}

abbrev pub EachOutweighsEnd : ChineseCountMethod → List Mark → Type 0
EachOutweighsEnd method [] = Unit {0}
EachOutweighsEnd method (mark ∷ rest) = OutweighsEnd method mark rest × EachOutweighsEnd method rest

-- so wherever such a list is cut, the value of its prefix is at most the value of the list
pub front-value : (method : ChineseCountMethod) (front back : List Mark)
    → EachOutweighsEnd method (front ++ back)
    → colloquial_value method front ≤ value method (front ++ back)
front-value method [] back h = omega arith
front-value method (digit number ∷ front) back h = let w =
    mul-le-mul_left number (weight-more method 0 front back) in let ih =
    front-value method front back h.1 in omega (arith, w, ih)
front-value method (other ∷ front) back h = front-value method front back h.1
front-value method (unit rank ∷ []) back h = omega arith
front-value method (unit rank ∷ digit number ∷ []) back h = h.0
front-value method (unit rank ∷ digit number ∷ mark ∷ front) back h =
    front-value method (digit number ∷ mark ∷ front) back h.1
front-value method (unit rank ∷ unit next ∷ front) back h =
    front-value method (unit next ∷ front) back h.1
front-value method (unit rank ∷ other ∷ front) back h = front-value method (other ∷ front) back h.1

OutweighsEnd-more : (method : ChineseCountMethod) (mark : Mark) (rest back : List Mark) (rank : ℕ)
    → OutweighsEnd method mark rest → OutweighsEnd method mark (rest ++ unit rank ∷ back)
OutweighsEnd-more method (digit number) rest back rank h = tt
OutweighsEnd-more method other rest back rank h = tt
OutweighsEnd-more method (unit next) [] back rank h = tt
OutweighsEnd-more method (unit next) (digit number ∷ rest) back rank h =
    le_trans h (value-more method (digit number ∷ rest) (unit rank ∷ back))
OutweighsEnd-more method (unit next) (unit more ∷ rest) back rank h = tt
OutweighsEnd-more method (unit next) (other ∷ rest) back rank h = tt

EachOutweighsEnd-cut : (method : ChineseCountMethod) (front back : List Mark) (rank : ℕ)
    → EachOutweighsEnd method front → OutweighsEnd method (unit rank) back
    → EachOutweighsEnd method back
    → EachOutweighsEnd method (front ++ unit rank ∷ back)
EachOutweighsEnd-cut method [] back rank f u b = (u, b)
EachOutweighsEnd-cut method (mark ∷ front) back rank f u b = (
  OutweighsEnd-more method mark front back rank f.0,
  EachOutweighsEnd-cut method front back rank f.1 u b,
)

abbrev first_digit : List Mark → ℕ
first_digit (digit number ∷ rest) = number
first_digit marks = 0

first_digit-cut : (front back : List Mark) (rank : ℕ)
    → first_digit (front ++ unit rank ∷ back) ≡ first_digit front
first_digit-cut [] back rank = refl
first_digit-cut (digit number ∷ front) back rank = refl
first_digit-cut (unit next ∷ front) back rank = refl
first_digit-cut (other ∷ front) back rank = refl

-- the first digit times any power of ten that the number reaches is at most the number
abbrev Leads : ℕ → ℕ → Type 0
Leads first number = (power : ℕ) → 10 ^ power ≤ number → first * 10 ^ power ≤ number

pub record IsLed (method : ChineseCountMethod) (number : ℕ) (marks : List Mark) : Type 0 where
  pub spells : Spells method number marks
  pub first : Leads (first_digit marks) number
  pub ends : EachOutweighsEnd method marks

Leads-digit : (number : ℕ) → number < 10 → Leads number number
Leads-digit number low zero h = omega arith
Leads-digit number low (suc power) h = absurd (let p : 10 ^ 1 ≤ 10 ^ suc power =
    pow-le-pow_right (omega arith) {i = 1} (omega arith) in omega (arith, p, h, low))

Leads-cut : (method : ChineseCountMethod) (number rank first : ℕ) → IsCut method number rank
    → Leads first (number / scale method rank) → Leads first number
Leads-cut method number rank first cut rest power h =
    let e = exponent method rank in
    let k = power - e in
    let whole : 10 ^ (k + e) ≡ 10 ^ k * scale method rank = pow-add 10 k e in
    let reach : 10 ^ (k + e) ≤ number = elim (dec_le power e) [
      | yes low ↦ let same : k + e ≡ e = omega (arith, low) in rw same cut.size
      | no high ↦ let same : k + e ≡ power = omega (arith, high) in rw same h
    ] in
    let below : 10 ^ k < number / scale method rank + 1 =
    lt_of_mul-lt-mul_right (scale method rank)
    (omega (arith, whole, reach, cut.sum, cut.remainder)) in
    let high : first * 10 ^ k * scale method rank
    ≤ number / scale method rank * scale method rank =
    mul-le-mul_right (scale method rank) (rest k (omega (arith, below))) in
    let up : first * 10 ^ power ≤ first * 10 ^ (k + e) =
    mul-le-mul_left first (pow-le-pow_right (omega arith) (omega arith)) in
    let same : first * 10 ^ (k + e) ≡ first * 10 ^ k * scale method rank =
    ap (λ n. first * n) whole ∙ sym (mul_assoc first (10 ^ k) (scale method rank)) in
    omega (arith, up, same, high, cut.sum)

-- the marks directly after a unit have a value of at least a tenth of the unit, or start with 零
behind-unit : (method : ChineseCountMethod) (rank remainder : ℕ) (marks : List Mark) → 1 ≤ rank
    → IsLed method remainder marks → 0 < remainder → scale method rank / 10 ≤ remainder
    → OutweighsEnd method (unit rank) marks
behind-unit method rank remainder [] low h some full = tt
behind-unit method rank remainder (unit next ∷ rest) low h some full = tt
behind-unit method rank remainder (other ∷ rest) low h some full = tt
behind-unit method rank remainder (digit number ∷ rest) low h some full = by (nat_lt rank 2) where
  e : ℕ
  e = exponent method rank

  tenth : number * scale method rank ≤ 10 * remainder
  tenth =
      let up : e - 1 + 1 ≡ e = omega (arith, exponent-some method rank low) in
      let whole : scale method rank ≡ 10 ^ (e - 1) * 10 =
      ap (λ n. 10 ^ n) (sym up) ∙ pow-add 10 (e - 1) 1 in
      let part : number * 10 ^ (e - 1) ≤ remainder = h.first (e - 1) (omega (arith, whole, full)) in
      let same : number * scale method rank ≡ number * 10 ^ (e - 1) * 10 =
      ap (λ n. number * n) whole ∙ sym (mul_assoc number (10 ^ (e - 1)) 10) in
      omega (arith, part, same)

  by : (b : Bool) → (if b then number else number * scale method rank / 10)
      ≤ value method (digit number ∷ rest)
  by true = let one = h.first 0 (omega (arith, some)) in omega (arith, one, h.spells.sum)
  by false = rw (h.spells.sum) (div-le_of_le-mul 10 tenth)

IsLed-digit : (method : ChineseCountMethod) (number : ℕ) → number < 10
    → IsLed method number (digit number ∷ [])
IsLed-digit method number low = record {
  spells = Spells-digit method number;
  first =
      Leads-digit number low;
  ends = (tt, tt);
}

IsLed-step : (method : ChineseCountMethod) (number rank : ℕ) (front back : List Mark)
    → IsCut method number rank → IsLed method (number / scale method rank) front
    → IsLed method (number % scale method rank) back
    → IsLed method number (front ++ unit rank
    ∷ after_unit (number % scale method rank) (scale method rank) back)
IsLed-step method number rank front back cut f b =
    let remainder = number % scale method rank in
    let after = after_unit remainder (scale method rank) back in
    let behind : OutweighsEnd method (unit rank) after =
    after_unit-by (OutweighsEnd method (unit rank)) remainder (scale method rank) back
    (λ none. tt) (λ some gap. nothing (nat_lt rank 2))
    (behind-unit method rank remainder back cut.low b) in
    let each : EachOutweighsEnd method after =
    after_unit-by (EachOutweighsEnd method) remainder (scale method rank) back
    (λ none. tt) (λ some gap. (tt, b.ends)) (λ some full. b.ends) in
    record {
      spells = Spells-step method number rank front back cut f.spells b.spells;
      first = rw (first_digit-cut front after rank) (Leads-cut method number rank
          (first_digit front) cut f.first);
      ends = EachOutweighsEnd-cut method front after rank f.ends behind each;
    } where
      nothing : (b : Bool) → (if b then 0 else 0 * scale method rank / 10)
          ≤ value method (digit 0 ∷ back)
      nothing true = omega arith
      nothing false = omega arith

pub IsLed-spelling_within : (method : ChineseCountMethod) (steps number : ℕ) → number ≤ steps
    → number < scale method 15 * scale method 15
    → IsLed method number (spelling_within steps method number)
IsLed-spelling_within method = spelled-by method (IsLed method) (IsLed-digit method)
    (IsLed-step method)
