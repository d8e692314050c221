-- The reason for a refusal is the first rule that 零 and the suffix from the place break.
use Rattle.std.proofs.Common.{◌≡◌, inl, inr, ℕ, zero, suc, ◌+◌, ◌==◌, Bool, true, false, not, ◌&&◌, nat_le, nat_lt, List, [], ◌∷◌, ◌++◌, length, drop, Some, None, Err, refl, sym, ap, subst, ◌∙◌, arith, if◌then◌else◌}
use Rattle.std.proofs.lemmas.Bool.Decides.{nat_tests}
use Rattle.std.specs.Option.{option_map_or}
use Rattle.cn_core.specs.declared.method.ChineseCountMethod.{ChineseCountMethod}
use Rattle.cn_core.specs.Judge.{Judges}
use Rattle.cn_core.specs.Judging.{place_of}
use Rattle.cn_core.specs.Mark.{Mark, digit, unit, other}
use Rattle.cn_core.specs.Numeral.{is_numeral, separates_digits, multiplies_upwards, counts_a_unit, first_not_smaller, groups_strictly, each_may_precede}
use Rattle.cn_core.specs.Place.{body, is_tail}
use Rattle.cn_core.specs.Refusal.{incorrect_at}
use Rattle.cn_core.proofs.Fronts.{IsPlace-place_of, IsPlace-same, and-left, completable-from_each}
use Rattle.cn_judge.specs.Reason.{broken_rule, rule_broken_first}
use Rattle.cn_judge.proofs.Tails.{body-tail}
use Rattle.chinese_number.specs.Places.{first_broken_rule, judged_part}
use Rattle.chinese_number.proofs.Numerals.{refused_part}
use Rattle.chinese_number.proofs.Reasons.{first-broken}

-- at the place of a list
place-broken : (marks : List Mark)
    → rule_broken_first (drop (place_of marks) marks)
    ≡ first_broken_rule (digit 0 ∷ drop (place_of marks) marks)
place-broken [] = refl
place-broken (mark ∷ rest) = by (each_may_precede rest) refl (place-broken rest) where
  by : (b : Bool) → each_may_precede rest ≡ b
      → rule_broken_first (drop (place_of rest) rest)
      ≡ first_broken_rule (digit 0 ∷ drop (place_of rest) rest)
      → rule_broken_first (drop (if b then 0 else suc (place_of rest)) (mark ∷ rest))
      ≡ first_broken_rule (digit 0 ∷ drop (if b then 0 else suc (place_of rest)) (mark ∷ rest))
  by true each ih = first-broken mark rest (completable-from_each rest each)
  by false each ih = ih

-- at the last mark of a list
last-broken : (marks : List Mark) (place : ℕ) → place + 1 ≡ length marks
    → rule_broken_first (drop place marks) ≡ first_broken_rule (digit 0 ∷ drop place marks)
last-broken [] place h = absurd (omega (arith, h))
last-broken (mark ∷ []) zero h = first-broken mark [] (completable-from_each [] refl)
last-broken (mark ∷ []) (suc place) h = absurd (omega (arith, h))
last-broken (mark ∷ next ∷ rest) zero h = absurd (omega (arith, h))
last-broken (mark ∷ next ∷ rest) (suc place) h =
    last-broken (next ∷ rest) place (omega (arith, h))

-- a tail after a unit from 百 up does not change which rule an earlier mark breaks
tail-smaller : (k r : ℕ) (last : Mark) → is_tail (unit r) last ≡ true
    → first_not_smaller k (unit r ∷ last ∷ []) ≡ first_not_smaller k (unit r ∷ [])
tail-smaller k r (digit v) tail = refl
tail-smaller k r other tail = refl
tail-smaller k r (unit u) tail = by (nat_lt r k) (nat_lt u k) refl refl where
  by : (b c : Bool) → nat_lt r k ≡ b → nat_lt u k ≡ c
      → (if b then (if c then None else Some u) else Some r) ≡ (if b then None else Some r)
  by false c p q = refl
  by true true p q = refl
  by true false p q = absurd (let small : nat_le 1 u ≡ false = ge (nat_le 2 r) (nat_le 1 u) tail in
      grind (arith, nat_tests, p, q, small)) where
        ge : (a b : Bool) → (a && not b) ≡ true → b ≡ false
        ge true true h = cc
        ge true false h = refl
        ge false b h = cc

smaller-tail : (k r : ℕ) (last : Mark) (xs : List Mark) → is_tail (unit r) last ≡ true
    → first_not_smaller k (xs ++ unit r ∷ last ∷ []) ≡ first_not_smaller k (xs ++ unit r ∷ [])
smaller-tail k r last [] tail = tail-smaller k r last tail
smaller-tail k r last (digit v ∷ xs) tail = smaller-tail k r last xs tail
smaller-tail k r last (other ∷ xs) tail = smaller-tail k r last xs tail
smaller-tail k r last (unit u ∷ xs) tail =
    ap (λ o. if nat_lt u k then o else Some u) (smaller-tail k r last xs tail)

groups-tail : (mark : Mark) (r : ℕ) (last : Mark) (xs : List Mark) → is_tail (unit r) last ≡ true
    → groups_strictly mark (xs ++ unit r ∷ last ∷ []) ≡ groups_strictly mark (xs ++ unit r ∷ [])
groups-tail (digit v) r last xs tail = refl
groups-tail other r last xs tail = refl
groups-tail (unit k) r last xs tail =
    ap (λ o. option_map_or (λ next. nat_lt k next) o true) (smaller-tail k r last xs tail)

separates-same : (mark first : Mark) (xs ys : List Mark)
    → separates_digits mark (first ∷ xs) ≡ separates_digits mark (first ∷ ys)
separates-same (digit v) (digit w) xs ys = refl
separates-same (digit v) (unit w) xs ys = refl
separates-same (digit v) other xs ys = refl
separates-same (unit v) first xs ys = refl
separates-same other first xs ys = refl

multiplies-same : (mark first : Mark) (xs ys : List Mark)
    → multiplies_upwards mark (first ∷ xs) ≡ multiplies_upwards mark (first ∷ ys)
multiplies-same (unit v) (digit w) xs ys = refl
multiplies-same (unit v) (unit w) xs ys = refl
multiplies-same (unit v) other xs ys = refl
multiplies-same (digit v) first xs ys = refl
multiplies-same other first xs ys = refl

counts-same : (mark first : Mark) (xs ys : List Mark)
    → counts_a_unit mark (first ∷ xs) ≡ counts_a_unit mark (first ∷ ys)
counts-same (unit v) (digit w) xs ys = refl
counts-same (unit v) (unit w) xs ys = refl
counts-same (unit v) other xs ys = refl
counts-same (digit v) first xs ys = refl
counts-same other first xs ys = refl

rule-tail : (mark : Mark) (r : ℕ) (last : Mark) (xs : List Mark) → is_tail (unit r) last ≡ true
    → broken_rule mark (xs ++ unit r ∷ last ∷ []) ≡ broken_rule mark (xs ++ unit r ∷ [])
rule-tail mark r last [] tail =
    rw (
      separates-same mark (unit r) (last ∷ []) [],
      multiplies-same mark (unit r) (last ∷ []) [],
      counts-same mark (unit r) (last ∷ []) [],
      groups-tail mark r last [] tail,
    ) refl
rule-tail mark r last (x ∷ xs) tail =
    rw (
      separates-same mark x (xs ++ unit r ∷ last ∷ []) (xs ++ unit r ∷ []),
      multiplies-same mark x (xs ++ unit r ∷ last ∷ []) (xs ++ unit r ∷ []),
      counts-same mark x (xs ++ unit r ∷ last ∷ []) (xs ++ unit r ∷ []),
      groups-tail mark r last (x ∷ xs) tail,
    ) refl

-- so the text has the same reason as its body
alone-kept : (r : ℕ) (last : Mark) → is_tail (unit r) last ≡ true
    → each_may_precede (unit r ∷ []) ≡ true
alone-kept r last tail = by (r == 0) refl where
  by : (b : Bool) → (r == 0) ≡ b → each_may_precede (unit r ∷ []) ≡ true
  by false e = rw e refl
  by true e =
      absurd (let big : nat_le 2 r ≡ true = and-left (nat_le 2 r) _ tail in
      grind (arith, nat_tests, e, big))

body-rule : (x : Mark) (xs : List Mark) (r : ℕ) (last : Mark) → is_tail (unit r) last ≡ true
    → rule_broken_first (drop (place_of (x ∷ xs ++ unit r ∷ [])) (x ∷ xs ++ unit r ∷ last ∷ []))
    ≡ rule_broken_first (drop (place_of (x ∷ xs ++ unit r ∷ [])) (x ∷ xs ++ unit r ∷ []))
body-rule x [] r last tail =
    let kept = alone-kept r last tail in rw kept (rule-tail x r last [] tail)
body-rule x (y ∷ ys) r last tail =
    by (each_may_precede (y ∷ ys ++ unit r ∷ [])) (body-rule y ys r last tail) where
      by : (b : Bool)
          → rule_broken_first (drop (place_of (y ∷ ys ++ unit r ∷ []))
          (y ∷ ys ++ unit r ∷ last ∷ []))
          ≡ rule_broken_first (drop (place_of (y ∷ ys ++ unit r ∷ [])) (y ∷ ys ++ unit r ∷ []))
          → rule_broken_first (drop (if b then 0 else suc (place_of (y ∷ ys ++ unit r ∷ [])))
          (x ∷ y ∷ ys ++ unit r ∷ last ∷ []))
          ≡ rule_broken_first (drop (if b then 0 else suc (place_of (y ∷ ys ++ unit r ∷ [])))
          (x ∷ y ∷ ys ++ unit r ∷ []))
      by true ih = rule-tail x r last (y ∷ ys) tail
      by false ih = ih

-- the last two marks of a list
last-two : (first second : Mark) (rest : List Mark)
    → (xs : List Mark) × (s : Mark) × (l : Mark) × (first ∷ second ∷ rest ≡ xs ++ s ∷ l ∷ [])
last-two first second [] = ([], first, second, refl)
last-two first second (third ∷ rest) =
    let more = last-two second third rest in
    (first ∷ more.0, more.1, more.2, ap (λ l. first ∷ l) more.3)

tail-rule : (x : Mark) (xs : List Mark) (s l : Mark)
    → rule_broken_first (drop (place_of (body (x ∷ xs ++ s ∷ l ∷ []))) (x ∷ xs ++ s ∷ l ∷ []))
    ≡ rule_broken_first (drop (place_of (body (x ∷ xs ++ s ∷ l ∷ [])))
    (body (x ∷ xs ++ s ∷ l ∷ [])))
tail-rule x xs s l =
    subst (λ b. rule_broken_first (drop (place_of b) (x ∷ xs ++ s ∷ l ∷ []))
    ≡ rule_broken_first (drop (place_of b) b)) (sym (body-tail x xs s l)) (by (is_tail s l) refl) where
      cut : (s : Mark) → is_tail s l ≡ true
          → rule_broken_first (drop (place_of (x ∷ xs ++ s ∷ [])) (x ∷ xs ++ s ∷ l ∷ []))
          ≡ rule_broken_first (drop (place_of (x ∷ xs ++ s ∷ [])) (x ∷ xs ++ s ∷ []))
      cut (unit r) t = body-rule x xs r l t
      cut (digit v) t = cc
      cut other t = cc

      by : (b : Bool) → is_tail s l ≡ b
          → rule_broken_first (drop (place_of (x ∷ xs ++ s ∷ (if b then [] else l ∷ [])))
          (x ∷ xs ++ s ∷ l ∷ []))
          ≡ rule_broken_first (drop (place_of (x ∷ xs ++ s ∷ (if b then [] else l ∷ [])))
          (x ∷ xs ++ s ∷ (if b then [] else l ∷ [])))
      by true t = cut s t
      by false t = refl

place-rule : (marks : List Mark)
    → rule_broken_first (drop (place_of (body marks)) marks)
    ≡ rule_broken_first (drop (place_of (body marks)) (body marks))
place-rule [] = refl
place-rule (first ∷ []) = refl
place-rule (first ∷ second ∷ []) = refl
place-rule (first ∷ second ∷ third ∷ rest) =
    let two = last-two second third rest in
    subst (λ l. rule_broken_first (drop (place_of (body (first ∷ l))) (first ∷ l))
    ≡ rule_broken_first (drop (place_of (body (first ∷ l))) (body (first ∷ l)))) (sym two.3)
    (tail-rule first two.0 two.1 two.2)

pub reason-first : (method : ChineseCountMethod) (marks : List Mark) (place : ℕ)
    → Judges method marks (Err (incorrect_at place))
    → rule_broken_first (drop place marks)
    ≡ first_broken_rule (digit 0 ∷ drop place (judged_part marks))
reason-first method marks place judges = elim (refused_part method marks place judges).1 [
  | inl at ↦
      let same : place ≡ place_of (body marks) =
      IsPlace-same (body marks) place (place_of (body marks)) at.1
      (IsPlace-place_of (body marks)) in
      rw (at.0, same) (place-rule marks ∙ place-broken (body marks))
  | inr at ↦ let numeral : is_numeral (body marks) ≡ true = at.0 in
      rw numeral (last-broken marks place at.1)
]
