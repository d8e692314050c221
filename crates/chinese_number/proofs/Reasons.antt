-- The reasons for refusals.
use Rattle.std.proofs.Common.{◌≡◌, ◌↔◌, ℕ, ℤ, Bool, true, false, not, ◌&&◌, List, [], ◌∷◌, Option, None, Ok, Err, refl, sym, ap, ◌∙◌, if◌then◌else◌}
use Rattle.cn_core.specs.declared.method.ChineseCountMethod.{ChineseCountMethod}
use Rattle.cn_core.specs.Mark.{Mark, digit, unit, other}
use Rattle.cn_core.specs.Numeral.{Completable, is_digit_or_unit, separates_digits, multiplies_upwards, counts_a_unit, groups_strictly, may_precede, each_may_precede}
use Rattle.cn_core.specs.Reading.{Reads}
use Rattle.cn_core.specs.Whole.{Kind}
use Rattle.cn_core.proofs.Fronts.{and-left, and-right, both, each-from_completable, completable-from_each}
use Rattle.cn_judge.specs.Reason.{IsReason, broken_rule, reason_in, rule_broken_at}
use Rattle.cn_judge.specs.declared.fault.NumeralFault.{NumeralFault}
use Rattle.cn_judge.specs.declared.fault.NumeralFault.TheVariants.{Start, Character, Digits, Units, Ge, Groups}
use Rattle.chinese_number.specs.Places.{each_keeps, first_broken_rule}
use Rattle.chinese_number.proofs.Reading.{Reads-same}

-- the reason for the one answer
pub IsReason-same : (kind : Kind) (method : ChineseCountMethod) (bytes : List ℕ)
    (a b : Option NumeralFault) → IsReason kind method bytes a → IsReason kind method bytes b
    → a ≡ b
IsReason-same kind method bytes a b (x, reads_x, is_a) (y, reads_y, is_b) =
    is_a ∙ ap (reason_in (rule_broken_at bytes)) (Reads-same kind method bytes x y reads_x reads_y)
    ∙ sym is_b

pub IsReason-none : (kind : Kind) (method : ChineseCountMethod) (bytes : List ℕ)
    → IsReason kind method bytes None ↔ ((number : ℤ) × Reads kind method bytes (Ok number))
IsReason-none kind method bytes = (there, λ h. (Ok h.0, h.1, refl)) where
  there : IsReason kind method bytes None → (number : ℤ) × Reads kind method bytes (Ok number)
  there (Ok number, reads, is) = (number, reads)
  there (Err refusal, reads, is) = cc

-- a rule that is one of the five is kept by each mark of a completable list
keeps : (rule : Mark → List Mark → Bool)
    → ((mark : Mark) (rest : List Mark) → may_precede mark rest ≡ true → rule mark rest ≡ true)
    → (marks : List Mark) → each_may_precede marks ≡ true → each_keeps rule marks ≡ true
keeps rule one [] h = refl
keeps rule one (mark ∷ rest) h =
    both (rule mark rest) (each_keeps rule rest) (one mark rest (and-left (may_precede mark rest) _ h))
    (keeps rule one rest (and-right (may_precede mark rest) _ h))

-- so of 零, a mark and such a list only the mark counts
alone : (rule : Mark → List Mark → Bool) (mark : Mark) (rest : List Mark)
    → rule (digit 0) (mark ∷ rest) ≡ true → each_keeps rule rest ≡ true
    → each_keeps rule (digit 0 ∷ mark ∷ rest) ≡ rule mark rest
alone rule mark rest zero after = rw (zero, after) (and-true (rule mark rest)) where
  and-true : (b : Bool) → (b && true) ≡ b
  and-true true = refl
  and-true false = refl

zero-separates : (mark : Mark) (rest : List Mark) → separates_digits (digit 0) (mark ∷ rest) ≡ true
zero-separates (digit value) rest = refl
zero-separates (unit rank) rest = refl
zero-separates other rest = refl

-- the five rules, one by one
five : (a b c d e : Bool) → (a && b && c && d && e) ≡ true
    → (a ≡ true) × (b ≡ true) × (c ≡ true) × (d ≡ true) × (e ≡ true)
five false b c d e h = cc
five true false c d e h = cc
five true true false d e h = cc
five true true true false e h = cc
five true true true true e h = (refl, refl, refl, refl, h)

kept : (mark : Mark) (rest : List Mark) → may_precede mark rest ≡ true
    → (is_digit_or_unit mark ≡ true) × (separates_digits mark rest ≡ true)
    × (multiplies_upwards mark rest ≡ true) × (counts_a_unit mark rest ≡ true)
    × (groups_strictly mark rest ≡ true)
kept mark rest h =
    five (is_digit_or_unit mark) (separates_digits mark rest) (multiplies_upwards mark rest)
    (counts_a_unit mark rest) (groups_strictly mark rest) h

pub first-broken : (mark : Mark) (rest : List Mark) → Completable rest
    → broken_rule mark rest ≡ first_broken_rule (digit 0 ∷ mark ∷ rest)
first-broken mark rest completes =
    let each = each-from_completable rest completes in
    let second = alone (λ m r. is_digit_or_unit m) mark rest refl
    (keeps (λ m r. is_digit_or_unit m) (λ m r h. (kept m r h).0) rest each) in
    let third = alone separates_digits mark rest (zero-separates mark rest)
    (keeps separates_digits (λ m r h. (kept m r h).1) rest each) in
    let fourth = alone multiplies_upwards mark rest refl
    (keeps multiplies_upwards (λ m r h. (kept m r h).2) rest each) in
    let fifth = alone counts_a_unit mark rest refl
    (keeps counts_a_unit (λ m r h. (kept m r h).3) rest each) in
    let sixth = alone groups_strictly mark rest refl
    (keeps groups_strictly (λ m r h. (kept m r h).4) rest each) in
    rw (second, third, fourth, fifth, sixth) refl

-- rule 1 is the reason exactly if the five rules are kept
starts : (a b c d e : Bool) → (if not a then Character else if not b then Digits
    else if not c then Units else if not d then Ge else if not e then Groups else Start) ≡ Start
    → (a && b && c && d && e) ≡ true
starts false b c d e h = cc
starts true false c d e h = cc
starts true true false d e h = cc
starts true true true false e h = cc
starts true true true true false h = cc
starts true true true true true h = refl

pub start-completable : (mark : Mark) (rest : List Mark) → Completable rest
    → (broken_rule mark rest ≡ Start) ↔ Completable (mark ∷ rest)
start-completable mark rest completes = (there, back) where
  there : broken_rule mark rest ≡ Start → Completable (mark ∷ rest)
  there h = completable-from_each (mark ∷ rest)
      (both (may_precede mark rest) (each_may_precede rest)
      (starts (is_digit_or_unit mark) (separates_digits mark rest) (multiplies_upwards mark rest)
      (counts_a_unit mark rest) (groups_strictly mark rest) h)
      (each-from_completable rest completes))

  back : Completable (mark ∷ rest) → broken_rule mark rest ≡ Start
  back h =
      let k = kept mark rest (and-left (may_precede mark rest) (each_may_precede rest)
      (each-from_completable (mark ∷ rest) h)) in
      rw (k.0, k.1, k.2, k.3, k.4) refl
