-- The state after a text, what is read after it, and that no sum is too great.
use Rattle.std.proofs.Common.{◌≡◌, ◌+◌, ◌<◌, ◌≤◌, Bool, true, false, List, [], ◌∷◌, ◌++◌, Option, Some, None, refl, sym, ap, ◌∙◌, arith}
use Rattle.std.specs.List.{list_all}
use Rattle.cn_amount.specs.declared.capital.Capital.{Capital}
use Rattle.cn_amount.specs.declared.capital.Capital.TheVariants.{Ling, Digit, Shi, Bai, Qian, Wan, Yi, Yuan, Jiao, Fen, Zheng, Ren, Min, Bi, Fu, Open, Shu, Close}
use Rattle.cn_amount.specs.declared.places.Section.{Section}
use Rattle.cn_amount.specs.declared.places.Places.{Places}
use Rattle.cn_amount.specs.declared.state.State.{State}
use Rattle.cn_amount.specs.declared.state.State.TheVariants.{Beginning}
use Rattle.cn_amount.specs.declared.sum.Sum.{Sum}
use Rattle.cn_amount.specs.Places.{AreDigits, ArePlaces, section_value, amount_value, amount_limit}
use Rattle.cn_amount.specs.Working.Steps.{step, run, accepts, is_end, add, sum_of, summed, no_sum}
use Rattle.cn_grammar.proofs.Runs.{some-is, ran, run-ran}
use Rattle.cn_amount.proofs.Accepted.{accepted}
use Rattle.cn_amount.proofs.States.{is_proper}
use Rattle.cn_amount.proofs.Values.{form-sum, sum-append}

-- whether the state after one more capital, if there is one, accepts the rest
abbrev continued : Option State → List Capital → Bool
continued state rest = elim state [ None ↦ false | Some next ↦ accepts next rest ]

accepts-continued : (state : State) (capital : Capital) (rest : List Capital) (o : Option State)
    → step state capital ≡ o → accepts state (capital ∷ rest) ≡ continued o rest
accepts-continued state capital rest o e = ap (λ o. continued o rest) e

pub run-accepts : (state : State) (start rest : List Capital) (next : State)
    → run state start ≡ Some next → accepts state (start ++ rest) ≡ accepts next rest
run-accepts state [] rest next e = ap (λ s. accepts s rest) (some-is state next e)
run-accepts state (capital ∷ start) rest next e =
    by (step state capital) refl (λ after h. run-accepts after start rest next h) where
      by : (o : Option State) → step state capital ≡ o
          → ((after : State) → run after start ≡ Some next
          → accepts after (start ++ rest) ≡ accepts next rest)
          → accepts state (capital ∷ (start ++ rest)) ≡ accepts next rest
      by None s ih = let h = run-ran step state capital start None s in cc
      by (Some after) s ih = accepts-continued state capital (start ++ rest) (Some after) s
          ∙ ih after (sym (run-ran step state capital start (Some after) s) ∙ e)

-- a text that is an amount ends at a state
pub ends-at : (state : State) (text : List Capital) → accepts state text ≡ true
    → (last : State) × (run state text ≡ Some last) × (is_end last ≡ true)
ends-at state [] h = (state, refl, h)
ends-at state (capital ∷ rest) h = by (step state capital) (λ next k. ends-at next rest k) h where
  by : (o : Option State)
      → ((next : State) → accepts next rest ≡ true
      → (last : State) × (run next rest ≡ Some last) × (is_end last ≡ true))
      → continued o rest ≡ true
      → (last : State) × (ran step o rest ≡ Some last) × (is_end last ≡ true)
  by None ih h = absurd (cc)
  by (Some next) ih h = ih next h

-- no character makes the sum less
more-summed : (sum : Sum) (capital : Capital) → summed sum ≤ summed (add sum capital)
more-summed sum Ling = omega arith
more-summed sum (Digit value) = omega arith
more-summed sum Shi = omega arith
more-summed sum Bai = omega arith
more-summed sum Qian = omega arith
more-summed sum Wan = omega arith
more-summed sum Yi = omega arith
more-summed sum Yuan = omega arith
more-summed sum Jiao = omega arith
more-summed sum Fen = omega arith
more-summed sum Zheng = omega arith
more-summed sum Ren = omega arith
more-summed sum Min = omega arith
more-summed sum Bi = omega arith
more-summed sum Fu = omega arith
more-summed sum Open = omega arith
more-summed sum Shu = omega arith
more-summed sum Close = omega arith

all-summed : (sum : Sum) (t : List Capital) → summed sum ≤ summed (sum_of sum t)
all-summed sum [] = omega arith
all-summed sum (capital ∷ t) = omega (
  arith,
  more-summed sum capital,
  all-summed (add sum capital) t,
)

section-below : (s : Section) → AreDigits s → section_value s < 10000
section-below s digits = omega (arith, digits.0, digits.1, digits.2, digits.3)

pub amount-below : (p : Places) → ArePlaces p → amount_value p < amount_limit
amount-below p digits =
    omega (
      arith,
      section-below p.wan_yi digits.0,
      section-below p.yi digits.1,
      section-below p.wan digits.2,
      section-below p.yuan digits.3,
      digits.4,
      digits.5,
    )

-- so each sum on the way is below the limit
pub sum-below : (t rest : List Capital) → list_all is_proper (t ++ rest) ≡ true
    → accepts Beginning (t ++ rest) ≡ true → summed (sum_of no_sum t) < amount_limit
sum-below t rest proper h =
    let r = accepted (t ++ rest) proper h in
    let e : sum_of no_sum (t ++ rest) ≡ record {
      closed = amount_value r.places;
      section = 0;
      digit = 0;
    } = ap (sum_of no_sum) r.is ∙ form-sum r.choices r.places in
    let s : summed (sum_of (sum_of no_sum t) rest) ≡ summed (sum_of no_sum (t ++ rest)) =
    ap summed (sym (sum-append no_sum t rest)) in
    let f : summed (sum_of no_sum (t ++ rest)) ≡ amount_value r.places + 0 =
    ap summed e in
    omega (arith, all-summed (sum_of no_sum t) rest, s, f, amount-below r.places r.digits)
