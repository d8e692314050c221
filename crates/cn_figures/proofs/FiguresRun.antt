-- Figures are read to their end, and what has been read can be completed.
use Rattle.std.proofs.Common.{◌≡◌, ℕ, ◌+◌, ◌*◌, ◌<◌, ◌≤◌, ◌==◌, ◌⊎◌, inl, inr, Bool, true, false, List, [], ◌∷◌, ◌++◌, length, map, drop, Option, Some, None, refl, sym, ap, ◌∙◌, if◌then◌else◌, append_assoc, arith}
use Rattle.cn_grammar.specs.Machine.{run}
use Rattle.cn_grammar.proofs.Runs.{run-ran, run-append}
use Rattle.cn_core.proofs.Fronts.{and-left, and-right}
use Rattle.cn_figures.specs.declared.part.Part.{Part}
use Rattle.cn_figures.specs.declared.part.Part.TheVariants.{Digit, Comma, Point}
use Rattle.cn_figures.specs.declared.progress.Progress.{Progress}
use Rattle.cn_figures.specs.declared.state.State.{State}
use Rattle.cn_figures.specs.declared.state.State.TheVariants.{Beginning, One, Two, Three, Many, AfterComma, CommaOne, CommaTwo, CommaThree, AfterPoint, Jiao, Fen}
use Rattle.cn_core.specs.Digits.{value_after, value_of}
use Rattle.cn_figures.specs.Figures.{Triple, with_commas, digits_of, marked, pointed, fen_of, below, AreFigures}
use Rattle.cn_figures.specs.Working.Steps.{with_more, step, with_fen, advance, end, is_end}
use Rattle.cn_figures.proofs.Fronts.{AreZeros}
use Rattle.cn_figures.proofs.Yuan.{digit-more, below-more, value-behind}

-- this state and this amount together
abbrev pub at : State → Option ℕ → Progress
at state fen = record { state = state; fen = fen }

-- these parts lead from one state to another
abbrev pub Runs : Progress → List Part → Progress → Type 0
Runs progress parts last = run advance progress parts ≡ Some last

-- digits from the fourth on
runs-many : (yuan : ℕ) (digits : List ℕ)
    → Runs (at Many (below (100 * yuan))) (map Digit digits)
    (at Many (below (100 * value_after yuan digits)))
runs-many yuan [] = refl
runs-many yuan (digit ∷ digits) =
    ap (λ fen. run advance (at Many fen) (map Digit digits)) (digit-more yuan digit)
    ∙ runs-many (yuan * 10 + digit) digits

-- the state after digits without a comma
abbrev pub behind : List ℕ → State
behind [] = Beginning
behind (a ∷ []) = One
behind (a ∷ b ∷ []) = Two
behind (a ∷ b ∷ c ∷ []) = Three
behind digits = Many

runs-front : (a : ℕ) (digits : List ℕ)
    → Runs (at One (below (100 * a))) (map Digit digits)
    (at (behind (a ∷ digits)) (below (100 * value_after a digits)))
runs-front a [] = refl
runs-front a (b ∷ []) = ap (λ fen. Some (at Two fen)) (digit-more a b)
runs-front a (b ∷ c ∷ []) =
    ap (λ fen. Some (at Three (with_more fen 10 (100 * c)))) (digit-more a b)
    ∙ ap (λ fen. Some (at Three fen)) (digit-more (a * 10 + b) c)
runs-front a (b ∷ c ∷ d ∷ digits) =
    ap (λ fen. run advance (at Three (with_more fen 10 (100 * c))) (Digit d ∷ map Digit digits))
    (digit-more a b)
    ∙ ap (λ fen. run advance (at Three fen) (Digit d ∷ map Digit digits)) (digit-more (a * 10 + b) c)
    ∙ ap (λ fen. run advance (at Many fen) (map Digit digits)) (digit-more ((a * 10 + b) * 10 + c) d)
    ∙ runs-many (((a * 10 + b) * 10 + c) * 10 + d) digits

runs-begun : (currency : Bool) (front : List ℕ) → 0 < length front
    → Runs (at Beginning (Some 0)) (marked currency ++ map Digit front)
    (at (behind front) (below (100 * value_of front)))
runs-begun currency [] some = absurd (omega (arith, some))
runs-begun false (a ∷ digits) some =
    let same : 0 * 10 + 100 * a ≡ 100 * (0 * 10 + a) = omega arith in
    ap (λ fen. run advance (at One (below fen)) (map Digit digits)) same
    ∙ runs-front (0 * 10 + a) digits
runs-begun true (a ∷ digits) some =
    let same : 0 * 10 + 100 * a ≡ 100 * (0 * 10 + a) = omega arith in
    ap (λ fen. run advance (at One (below fen)) (map Digit digits)) same
    ∙ runs-front (0 * 10 + a) digits

-- the state after triples
abbrev pub behind_triples : State → List Triple → State
behind_triples state [] = state
behind_triples state (triple ∷ triples) = CommaThree

triples-behind : (triples : List Triple) → behind_triples CommaThree triples ≡ CommaThree
triples-behind [] = refl
triples-behind (triple ∷ triples) = refl

runs-triple : (state : State) (yuan a b c : ℕ) (more : List Part) → step state Comma ≡ Some AfterComma
    → run advance (at state (below (100 * yuan))) (Comma ∷ Digit a ∷ Digit b ∷ Digit c ∷ more)
    ≡ run advance (at CommaThree (below (100 * (((yuan * 10 + a) * 10 + b) * 10 + c)))) more
runs-triple state yuan a b c more comma =
    let fen = below (100 * yuan) in
    run-ran advance (at state fen) Comma (Digit a ∷ Digit b ∷ Digit c ∷ more)
    (Some (at AfterComma fen)) (comma-step state fen comma)
    ∙ ap (λ fen. run advance (at CommaOne fen) (Digit b ∷ Digit c ∷ more)) (digit-more yuan a)
    ∙ ap (λ fen. run advance (at CommaTwo fen) (Digit c ∷ more)) (digit-more (yuan * 10 + a) b)
    ∙ ap (λ fen. run advance (at CommaThree fen) more) (digit-more ((yuan * 10 + a) * 10 + b) c)
  where
    comma-step : (state : State) (fen : Option ℕ) → step state Comma ≡ Some AfterComma
        → advance (at state fen) Comma ≡ Some (at AfterComma fen)
    comma-step state fen e = still state fen ∙ ap (with_fen fen) e where
      still : (state : State) (fen : Option ℕ)
          → advance (at state fen) Comma ≡ with_fen fen (step state Comma)
      still Fen fen = refl
      still Jiao fen = refl
      still AfterPoint fen = refl
      still state fen = refl

runs-triples : (state : State) (yuan : ℕ) (triples : List Triple)
    → ((triples ≡ []) ⊎ (step state Comma ≡ Some AfterComma))
    → Runs (at state (below (100 * yuan))) (with_commas triples)
    (at (behind_triples state triples) (below (100 * value_after yuan (digits_of triples))))
runs-triples state yuan [] h = refl
runs-triples state yuan ((a, b, c) ∷ triples) (inl none) = absurd (cc)
runs-triples state yuan ((a, b, c) ∷ triples) (inr comma) =
    let next = ((yuan * 10 + a) * 10 + b) * 10 + c in
    runs-triple state yuan a b c (with_commas triples) comma
    ∙ runs-triples CommaThree next triples (inr refl)
    ∙ ap (λ state. Some (at state (below (100 * value_after next (digits_of triples)))))
    (triples-behind triples)

-- the digits before a comma are three at most
comma-fits : (front : List ℕ) (triples : List Triple) → 0 < length front
    → (triples ≡ []) ⊎ (length front ≤ 3)
    → (triples ≡ []) ⊎ (step (behind front) Comma ≡ Some AfterComma)
comma-fits front triples some (inl none) = inl none
comma-fits [] triples some (inr few) = absurd (omega (arith, some))
comma-fits (a ∷ []) triples some (inr few) = inr refl
comma-fits (a ∷ b ∷ []) triples some (inr few) = inr refl
comma-fits (a ∷ b ∷ c ∷ []) triples some (inr few) = inr refl
comma-fits (a ∷ b ∷ c ∷ d ∷ front) triples some (inr few) = absurd (omega (arith, few))

-- figures may end at this state, and a point may follow
record IsYuanEnd (state : State) : Type 0 where
  ends : is_end state ≡ true
  point : (fen : Option ℕ) → advance (at state fen) Point ≡ Some (at AfterPoint fen)

yuan-end : (front : List ℕ) (triples : List Triple) → 0 < length front
    → IsYuanEnd (behind_triples (behind front) triples)
yuan-end [] triples some = absurd (omega (arith, some))
yuan-end (a ∷ front) (triple ∷ triples) some = record { ends = refl; point = λ fen. refl }
yuan-end (a ∷ []) [] some = record { ends = refl; point = λ fen. refl }
yuan-end (a ∷ b ∷ []) [] some = record { ends = refl; point = λ fen. refl }
yuan-end (a ∷ b ∷ c ∷ []) [] some = record { ends = refl; point = λ fen. refl }
yuan-end (a ∷ b ∷ c ∷ d ∷ front) [] some = record { ends = refl; point = λ fen. refl }

runs-zeros : (fen : Option ℕ) (zeros : List ℕ) → AreZeros zeros
    → Runs (at Fen fen) (map Digit zeros) (at Fen fen)
runs-zeros fen [] h = refl
runs-zeros fen (digit ∷ zeros) h =
    run-ran advance (at Fen fen) (Digit digit) (map Digit zeros) (Some (at Fen fen))
    (ap (λ (b : Bool). with_fen fen (if b then Some Fen else None)) (and-left (digit == 0) _ h))
    ∙ runs-zeros fen zeros (and-right (digit == 0) _ h)

-- the places after the yuan
runs-places : (state : State) (yuan : ℕ) (places : List ℕ) → IsYuanEnd state
    → AreZeros (drop 2 places)
    → (last : Progress) × Runs (at state (below (100 * yuan))) (pointed places) last
    × (end last ≡ Some (below (100 * yuan + fen_of places)))
runs-places state yuan [] is zeros =
    let same : 100 * yuan ≡ 100 * yuan + 0 = omega arith in (
      at state (below (100 * yuan)),
      refl,
      ap (λ (b : Bool). if b then Some (below (100 * yuan)) else None) is.ends
          ∙ ap (λ fen. Some (below fen)) same,
    )
runs-places state yuan (a ∷ []) is zeros =
    let was = below (100 * yuan) in
    let more : 100 * yuan * 1 + 10 * a ≡ 100 * yuan + 10 * a = omega arith in (
      at Jiao (with_more was 1 (10 * a)),
      run-ran advance (at state was) Point (Digit a ∷ []) _ (is.point was),
      ap (λ fen. Some fen) (below-more (100 * yuan) 1 (10 * a) (omega arith) ∙ ap below more),
    )
runs-places state yuan (a ∷ b ∷ digits) is zeros =
    let was = below (100 * yuan) in
    let jiao = 100 * yuan * 1 + 10 * a in
    let last = with_more (with_more was 1 (10 * a)) 1 b in
    let more : jiao * 1 + b ≡ 100 * yuan + (10 * a + b) = omega arith in (
      at Fen last,
      run-ran advance (at state was) Point (Digit a ∷ Digit b ∷ map Digit digits) _ (is.point was)
          ∙ runs-zeros last digits zeros,
      ap (λ fen. Some (with_more fen 1 b)) (below-more (100 * yuan) 1 (10 * a) (omega arith))
          ∙ ap (λ fen. Some fen) (below-more jiao 1 b (omega arith) ∙ ap below more),
    )

pub figures-run : (parts : List Part) (fen : ℕ) → AreFigures parts fen
    → (last : Progress) × Runs (at Beginning (Some 0)) parts last × (end last ≡ Some (below fen))
figures-run parts fen h =
    let yuan = value_of h.front in
    let all = value_of (h.front ++ digits_of h.triples) in
    let state = behind_triples (behind h.front) h.triples in
    let last = runs-places state all h.places (yuan-end h.front h.triples h.some) h.zeros in
    let fronts : Runs (at Beginning (Some 0)) (marked h.currency ++ map Digit h.front)
    (at (behind h.front) (below (100 * yuan))) = runs-begun h.currency h.front h.some in
    let triples : Runs (at (behind h.front) (below (100 * yuan))) (with_commas h.triples)
    (at state (below (100 * all))) =
    runs-triples (behind h.front) yuan h.triples (comma-fits h.front h.triples h.some h.short)
    ∙ ap (λ yuan. Some (at state (below (100 * yuan))))
    (sym (value-behind h.front (digits_of h.triples))) in (
      last.0,
      ap (run advance (at Beginning (Some 0)))
          (h.form ∙ sym (append_assoc (marked h.currency) (map Digit h.front)
          (with_commas h.triples ++ pointed h.places)))
          ∙ run-append advance (at Beginning (Some 0)) (marked h.currency ++ map Digit h.front)
          (with_commas h.triples ++ pointed h.places) (at (behind h.front) (below (100 * yuan))) fronts
          ∙ run-append advance (at (behind h.front) (below (100 * yuan))) (with_commas h.triples)
          (pointed h.places) (at state (below (100 * all))) triples ∙ last.1,
      last.2 ∙ ap (λ fen. Some (below fen)) (sym h.value),
    )
