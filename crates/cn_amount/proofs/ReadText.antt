-- Facts about a text while it is read, and that the states read the amounts.
use Rattle.std.proofs.Common.{◌≡◌, ℕ, ◌<◌, Bool, true, false, List, [], ◌∷◌, ◌++◌, map, Option, Some, None, refl, sym, ap, ap₂, subst, ◌∙◌, if◌then◌else◌, append-nil, arith}
use Rattle.std.specs.List.{list_all}
use Rattle.std.proofs.lemmas.List.{map-append}
use Rattle.std.proofs.lemmas.List.Folds.{list_all-append}
use Rattle.cn_core.specs.declared.script.ChineseVariant.TheVariants.{Simple}
use Rattle.cn_core.proofs.Fronts.{both}
use Rattle.cn_grammar.specs.Answers.{Begins}
use Rattle.cn_grammar.specs.Machine.{Leads, Reached, Reads, step_as}
use Rattle.cn_grammar.specs.Machine as machine
use Rattle.cn_grammar.proofs.Runs.{some-is, ran, run-more, run-map, kept}
use Rattle.cn_amount.specs.declared.capital.Capital.{Capital}
use Rattle.cn_amount.specs.declared.progress.Progress.{Progress}
use Rattle.cn_amount.specs.declared.state.State.{State}
use Rattle.cn_amount.specs.declared.state.State.TheVariants.{Beginning}
use Rattle.cn_amount.specs.declared.sum.Sum.{Sum}
use Rattle.cn_amount.specs.Form.{amount_form}
use Rattle.cn_amount.specs.Places.{amount_limit}
use Rattle.cn_amount.specs.Reading.{capital_of, capitals_of, IsAmount}
use Rattle.cn_amount.specs.Working.Steps.{step, run, accepts, is_end, add, sum_of, summed, no_sum, with_sum, advance, end, amount_machine}
use Rattle.cn_amount.specs.Writes.{capital_char, plain}
use Rattle.cn_amount.proofs.Accepted.{accepted}
use Rattle.cn_amount.proofs.FormsRead.{form-read}
use Rattle.cn_amount.proofs.Runs.{run-accepts, ends-at, sum-below}
use Rattle.cn_amount.proofs.Shows.{capitals-read, proper-of}
use Rattle.cn_amount.proofs.States.{is_proper, completion, completed, completion-proper}
use Rattle.cn_amount.proofs.Values.{form-sum, sum-append}

-- these characters are read, and lead to this state and this sum
record IsRead (text : List ℕ) (progress : Progress) : Type 0 where
  capitals : List Capital
  is : capitals_of text ≡ map Some capitals
  proper : list_all is_proper capitals ≡ true
  runs : run Beginning capitals ≡ Some progress.state
  sums : progress.sum ≡ sum_of no_sum capitals

all-proper : (front back : List Capital) → list_all is_proper front ≡ true
    → list_all is_proper back ≡ true → list_all is_proper (front ++ back) ≡ true
all-proper front back p q = list_all-append is_proper front back
    ∙ both (list_all is_proper front) (list_all is_proper back) p q

read-both : (front back : List ℕ) (a b : List Capital) → capitals_of front ≡ map Some a
    → capitals_of back ≡ map Some b → capitals_of (front ++ back) ≡ map Some (a ++ b)
read-both front back a b p q = map-append capital_of front back
    ∙ ap₂ (λ (a b : List (Option Capital)). a ++ b) p q ∙ sym (map-append Some a b)

read-more : (progress next : Progress) (text : List ℕ) (c : ℕ) → IsRead text progress
    → amount_machine.step progress c ≡ Some next → IsRead (text ++ c ∷ []) next
read-more progress next text c r e = by (capital_of c) refl e where
  with-capital : (capital : Capital) → capital_of c ≡ Some capital → (o : Option State)
      → step progress.state capital ≡ o → with_sum (add progress.sum capital) o ≡ Some next
      → IsRead (text ++ c ∷ []) next
  with-capital capital is None s e = absurd (cc)
  with-capital capital is (Some state) s e =
      let after : Progress = record { state = state; sum = add progress.sum capital } in
      subst (IsRead (text ++ c ∷ [])) (some-is after next e) (record {
        capitals = r.capitals ++ capital ∷ [];
        is = read-both text (c ∷ []) r.capitals (capital ∷ []) r.is (ap (λ x. x ∷ []) is);
        proper = all-proper r.capitals (capital ∷ []) r.proper
            (both (is_proper capital) true (proper-of c capital is) refl);
        runs = run-more step Beginning r.capitals capital progress.state r.runs ∙ s;
        sums = ap (λ sum. add sum capital) r.sums
            ∙ sym (sum-append no_sum r.capitals (capital ∷ []));
      })

  by : (read : Option Capital) → capital_of c ≡ read
      → step_as advance progress read ≡ Some next → IsRead (text ++ c ∷ []) next
  by None is e = absurd (cc)
  by (Some capital) is e = with-capital capital is (step progress.state capital) refl e

is-read : (text : List ℕ) (progress : Progress) → Leads amount_machine text progress
    → IsRead text progress
is-read text progress e =
    kept amount_machine.step (λ (progress : Progress) text. IsRead text progress) read-more []
    text amount_machine.begin progress
    (record { capitals = []; is = refl; proper = refl; runs = refl; sums = refl }) e

-- a text that is read to its end is an amount, with the value of its sum
whole-read : (text : List ℕ) (capitals : List Capital) → capitals_of text ≡ map Some capitals
    → list_all is_proper capitals ≡ true → accepts Beginning capitals ≡ true
    → IsAmount text (sum_of no_sum capitals).closed
whole-read text capitals is proper h =
    let r = accepted capitals proper h in
    record {
      choices = r.choices;
      places = r.places;
      digits = r.digits;
      form = is ∙ ap (map Some) r.is;
      value = ap (λ (sum : Sum). sum.closed)
          (ap (sum_of no_sum) r.is ∙ form-sum r.choices r.places);
    }

-- the text that is read so far can be completed
completes : (text : List ℕ) (progress : Progress) (r : IsRead text progress)
    → accepts Beginning (r.capitals ++ completion progress.state) ≡ true
completes text progress r =
    run-accepts Beginning r.capitals (completion progress.state) progress.state r.runs
    ∙ completed progress.state

completes-proper : (text : List ℕ) (progress : Progress) (r : IsRead text progress)
    → list_all is_proper (r.capitals ++ completion progress.state) ≡ true
completes-proper text progress r = all-proper r.capitals (completion progress.state) r.proper
    (completion-proper progress.state)

begins-read : (text : List ℕ) (progress : Progress) → IsRead text progress
    → Begins IsAmount text
begins-read text progress r =
    let more = completion progress.state in
    let behind = map (capital_char Simple plain) more in
    let all = r.capitals ++ more in (
      behind,
      (sum_of no_sum all).closed,
      whole-read (text ++ behind) all
          (read-both text behind r.capitals more r.is
          (capitals-read Simple plain more (completion-proper progress.state)))
          (completes-proper text progress r) (completes text progress r),
    )

-- the sum stays below the limit
sum-fits : (text : List ℕ) (progress : Progress) → IsRead text progress
    → summed progress.sum < amount_limit
sum-fits text progress r =
    let less = sum-below r.capitals (completion progress.state) (completes-proper text progress r)
    (completes text progress r) in
    let same : summed progress.sum ≡ summed (sum_of no_sum r.capitals) = ap summed r.sums in
    omega (arith, less, same)

pub step-fits : (progress : Progress) (capital : Capital) (next : State) (c : ℕ)
    → Reached amount_machine progress → capital_of c ≡ Some capital
    → step progress.state capital ≡ Some next
    → summed (add progress.sum capital) < amount_limit
step-fits progress capital next c reached is e =
    let after : Progress = record { state = next; sum = add progress.sum capital } in
    sum-fits (reached.0 ++ c ∷ []) after (read-more progress after reached.0 c
    (is-read reached.0 progress reached.1)
    (ap (step_as advance progress) is ∙ ap (with_sum (add progress.sum capital)) e))

-- the states and the sums are computed together
runs-summed : (state last : State) (sum : Sum) (capitals : List Capital)
    → run state capitals ≡ Some last
    → machine.run advance (record { state = state; sum = sum }) capitals
    ≡ Some (record { state = last; sum = sum_of sum capitals })
runs-summed state last sum [] e =
    ap (λ (state : State). let at : Progress = record { state = state; sum = sum } in Some at)
    (some-is state last e)
runs-summed state last sum (capital ∷ rest) e =
    by (step state capital) (λ next k. runs-summed next last (add sum capital) rest k) e where
      all : Progress
      all = record { state = last; sum = sum_of (add sum capital) rest }

      by : (o : Option State)
          → ((next : State) → run next rest ≡ Some last
          → machine.run advance (record { state = next; sum = add sum capital }) rest ≡ Some all)
          → ran step o rest ≡ Some last
          → ran advance (with_sum (add sum capital) o) rest ≡ Some all
      by None ih e = absurd (cc)
      by (Some next) ih e = ih next e

each-read : (text : List ℕ) (fen : ℕ) → IsAmount text fen
    → (progress : Progress) × Leads amount_machine text progress × (end progress ≡ Some fen)
each-read text fen h =
    let form = amount_form h.choices h.places in
    let last = ends-at Beginning form (form-read h.choices h.places) in
    let all : Progress = record { state = last.0; sum = sum_of no_sum form } in
    let value : (sum_of no_sum form).closed ≡ fen =
    ap (λ (sum : Sum). sum.closed) (form-sum h.choices h.places) ∙ sym h.value in (
      all,
      run-map (step_as advance) capital_of amount_machine.begin text
          ∙ ap (machine.run (step_as advance) amount_machine.begin) h.form
          ∙ sym (run-map (step_as advance) Some amount_machine.begin form)
          ∙ runs-summed Beginning last.0 no_sum form last.1,
      ap (λ (b : Bool). if b then Some (sum_of no_sum form).closed else None) last.2
          ∙ ap Some value,
    )

only-read : (text : List ℕ) (progress : Progress) (fen : ℕ) → Leads amount_machine text progress
    → end progress ≡ Some fen → IsAmount text fen
only-read text progress fen leads e =
    by (is_end progress.state) refl e (is-read text progress leads) where
      by : (b : Bool) → is_end progress.state ≡ b
          → (if b then Some progress.sum.closed else None) ≡ Some fen → IsRead text progress
          → IsAmount text fen
      by false is e r = absurd (cc)
      by true is e r =
          let ends : accepts Beginning r.capitals ≡ true =
          ap (accepts Beginning) (sym (append-nil r.capitals))
          ∙ run-accepts Beginning r.capitals [] progress.state r.runs ∙ is in
          subst (IsAmount text)
          (sym (ap (λ (sum : Sum). sum.closed) r.sums) ∙ some-is progress.sum.closed fen e)
          (whole-read text r.capitals r.is r.proper ends)

pub amount_reads : Reads IsAmount amount_machine
amount_reads = record {
  each = each-read;
  only = only-read;
  begins = λ text progress leads. begins-read text progress (is-read text progress leads);
}
