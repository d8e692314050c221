-- The states read the dates.
use Rattle.std.proofs.Common.{◌≡◌, ℕ, List, [], ◌∷◌, ◌++◌, map, Option, Some, None, refl, sym, ap, ap₂, subst, ◌∙◌}
use Rattle.std.proofs.lemmas.List.{map-append}
use Rattle.cn_grammar.specs.Answers.{Begins}
use Rattle.cn_grammar.specs.Machine.{Leads, Reads, step_as}
use Rattle.cn_grammar.specs.Machine as machine
use Rattle.cn_grammar.proofs.Runs.{some-is, run-append, run-map, kept}
use Rattle.cn_core.specs.declared.script.ChineseVariant.TheVariants.{Simple}
use Rattle.cn_date.specs.declared.capital.Capital.{Capital}
use Rattle.cn_date.specs.declared.date.BillDate.{BillDate}
use Rattle.cn_date.specs.declared.state.State.{State}
use Rattle.cn_date.specs.declared.state.State.TheVariants.{Year, Month, Day, Complete}
use Rattle.cn_date.specs.Form.{date_form}
use Rattle.cn_date.specs.Reading.{capital_of, capitals_of, IsDateText}
use Rattle.cn_date.specs.Working.Steps.{HasPart, step, run, end, date_machine}
use Rattle.cn_date.specs.Writes.{capital_char}
use Rattle.cn_date.proofs.Completed.{can-end}
use Rattle.cn_date.proofs.FormsRead.{form-read}
use Rattle.cn_date.proofs.Fronts.{Front, nothing-front, front-more}
use Rattle.cn_date.proofs.Shows.{capitals-read, written-of}

-- each state stands for the capitals that have been read
record IsRead (text : List ℕ) (state : State) : Type 0 where
  capitals : List Capital
  is : capitals_of text ≡ map Some capitals
  front : Front state capitals

read-more : (state next : State) (text : List ℕ) (c : ℕ) → IsRead text state
    → date_machine.step state c ≡ Some next → IsRead (text ++ c ∷ []) next
read-more state next text c r e = by (capital_of c) refl e where
  by : (read : Option Capital) → capital_of c ≡ read → step_as step state read ≡ Some next
      → IsRead (text ++ c ∷ []) next
  by None is e = absurd (cc)
  by (Some capital) is e = record {
    capitals = r.capitals ++ capital ∷ [];
    is = map-append capital_of text (c ∷ [])
        ∙ ap₂ (λ (a b : List (Option Capital)). a ++ b) r.is (ap (λ x. x ∷ []) is)
        ∙ sym (map-append Some r.capitals (capital ∷ []));
    front = front-more state next r.capitals capital (written-of c capital is) r.front e;
  }

is-read : (text : List ℕ) (state : State) → Leads date_machine text state → IsRead text state
is-read text state e =
    kept date_machine.step (λ state text. IsRead text state) read-more [] text (Year 0) state
    (record { capitals = []; is = refl; front = nothing-front }) e

pub has-part : (state : State) (text : List ℕ) → Leads date_machine text state → HasPart state
has-part (Year year) text e = tt
has-part (Month year part) text e = (is-read text (Month year part) e).front.is_part
has-part (Day year month days part) text e =
    (is-read text (Day year month days part) e).front.is_part
has-part (Complete date) text e = tt

-- a text that is read to its end is a date, and a date is read to its end
whole-read : (text : List ℕ) (state : State) (date : BillDate) → Leads date_machine text state
    → end state ≡ Some date → IsDateText text date
whole-read text (Complete other) date leads e =
    let r = is-read text (Complete other) leads in
    subst (λ date. IsDateText text date) (some-is other date e) (record {
      choice = r.front.choice;
      is_date = r.front.is_date;
      form = r.is ∙ ap (map Some) r.front.form;
    })
whole-read text (Year year) date leads e = absurd (cc)
whole-read text (Month year part) date leads e = absurd (cc)
whole-read text (Day year month days part) date leads e = absurd (cc)

-- a text is read as its capitals are
runs-as : (state : State) (text : List ℕ) (capitals : List Capital)
    → capitals_of text ≡ map Some capitals
    → machine.run date_machine.step state text ≡ run state capitals
runs-as state text capitals is =
    run-map (step_as step) capital_of state text ∙ ap (machine.run (step_as step) state) is
    ∙ sym (run-map (step_as step) Some state capitals)

date-read : (text : List ℕ) (date : BillDate) → IsDateText text date
    → Leads date_machine text (Complete date)
date-read text date h = runs-as (Year 0) text (date_form h.choice date) h.form
    ∙ form-read h.choice date h.is_date

begins-read : (text : List ℕ) (state : State) → Leads date_machine text state
    → Begins IsDateText text
begins-read text state leads =
    let r = is-read text state leads in
    let last = can-end state r.capitals r.front in
    let behind = map (capital_char Simple) last.behind in
    let runs : Leads date_machine (text ++ behind) (Complete last.date) =
    run-append date_machine.step (Year 0) text behind state leads
    ∙ runs-as state behind last.behind (capitals-read Simple last.behind last.proper)
    ∙ last.ends in
    (behind, last.date, whole-read (text ++ behind) (Complete last.date) last.date runs refl)

pub date_reads : Reads IsDateText date_machine
date_reads = record {
  each = λ text date h. (Complete date, date-read text date h, refl);
  only = whole-read;
  begins = begins-read;
}
