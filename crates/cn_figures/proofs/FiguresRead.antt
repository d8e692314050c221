-- The states read figures, character by character.
use Rattle.std.proofs.Common.{◌≡◌, ℕ, Bool, true, false, List, [], ◌∷◌, ◌++◌, map, Option, Some, None, codes, refl, sym, ap, ap₂, subst, ◌∙◌, if◌then◌else◌}
use Rattle.std.proofs.lemmas.List.{map-append}
use Rattle.cn_grammar.specs.Answers.{Begins}
use Rattle.cn_grammar.specs.Machine.{run, Leads, Reads, step_as}
use Rattle.cn_grammar.proofs.Runs.{some-is, run-ran, run-append, run-map, kept}
use Rattle.cn_core.specs.FigureCharacters.{figure_of}
use Rattle.cn_figures.specs.declared.part.Part.{Part}
use Rattle.cn_figures.specs.declared.part.Part.TheVariants.{Digit}
use Rattle.cn_figures.specs.declared.progress.Progress.{Progress}
use Rattle.cn_figures.specs.declared.state.State.{State}
use Rattle.cn_figures.specs.declared.state.State.TheVariants.{Beginning, Marked, One, Two, Three, Many, AfterComma, CommaOne, CommaTwo, CommaThree, AfterPoint, Jiao, Fen}
use Rattle.cn_figures.specs.Figures.{WriteAmount}
use Rattle.cn_figures.specs.Parts.{part_of, parts_of}
use Rattle.cn_figures.specs.Working.Steps.{fen_with, step, with_fen, advance, end, is_end, figures_machine}
use Rattle.cn_figures.proofs.FiguresRun.{at, figures-run}
use Rattle.cn_figures.proofs.Fronts.{Front, front-more, ended}

-- each state stands for the parts that have been read
record IsRead (text : List ℕ) (progress : Progress) : Type 0 where
  parts : List Part
  is : parts_of text ≡ map Some parts
  front : Front progress.state parts progress.fen

read-part : (progress next : Progress) (text : List ℕ) (c : ℕ) (part : Part)
    → IsRead text progress → part_of c ≡ Some part → advance progress part ≡ Some next
    → IsRead (text ++ c ∷ []) next
read-part progress next text c part r is e = by (step progress.state part) refl e where
  fen : Option ℕ
  fen = fen_with progress.state progress.fen part

  by : (o : Option State) → step progress.state part ≡ o → with_fen fen o ≡ Some next
      → IsRead (text ++ c ∷ []) next
  by None s e = absurd (cc)
  by (Some state) s e = subst (IsRead (text ++ c ∷ [])) (some-is (at state fen) next e) (record {
    parts = r.parts ++ part ∷ [];
    is = map-append part_of text (c ∷ [])
        ∙ ap₂ (λ (a b : List (Option Part)). a ++ b) r.is (ap (λ x. x ∷ []) is)
        ∙ sym (map-append Some r.parts (part ∷ []));
    front = front-more progress.state state r.parts progress.fen part r.front s;
  })

read-more : (progress next : Progress) (text : List ℕ) (c : ℕ) → IsRead text progress
    → figures_machine.step progress c ≡ Some next → IsRead (text ++ c ∷ []) next
read-more progress next text c r e = by (part_of c) refl e where
  by : (read : Option Part) → part_of c ≡ read → step_as advance progress read ≡ Some next
      → IsRead (text ++ c ∷ []) next
  by None is e = absurd (cc)
  by (Some part) is e = read-part progress next text c part r is e

is-read : (text : List ℕ) (progress : Progress) → Leads figures_machine text progress
    → IsRead text progress
is-read text progress e =
    kept figures_machine.step (λ (progress : Progress) text. IsRead text progress) read-more []
    text figures_machine.begin progress
    (record { parts = []; is = refl; front = (refl, refl) }) e

-- a text that is read to its end is figures
only-read : (text : List ℕ) (progress : Progress) (amount : Option ℕ)
    → Leads figures_machine text progress → end progress ≡ Some amount → WriteAmount text amount
only-read text progress amount leads e = by (is_end progress.state) refl e where
  by : (b : Bool) → is_end progress.state ≡ b → (if b then Some progress.fen else None) ≡ Some amount
      → WriteAmount text amount
  by false is e = absurd (cc)
  by true is e =
      let r = is-read text progress leads in
      let all = ended progress.state r.parts progress.fen r.front is in
      (all.0, (r.parts, r.is, all.1), sym (some-is progress.fen amount e) ∙ all.2)

-- a text is read as its parts are
runs-as : (progress : Progress) (text : List ℕ) (parts : List Part) → parts_of text ≡ map Some parts
    → run figures_machine.step progress text ≡ run advance progress parts
runs-as progress text parts is =
    run-map (step_as advance) part_of progress text ∙ ap (run (step_as advance) progress) is
    ∙ sym (run-map (step_as advance) Some progress parts)

each-read : (text : List ℕ) (amount : Option ℕ) → WriteAmount text amount
    → (progress : Progress) × Leads figures_machine text progress × (end progress ≡ Some amount)
each-read text amount (fen, (parts, is, are), worth) =
    let last = figures-run parts fen are in (
      last.0,
      runs-as figures_machine.begin text parts is ∙ last.1,
      last.2 ∙ ap (λ amount. Some amount) (sym worth),
    )

-- the parts that complete a state
record IsCompleted (state : State) (fen : Option ℕ) : Type 0 where
  behind : List ℕ
  parts : List Part
  is : parts_of behind ≡ map Some parts
  last : Progress
  runs : run advance (at state fen) parts ≡ Some last
  ends : is_end last.state ≡ true

completed-whole : (state : State) (fen : Option ℕ) → is_end state ≡ true → IsCompleted state fen
completed-whole state fen ends = record {
  behind = [];
  parts = [];
  is = refl;
  last = at state fen;
  runs = refl;
  ends = ends;
}

completed-by : (state next : State) (fen : Option ℕ)
    → advance (at state fen) (Digit 0) ≡ Some (at next (fen_with state fen (Digit 0)))
    → is_end next ≡ true → IsCompleted state fen
unfolding part_of figure_of
completed-by state next fen step ends = record {
  behind = codes "0";
  parts = Digit 0 ∷ [];
  is = refl;
  last = at next (fen_with state fen (Digit 0));
  runs = run-ran advance (at state fen) (Digit 0) [] _ step;
  ends = ends;
}

completed : (state : State) (fen : Option ℕ) → IsCompleted state fen
unfolding part_of figure_of
completed AfterComma fen = record {
  behind = codes "000";
  parts = Digit 0 ∷ Digit 0 ∷ Digit 0 ∷ [];
  is = refl;
  last = _;
  runs = refl;
  ends = refl;
}
completed CommaOne fen = record {
  behind = codes "00";
  parts = Digit 0 ∷ Digit 0 ∷ [];
  is = refl;
  last = _;
  runs = refl;
  ends = refl;
}
completed CommaTwo fen = completed-by CommaTwo CommaThree fen refl refl
completed Beginning fen = completed-by Beginning One fen refl refl
completed Marked fen = completed-by Marked One fen refl refl
completed AfterPoint fen = completed-by AfterPoint Jiao fen refl refl
completed One fen = completed-whole One fen refl
completed Two fen = completed-whole Two fen refl
completed Three fen = completed-whole Three fen refl
completed Many fen = completed-whole Many fen refl
completed CommaThree fen = completed-whole CommaThree fen refl
completed Jiao fen = completed-whole Jiao fen refl
completed Fen fen = completed-whole Fen fen refl

begins-read : (text : List ℕ) (progress : Progress) → Leads figures_machine text progress
    → Begins WriteAmount text
begins-read text progress leads =
    let more = completed progress.state progress.fen in (
      more.behind,
      more.last.fen,
      only-read (text ++ more.behind) more.last more.last.fen
          (run-append figures_machine.step figures_machine.begin text more.behind progress leads
          ∙ runs-as progress more.behind more.parts more.is ∙ more.runs)
          (ap (λ (b : Bool). if b then Some more.last.fen else None) more.ends),
    )

pub figures_read : Reads WriteAmount figures_machine
figures_read = record { each = each-read; only = only-read; begins = begins-read }
