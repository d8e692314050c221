-- A reader after a sieve reads the forms of the characters that the sieve keeps.
use Rattle.std.proofs.Common.{◌≡◌, ℕ, Bool, true, false, List, [], ◌∷◌, ◌++◌, Option, Some, None, refl, sym, ap, subst, ◌∙◌, if◌then◌else◌}
use Rattle.std.specs.Option.{option_map}
use Rattle.cn_grammar.specs.Answers.{Begins}
use Rattle.cn_grammar.specs.Machine.{run, Machine, Leads, Reads}
use Rattle.cn_grammar.specs.Sieve.{Sieve, kept, after, sifted}
use Rattle.cn_grammar.proofs.Runs.{some-is, ran}

-- the characters that are kept of a text and of the text after it
kept-append : {F : Type 0} (sieve : Sieve F) (front : F) (text rest : List ℕ)
    → kept sieve front (text ++ rest)
    ≡ kept sieve front text ++ kept sieve (after sieve front text) rest
kept-append sieve front [] rest = refl
kept-append {F} sieve front (c ∷ text) rest =
    by (sieve.keeps front c) (kept-append sieve (sieve.next front c) text rest) where
      next : F
      next = sieve.next front c

      by : (b : Bool)
          → kept sieve next (text ++ rest)
          ≡ kept sieve next text ++ kept sieve (after sieve next text) rest
          → (if b then c ∷ kept sieve next (text ++ rest) else kept sieve next (text ++ rest))
          ≡ (if b then c ∷ kept sieve next text else kept sieve next text)
          ++ kept sieve (after sieve next text) rest
      by true ih = ap (λ l. c ∷ l) ih
      by false ih = ih

-- a reader after a sieve: the state of the sieve, and the state of the reader
pub record IsSifted {F S T A B : Type 0} (sieve : Sieve F) (both : F → S → T)
    (value : F → A → B) (inner : Machine S A) (outer : Machine T B) (first : F) : Type 0 where
  pub begin : outer.begin ≡ both first inner.begin
  pub step : (front : F) (state : S) (c : ℕ)
      → outer.step (both front state) c ≡ sifted sieve both inner.step front state c
  pub end : (front : F) (state : S)
      → outer.end (both front state) ≡ option_map (value front) (inner.end state)

run-sifted : {F S T A B : Type 0} (sieve : Sieve F) (both : F → S → T) (value : F → A → B)
    (inner : Machine S A) (outer : Machine T B) (first : F)
    → IsSifted sieve both value inner outer first → (front : F) (state : S) (text : List ℕ)
    → run outer.step (both front state) text
    ≡ option_map (both (after sieve front text)) (run inner.step state (kept sieve front text))
run-sifted sieve both value inner outer first is front state [] = refl
run-sifted {F} {S} {T} sieve both value inner outer first is front state (c ∷ text) =
    ap (λ o. ran outer.step o text) (is.step front state c)
    ∙ by (sieve.keeps front c)
    (λ state. run-sifted sieve both value inner outer first is next state text) where
      next : F
      next = sieve.next front c

      more : List ℕ
      more = kept sieve next text

      whole : Option S → Option T
      whole o = option_map (both (after sieve next text)) o

      taken : (o : Option S)
          → ((state : S) → run outer.step (both next state) text
          ≡ whole (run inner.step state more))
          → ran outer.step (option_map (both next) o) text ≡ whole (ran inner.step o more)
      taken None ih = refl
      taken (Some state) ih = ih state

      by : (b : Bool)
          → ((state : S) → run outer.step (both next state) text
          ≡ whole (run inner.step state more))
          → ran outer.step (if b then option_map (both next) (inner.step state c)
          else Some (both next state)) text
          ≡ whole (run inner.step state (if b then c ∷ more else more))
      by true ih = taken (inner.step state c) ih
      by false ih = ih state

-- the reader of the characters that are kept reaches the same state
pub sifted-leads : {F S T A B : Type 0} (sieve : Sieve F) (both : F → S → T)
    (value : F → A → B) (inner : Machine S A) (outer : Machine T B) (first : F)
    → IsSifted sieve both value inner outer first → (text : List ℕ) (state : T)
    → Leads outer text state
    → (under : S) × Leads inner (kept sieve first text) under
    × (state ≡ both (after sieve first text) under)
sifted-leads {F} {S} {T} sieve both value inner outer first is text state leads =
    by (run inner.step inner.begin (kept sieve first text)) refl
    (sym (ap (λ s. run outer.step s text) is.begin
    ∙ run-sifted sieve both value inner outer first is first inner.begin text) ∙ leads) where
      by : (o : Option S) → run inner.step inner.begin (kept sieve first text) ≡ o
          → option_map (both (after sieve first text)) o ≡ Some state
          → (under : S) × Leads inner (kept sieve first text) under
          × (state ≡ both (after sieve first text) under)
      by None r e = absurd (cc)
      by (Some under) r e = (under, r, some-is state (both (after sieve first text) under) (sym e))

-- the kept characters are a form, whose value depends on what is left out
pub record IsKeptForm {F A B : Type 0} (sieve : Sieve F) (first : F) (value : F → A → B)
    (IsForm : List ℕ → A → Type 0) (text : List ℕ) (taken : B) : Type 0 where
  pub under : A
  pub form : IsForm (kept sieve first text) under
  pub is : taken ≡ value (after sieve first text) under

-- a text that completes the kept characters can also follow the text itself
abbrev pub CanFollow : {F A : Type 0} → Sieve F → F → (List ℕ → A → Type 0) → Type 0
CanFollow {F} {A} sieve first IsForm =
    (text rest : List ℕ) (under : A) → IsForm (kept sieve first text ++ rest) under
    → (more : List ℕ) × (kept sieve (after sieve first text) more ≡ rest)

pub sifted-reads : {F S T A B : Type 0} (sieve : Sieve F) (both : F → S → T)
    (value : F → A → B) (inner : Machine S A) (outer : Machine T B) (first : F)
    (IsForm : List ℕ → A → Type 0) → IsSifted sieve both value inner outer first
    → CanFollow sieve first IsForm → Reads IsForm inner
    → Reads (IsKeptForm sieve first value IsForm) outer
sifted-reads {F} {S} {T} {A} {B} sieve both value inner outer first IsForm is stands reads =
    record { each = each; only = only; begins = begins } where
      Kept : List ℕ → B → Type 0
      Kept text taken = IsKeptForm sieve first value IsForm text taken

      each : (text : List ℕ) (taken : B) → Kept text taken
          → (state : T) × Leads outer text state × (outer.end state ≡ Some taken)
      each text taken h =
          let under = reads.each (kept sieve first text) h.under h.form in
          let front = after sieve first text in (
            both front under.0,
            ap (λ s. run outer.step s text) is.begin
                ∙ run-sifted sieve both value inner outer first is first inner.begin text
                ∙ ap (option_map (both front)) under.1,
            is.end front under.0 ∙ ap (option_map (value front)) under.2 ∙ ap Some (sym h.is),
          )

      only : (text : List ℕ) (state : T) (taken : B) → Leads outer text state
          → outer.end state ≡ Some taken → Kept text taken
      only text state taken leads e =
          let under = sifted-leads sieve both value inner outer first is text state leads in
          by under.0 under.1 (inner.end under.0) refl
          (sym (ap outer.end under.2 ∙ is.end (after sieve first text) under.0) ∙ e) where
            by : (under : S) → Leads inner (kept sieve first text) under → (o : Option A)
                → inner.end under ≡ o
                → option_map (value (after sieve first text)) o ≡ Some taken → Kept text taken
            by under r None ends e = absurd (cc)
            by under r (Some a) ends e = record {
              under = a;
              form = reads.only (kept sieve first text) under a r ends;
              is = some-is taken (value (after sieve first text) a) (sym e);
            }

      begins : (text : List ℕ) (state : T) → Leads outer text state → Begins Kept text
      begins text state leads =
          let under = sifted-leads sieve both value inner outer first is text state leads in
          let more = reads.begins (kept sieve first text) under.0 under.1 in
          let behind = stands text more.0 more.1 more.2 in
          let same = kept-append sieve first text behind.0
          ∙ ap (λ l. kept sieve first text ++ l) behind.1 in (
            behind.0,
            value (after sieve first (text ++ behind.0)) more.1,
            record {
              under = more.1;
              form = subst (λ l. IsForm l more.1) (sym same) more.2;
              is = refl;
            },
          )

-- the same forms, defined in another way
pub reads-same : {S A : Type 0} (IsForm Same : List ℕ → A → Type 0) (machine : Machine S A)
    → ((text : List ℕ) (value : A) → IsForm text value → Same text value)
    → ((text : List ℕ) (value : A) → Same text value → IsForm text value)
    → Reads IsForm machine → Reads Same machine
reads-same IsForm Same machine to from reads = record {
  each = λ text value h. reads.each text value (from text value h);
  only = λ text state value leads e. to text value (reads.only text state value leads e);
  begins = λ text state leads.
      let h = reads.begins text state leads in (h.0, h.1, to (text ++ h.0) h.1 h.2);
}
