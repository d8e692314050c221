-- A text has exactly one answer.
use Rattle.std.proofs.Common.{◌≡◌, ℕ, ◌+◌, ◌<◌, List, [], ◌∷◌, ◌++◌, length, take, drop, Option, Some, None, Result, Ok, Err, refl, sym, ap, subst, ◌∙◌, append-nil, append_assoc, arith}
use Rattle.std.proofs.Math.Decide.{dec_lt}
use Rattle.std.proofs.lemmas.List.{take-append-drop, take-take}
use Rattle.cn_grammar.specs.declared.refusal.Refusal.{Refusal}
use Rattle.cn_grammar.specs.declared.refusal.Refusal.TheVariants.{Unfinished, Incorrect}
use Rattle.cn_grammar.specs.Answers.{Begins, Answers}
use Rattle.cn_grammar.specs.Machine.{run, Machine, Leads, Reads}
use Rattle.cn_grammar.proofs.Reading.{unfinished-read, place-refused}
use Rattle.cn_grammar.proofs.Runs.{some-is, run-more}

-- no text is a form of two values
abbrev pub IsOneValue : {A : Type 0} → (List ℕ → A → Type 0) → Type 0
IsOneValue {A} IsForm =
    (text : List ℕ) (one two : A) → IsForm text one → IsForm text two → one ≡ two

pub one-value : {S A : Type 0} (IsForm : List ℕ → A → Type 0) (machine : Machine S A)
    → Reads IsForm machine → IsOneValue IsForm
one-value IsForm machine reads = λ text one two h k.
    let a = reads.each text one h in
    let b = reads.each text two k in
    let same : a.0 ≡ b.0 = some-is a.0 b.0 (sym a.1 ∙ b.1) in
    some-is one two (sym a.2 ∙ ap machine.end same ∙ b.2)

-- each prefix of what begins a form begins one
pub begins-take : {A : Type 0} (IsForm : List ℕ → A → Type 0) (text : List ℕ) (count : ℕ)
    → Begins IsForm text → Begins IsForm (take count text)
begins-take IsForm text count h =
    let same : take count text ++ (drop count text ++ h.0) ≡ text ++ h.0 =
    sym (append_assoc (take count text) (drop count text) h.0)
    ∙ ap (λ front. front ++ h.0) (take-append-drop count text) in
    (drop count text ++ h.0, h.1, subst (λ whole. IsForm whole h.1) (sym same) h.2)

-- a form begins itself
pub begins-form : {A : Type 0} (IsForm : List ℕ → A → Type 0) (text : List ℕ) (value : A)
    → IsForm text value → Begins IsForm text
begins-form IsForm text value h =
    ([], value, subst (λ whole. IsForm whole value) (sym (append-nil text)) h)

beginning : {A : Type 0} (IsForm : List ℕ → A → Type 0) (text : List ℕ) (value : A) (count : ℕ)
    → IsForm text value → Begins IsForm (take count text)
beginning IsForm text value count h =
    begins-take IsForm text count (begins-form IsForm text value h)

pub never-incorrect : {A : Type 0} (IsForm : List ℕ → A → Type 0) (front behind : List ℕ) (value : A)
    → IsForm (front ++ behind) value → (place : ℕ) → ¬ Answers IsForm front (Err (Incorrect place))
never-incorrect IsForm front behind value h place refused =
    refused.2 (begins-take IsForm front (place + 1) (behind, value, h))

pub earlier : {A : Type 0} (IsForm : List ℕ → A → Type 0) (text : List ℕ) (place later : ℕ)
    → place < later → Begins IsForm (take later text) → ¬ Begins IsForm (take (place + 1) text) → ⊥
earlier IsForm text place later less h none = none (subst (Begins IsForm)
    (take-take (place + 1) later text (omega (arith, less))) (begins-take IsForm (take later text)
    (place + 1) h))

-- this holds for any forms, whether or not there are states that read them
pub one-answer : {A : Type 0} (IsForm : List ℕ → A → Type 0) → IsOneValue IsForm
    → (text : List ℕ) (r s : Result A Refusal) → Answers IsForm text r → Answers IsForm text s
    → r ≡ s
one-answer F one text (Ok a) (Ok b) h k = ap Ok (one text a b h k)
one-answer F one text (Ok a) (Err Unfinished) h k = absurd (k.1 a h)
one-answer F one text (Ok a) (Err (Incorrect p)) h k = absurd (k.2 (beginning F text a (p + 1) h))
one-answer F one text (Err Unfinished) (Ok a) h k = absurd (h.1 a k)
one-answer F one text (Err Unfinished) (Err Unfinished) h k = refl
one-answer F one text (Err Unfinished) (Err (Incorrect p)) h k =
    absurd (k.2 (begins-take F text (p + 1) h.0))
one-answer F one text (Err (Incorrect p)) (Ok a) h k = absurd (h.2 (beginning F text a (p + 1) k))
one-answer F one text (Err (Incorrect p)) (Err Unfinished) h k =
    absurd (h.2 (begins-take F text (p + 1) k.0))
one-answer {A} F one text (Err (Incorrect p)) (Err (Incorrect q)) h k =
    by (dec_lt p q) (dec_lt q p) where
      wrong : ℕ → Result A Refusal
      wrong place = Err (Incorrect place)

      by : Dec (p < q) → Dec (q < p) → wrong p ≡ wrong q
      by (yes less) b = absurd (earlier F text p q less k.1 h.2)
      by (no more) (yes less) = absurd (earlier F text q p less h.1 k.2)
      by (no more) (no less) = let e : p ≡ q = omega (arith, more, less) in ap wrong e

-- the answer to a text, of which a prefix is read
answered : {S A : Type 0} (IsForm : List ℕ → A → Type 0) (machine : Machine S A)
    → Reads IsForm machine → (text start rest : List ℕ) (state : S) → text ≡ start ++ rest
    → Leads machine start state
    → (answer : Result A Refusal) × Answers IsForm text answer
answered {S} {A} IsForm machine reads text start [] state is r = by (machine.end state) refl where
  whole : Leads machine text state
  whole = ap (run machine.step machine.begin) (is ∙ append-nil start) ∙ r

  by : (o : Option A) → machine.end state ≡ o
      → (answer : Result A Refusal) × Answers IsForm text answer
  by (Some value) e = (Ok value, reads.only text state value whole e)
  by None e = (Err Unfinished, unfinished-read IsForm machine reads text state whole e)
answered {S} {A} IsForm machine reads text start (c ∷ rest) state is r =
    by (machine.step state c) refl
    (λ next e. answered IsForm machine reads text (start ++ c ∷ []) rest next
    (is ∙ sym (append_assoc start (c ∷ []) rest))
    (run-more machine.step machine.begin start c state r ∙ e)) where
      by : (o : Option S) → machine.step state c ≡ o
          → ((next : S) → machine.step state c ≡ Some next
          → (answer : Result A Refusal) × Answers IsForm text answer)
          → (answer : Result A Refusal) × Answers IsForm text answer
      by None e more = (
        Err (Incorrect (length start)),
        place-refused IsForm machine reads text start rest (length start) state c is refl r e,
      )
      by (Some next) e more = more next e

pub each-answer : {S A : Type 0} (IsForm : List ℕ → A → Type 0) (machine : Machine S A)
    → Reads IsForm machine → (text : List ℕ)
    → (answer : Result A Refusal) × Answers IsForm text answer
    × ((other : Result A Refusal) → Answers IsForm text other → other ≡ answer)
each-answer IsForm machine reads text =
    let a = answered IsForm machine reads text [] text machine.begin refl refl in (
      a.0,
      a.1,
      λ other h. one-answer IsForm (one-value IsForm machine reads) text other a.0 h a.1,
    )
