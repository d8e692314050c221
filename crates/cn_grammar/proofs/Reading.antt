-- Facts about a text while it is read, and those on which its answer rests.
use Rattle.std.proofs.Common.{◌≡◌, ℕ, ◌+◌, ◌<◌, List, [], ◌∷◌, ◌++◌, length, take, chars, Some, None, sym, ap, ap₂, subst, ◌∙◌, append-nil, append_assoc, length-append, arith}
use Rattle.std.proofs.Math.Seq.{take-append_seam}
use Rattle.std.specs.Prelude.{Err}
use Rattle.cn_core.proofs.Chars.{chars-from_empty}
use Rattle.cn_grammar.specs.declared.refusal.Refusal.TheVariants.{Unfinished}
use Rattle.cn_grammar.specs.Answers.{Answers, Begins}
use Rattle.cn_grammar.specs.Machine.{run, Machine, Leads, Reads}
use Rattle.cn_grammar.proofs.Runs.{some-is, run-ran, run-append, run-more}

-- a text that ends before a form does is unfinished
pub unfinished-read : {S A : Type 0} (IsForm : List ℕ → A → Type 0) (machine : Machine S A)
    → Reads IsForm machine → (text : List ℕ) (state : S) → Leads machine text state
    → machine.end state ≡ None → Begins IsForm text × ((value : A) → ¬ IsForm text value)
unfinished-read IsForm machine reads text state r e = (
  reads.begins text state r,
  λ value h.
      let whole = reads.each text value h in
      let same : whole.0 ≡ state = some-is whole.0 state (sym whole.1 ∙ r) in
      let wrong : Some value ≡ None = sym whole.2 ∙ ap machine.end same ∙ e in absurd (cc),
)

-- an empty text is unfinished if it is not a form
pub empty-read : {S A : Type 0} (IsForm : List ℕ → A → Type 0) (machine : Machine S A)
    → Reads IsForm machine → machine.end machine.begin ≡ None → (bytes : List ℕ)
    → length bytes ≡ 0 → Answers IsForm (chars bytes) (Err Unfinished)
empty-read IsForm machine reads none bytes empty =
    unfinished-read IsForm machine reads (chars bytes) machine.begin
    (ap (run machine.step machine.begin) (chars-from_empty bytes empty)) none

-- a character with which no form continues is incorrect
pub refused-read : {S A : Type 0} (IsForm : List ℕ → A → Type 0) (machine : Machine S A)
    → Reads IsForm machine → (start : List ℕ) (state : S) (c : ℕ)
    → Leads machine start state → machine.step state c ≡ None
    → ¬ Begins IsForm (start ++ c ∷ [])
refused-read IsForm machine reads start state c r e = λ h.
    let text = (start ++ c ∷ []) ++ h.0 in
    let s : text ≡ start ++ c ∷ h.0 = append_assoc start (c ∷ []) h.0 in
    let n : run machine.step machine.begin text ≡ None =
    ap (run machine.step machine.begin) s
    ∙ run-append machine.step machine.begin start (c ∷ h.0) state r
    ∙ run-ran machine.step state c h.0 None e in
    let whole = reads.each text h.1 h.2 in
    let wrong : None ≡ Some whole.0 = sym n ∙ whole.1 in absurd (cc)

pub place-refused : {S A : Type 0} (IsForm : List ℕ → A → Type 0) (machine : Machine S A)
    → Reads IsForm machine → (text start rest : List ℕ) (place : ℕ) (state : S) (c : ℕ)
    → text ≡ start ++ c ∷ rest → place ≡ length start
    → Leads machine start state → machine.step state c ≡ None
    → (place < length text) × Begins IsForm (take place text)
    × ¬ Begins IsForm (take (place + 1) text)
place-refused IsForm machine reads text start rest place state c is at r e =
    let len : length text ≡ length start + length (c ∷ rest) =
    ap length is ∙ length-append start (c ∷ rest) in
    let one : take place text ≡ start = ap₂ take at is ∙ take-append_seam start (c ∷ rest) in
    let seam : text ≡ (start ++ c ∷ []) ++ rest = is ∙ sym (append_assoc start (c ∷ []) rest) in
    let more : place + 1 ≡ length (start ++ c ∷ []) =
    omega (arith, at, length-append start (c ∷ [])) in
    let two : take (place + 1) text ≡ start ++ c ∷ [] =
    ap₂ take more seam ∙ take-append_seam (start ++ c ∷ []) rest in (
      omega (arith, at, len),
      subst (Begins IsForm) (sym one) (reads.begins start state r),
      λ h. refused-read IsForm machine reads start state c r e (subst (Begins IsForm) two h),
    )

-- the text so far: the part that is read, and the rest
pub record IsReading {S A : Type 0} (machine : Machine S A) (text rest : List ℕ) (state : S)
    (count : ℕ) : Type 0 where
  pub start : List ℕ
  pub is : chars text ≡ start ++ chars rest
  pub counts : count ≡ length start
  pub runs : Leads machine start state

-- one more character is read
pub reading-more : {S A : Type 0} (machine : Machine S A) (text rest after : List ℕ)
    (state next : S) (count c : ℕ) → IsReading machine text rest state count
    → chars rest ≡ c ∷ chars after → machine.step state c ≡ Some next
    → IsReading machine text after next (count + 1)
reading-more machine text rest after state next count c r parts e = record {
  start = r.start ++ c ∷ [];
  is = r.is ∙ ap (λ l. r.start ++ l) parts ∙ sym (append_assoc r.start (c ∷ []) (chars after));
  counts = let n = r.counts in omega (arith, n, length-append r.start (c ∷ []));
  runs = run-more machine.step machine.begin r.start c state r.runs ∙ e;
}

pub reading-refused : {S A : Type 0} (IsForm : List ℕ → A → Type 0) (machine : Machine S A)
    → Reads IsForm machine → (text rest after : List ℕ) (state : S) (count c : ℕ)
    → IsReading machine text rest state count → chars rest ≡ c ∷ chars after
    → machine.step state c ≡ None
    → (count < length (chars text)) × Begins IsForm (take count (chars text))
    × ¬ Begins IsForm (take (count + 1) (chars text))
reading-refused IsForm machine reads text rest after state count c r parts e =
    place-refused IsForm machine reads (chars text) r.start (chars after) count state c
    (r.is ∙ ap (λ l. r.start ++ l) parts) r.counts r.runs e

-- the end of the text is reached
pub reading-ended : {S A : Type 0} (machine : Machine S A) (text rest : List ℕ) (state : S)
    (count : ℕ) → IsReading machine text rest state count → chars rest ≡ []
    → Leads machine (chars text) state
reading-ended machine text rest state count r none =
    ap (run machine.step machine.begin) (r.is ∙ ap (λ l. r.start ++ l) none ∙ append-nil r.start)
    ∙ r.runs
