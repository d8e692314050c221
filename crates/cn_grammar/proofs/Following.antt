-- What may come next in a text is what a step takes from the state that the text leads to.
use Rattle.std.proofs.Common.{◌≡◌, ℕ, ◌==◌, IsTrue, Bool, true, false, ◌&&◌, ◌||◌, List, [], ◌∷◌, ◌++◌, length, take, filter, is_some, Option, Some, None, refl, sym, ap, ap₂, subst, ◌∙◌, append-nil, if◌then◌else◌, arith}
use Rattle.std.specs.Char.{char_set_contains, is_whitespace}
use Rattle.std.proofs.Math.Logic.{◌↔◌, inl, inr}
use Rattle.std.proofs.lemmas.Bool.{or_left, or_right}
use Rattle.std.proofs.lemmas.Bool.Decides.{nat_tests}
use Rattle.std.proofs.Math.Seq.{take-append_seam}
use Rattle.cn_grammar.specs.declared.expecting.Expected.{Expected}
use Rattle.cn_grammar.specs.Answers.{Begins}
use Rattle.cn_grammar.specs.Expected.{list_of, BeginsUpTo, IsExpected, IsListed}
use Rattle.cn_grammar.specs.Machine.{Machine, Leads, Reads}
use Rattle.cn_grammar.specs.Working.ReadOn.{Stops, HasRead}
use Rattle.cn_grammar.proofs.Reading.{place-refused, refused-read}
use Rattle.cn_grammar.proofs.Runs.{some-is, run-more}

-- a character that a list has and that passes a test is in the list of those that pass
passes-kept : (p : ℕ → Bool) (cs : List ℕ) (c : ℕ) → char_set_contains cs c ≡ true → p c ≡ true
    → char_set_contains (filter p cs) c ≡ true
passes-kept p [] c h k = h
passes-kept p (d ∷ cs) c h k =
    by (d == c) refl (p d) refl (λ h. passes-kept p cs c h k) h where
      by : (same : Bool) → (d == c) ≡ same → (passes : Bool) → p d ≡ passes
          → (char_set_contains cs c ≡ true → char_set_contains (filter p cs) c ≡ true)
          → (same || char_set_contains cs c) ≡ true
          → char_set_contains (if passes then d ∷ filter p cs else filter p cs) c ≡ true
      by true e true is rest h = or_left (d == c) _ e
      by true e false is rest h =
          let same : d ≡ c = grind (arith, nat_tests) in
          let wrong : false ≡ true = sym is ∙ ap p same ∙ k in absurd (cc)
      by false e true is rest h = or_right (d == c) _ (rest h)
      by false e false is rest h = rest h

-- and each character of that list passes
kept-passes : (p : ℕ → Bool) (cs : List ℕ) (c : ℕ) → char_set_contains (filter p cs) c ≡ true
    → p c ≡ true
kept-passes p [] c h = absurd (cc)
kept-passes p (d ∷ cs) c h = by (p d) refl (kept-passes p cs c) h where
  one : (same : Bool) → (d == c) ≡ same → p d ≡ true
      → (char_set_contains (filter p cs) c ≡ true → p c ≡ true)
      → (same || char_set_contains (filter p cs) c) ≡ true → p c ≡ true
  one true e is rest h = let same : d ≡ c = grind (arith, nat_tests) in ap p (sym same) ∙ is
  one false e is rest h = rest h

  by : (passes : Bool) → p d ≡ passes
      → (char_set_contains (filter p cs) c ≡ true → p c ≡ true)
      → char_set_contains (if passes then d ∷ filter p cs else filter p cs) c ≡ true → p c ≡ true
  by true is rest h = one (d == c) refl is rest h
  by false is rest h = rest h

-- a text goes on with exactly the characters that a step takes
goes-on : {S A : Type 0} (IsForm : List ℕ → A → Type 0) (machine : Machine S A)
    → Reads IsForm machine → (text : List ℕ) (state : S) → Leads machine text state → (c : ℕ)
    → (Begins IsForm (text ++ c ∷ []) → (next : S) × (machine.step state c ≡ Some next))
    × ((next : S) → machine.step state c ≡ Some next → Begins IsForm (text ++ c ∷ []))
goes-on {S} IsForm machine reads text state leads c = (
  λ h. by h (machine.step state c) refl,
  λ next e. reads.begins (text ++ c ∷ []) next
      (run-more machine.step machine.begin text c state leads ∙ e),
) where
  by : Begins IsForm (text ++ c ∷ []) → (o : Option S) → machine.step state c ≡ o
      → (next : S) × (machine.step state c ≡ Some next)
  by h None e = absurd (refused-read IsForm machine reads text state c leads e h)
  by h (Some next) e = (next, e)

-- the characters of a list that a step takes
abbrev taken : {S A : Type 0} → Machine S A → List ℕ → S → List ℕ
taken machine characters state = filter (λ c. is_some (machine.step state c)) characters

-- these and the white space of the flag are all that a step takes
listed-is : {S A : Type 0} (machine : Machine S A) (characters : List ℕ) (white : Bool)
    → IsListed characters white machine → (state : S) (c : ℕ)
    → ((next : S) × (machine.step state c ≡ Some next))
    ↔ IsTrue (char_set_contains (taken machine characters state) c || (white && is_whitespace c))
listed-is {S} machine characters white listed state c = (to, from) where
  some : (o : Option S) → machine.step state c ≡ o → is_some o ≡ true
      → (next : S) × (machine.step state c ≡ Some next)
  some None e h = absurd (cc)
  some (Some next) e h = (next, e)

  known : (next : S) → machine.step state c ≡ Some next → (b : Bool)
      → char_set_contains characters c ≡ b → IsTrue (b || (white && is_whitespace c))
      → IsTrue (char_set_contains (taken machine characters state) c || (white && is_whitespace c))
  known next e true is h = or_left _ _ (passes-kept (λ c. is_some (machine.step state c)) characters c
      is (ap is_some e))
  known next e false is h = or_right _ _ h

  to : ((next : S) × (machine.step state c ≡ Some next))
      → IsTrue (char_set_contains (taken machine characters state) c || (white && is_whitespace c))
  to (next, e) = known next e (char_set_contains characters c) refl (listed.known state next c e)

  blank : (b : Bool) → white ≡ b → IsTrue (b && is_whitespace c)
      → (next : S) × (machine.step state c ≡ Some next)
  blank true is h = listed.blank is state c h
  blank false is h = absurd (cc)

  by : (b : Bool) → char_set_contains (taken machine characters state) c ≡ b
      → IsTrue (b || (white && is_whitespace c)) → (next : S) × (machine.step state c ≡ Some next)
  by true is h = some (machine.step state c) refl
      (kept-passes (λ c. is_some (machine.step state c)) characters c is)
  by false is h = blank white refl h

  from : IsTrue (char_set_contains (taken machine characters state) c
      || (white && is_whitespace c)) → (next : S) × (machine.step state c ≡ Some next)
  from h = by (char_set_contains (taken machine characters state) c) refl h

-- the text that has been read
pub front-is : {S A : Type 0} (machine : Machine S A) (text rest : List ℕ) (state : S) (count : ℕ)
    → (h : HasRead machine machine.begin text state count rest) → take count text ≡ h.front
front-is machine text rest state count h = ap₂ take h.counts h.is ∙ take-append_seam h.front rest

-- it begins a form, and nothing longer does
pub up-to : {S A : Type 0} (IsForm : List ℕ → A → Type 0) (machine : Machine S A)
    → Reads IsForm machine → (text rest : List ℕ) (state : S) (count : ℕ)
    → HasRead machine machine.begin text state count rest → Stops machine state rest
    → BeginsUpTo IsForm text count
up-to IsForm machine reads text [] state count h stops = record {
  begins = subst (Begins IsForm) (sym (front-is machine text [] state count h))
      (reads.begins h.front state h.runs);
  longest = inl (h.counts ∙ ap length (sym (h.is ∙ append-nil h.front)));
}
up-to IsForm machine reads text (c ∷ rest) state count h stops =
    let refused = place-refused IsForm machine reads text h.front rest count state c h.is h.counts
    h.runs stops in
    record { begins = refused.1; longest = inr (refused.0, refused.2) }

-- a form may end after it exactly if its state is an end
ends : {S A : Type 0} (IsForm : List ℕ → A → Type 0) (machine : Machine S A)
    → Reads IsForm machine → (text : List ℕ) (state : S) → Leads machine text state
    → IsTrue (is_some (machine.end state)) ↔ ((value : A) × IsForm text value)
ends {S} {A} IsForm machine reads text state leads = (by (machine.end state) refl, from) where
  by : (o : Option A) → machine.end state ≡ o → IsTrue (is_some o)
      → (value : A) × IsForm text value
  by None e h = absurd (cc)
  by (Some value) e h = (value, reads.only text state value leads e)

  from : ((value : A) × IsForm text value) → IsTrue (is_some (machine.end state))
  from (value, h) =
      let whole = reads.each text value h in
      let same : whole.0 ≡ state = some-is whole.0 state (sym whole.1 ∙ leads) in
      ap is_some (ap machine.end (sym same) ∙ whole.2)

pub expected-is : {S A : Type 0} (IsForm : List ℕ → A → Type 0) (machine : Machine S A)
    → Reads IsForm machine → (characters : List ℕ) (white : Bool)
    → IsListed characters white machine → (text rest : List ℕ)
    (first state : S) (expected : Expected) → first ≡ machine.begin
    → HasRead machine first text state expected.char_index rest
    → Stops machine state rest → expected.may_end ≡ is_some (machine.end state)
    → list_of expected.characters ≡ taken machine characters state
    → expected.white_space ≡ white → IsExpected IsForm text expected
expected-is IsForm machine reads characters white listed text rest first state expected begin has stops ends_is
    list_is white_is =
    let h = subst (λ first. HasRead machine first text state expected.char_index rest) begin has in
    let front = front-is machine text rest state expected.char_index h in
    let end = ends IsForm machine reads h.front state h.runs in record {
      up_to = up-to IsForm machine reads text rest state expected.char_index h stops;
      may_end = rw (ends_is, front) end;
      next = λ c.
          let step = listed-is machine characters white listed state c in
          let form = goes-on IsForm machine reads h.front state h.runs c in
          rw (front, list_is, white_is)
          (λ begins. step.0 (form.0 begins), λ is. let next = step.1 is in form.1 next.0 next.1);
    }
