-- Reading a text after one change.
use Rattle.std.proofs.Common.{rules, ◌≡◌, ◌≢◌, ℕ, suc, ◌+◌, ◌<◌, ◌≤◌, ◌==◌, nat_lt, if◌then◌else◌, Bool, true, false, not, ◌&&◌, ◌||◌, List, [], ◌∷◌, ◌++◌, length, length-append, take, drop, is_some, Option, Some, None, refl, sym, ap, ap₂, subst, ◌∙◌, append-nil, append_assoc, arith}
use Rattle.std.proofs.Math.Decide.{dec_lt}
use Rattle.std.proofs.Math.Logic.{◌⊎◌, inl, inr}
use Rattle.std.specs.Prelude.{All, IfSome, MatchBool}
use Rattle.std.proofs.Math.ListN.{get_or}
use Rattle.std.proofs.Math.Seq.{drop-append_seam, split_at, take-append_seam}
use Rattle.std.proofs.lemmas.Bool.Decides.{nat_tests}
use Rattle.std.proofs.lemmas.List.{take-append-le, take-take}
use Rattle.cn_grammar.specs.declared.hint.Hint.{Hint}
use Rattle.cn_grammar.specs.declared.hint.Repair.{Repair}
use Rattle.cn_grammar.specs.declared.hint.Repair.TheVariants.{Insert, Replace, Delete}
use Rattle.cn_grammar.specs.Answers.{Begins}
use Rattle.cn_grammar.specs.Expected.{BeginsUpTo}
use Rattle.cn_grammar.specs.Machine.{run, Machine, Reads}
use Rattle.cn_grammar.specs.Repairs.{changed, repaired, past, HasPlace, IsRepair}
use Rattle.cn_grammar.specs.Working.Changes.{added, begins_with, goes_on, Fails, HasChanged, IsFirst, IsRefused, ReadsChange, ReadsRepaired, Works}
use Rattle.cn_grammar.specs.Working.ReadOn.{HasRead, IsReadOn, Stops}
use Rattle.cn_grammar.proofs.OneAnswer.{begins-take, begins-form, earlier}
use Rattle.cn_grammar.proofs.Following.{up-to}
use Rattle.cn_grammar.proofs.Reading.{unfinished-read, refused-read}
use Rattle.cn_grammar.proofs.Runs.{run-append, run-more}

-- a text goes on past a place only if so much of it is read; if no more is, then not at one of the
-- characters
pub goes-past : (characters : List ℕ) (count past : ℕ) (rest : List ℕ)
    → goes_on characters count past rest ≡ true → past ≤ count
goes-past characters count past rest h = search rules

goes-unknown : (characters : List ℕ) (count past : ℕ) (rest : List ℕ) → count ≡ past
    → goes_on characters count past rest ≡ true → begins_with characters rest ≡ false
goes-unknown characters count past rest at h =
    by (nat_lt past count) refl (count == past) refl (begins_with characters rest) refl h where
      by : (more : Bool) → nat_lt past count ≡ more → (same : Bool) → (count == past) ≡ same
          → (known : Bool) → begins_with characters rest ≡ known
          → (more || same && not known) ≡ true → begins_with characters rest ≡ false
      by true e same k known is h =
          let less : past < count = grind (arith, nat_tests) in absurd (omega (arith, at, less))
      by false e same k false is h = is
      by false e true k true is h = absurd (cc)
      by false e false k true is h = absurd (cc)

stays-known : (characters : List ℕ) (count past : ℕ) (rest : List ℕ) → count ≡ past
    → goes_on characters count past rest ≡ false → begins_with characters rest ≡ true
stays-known characters count past rest at h =
    by (nat_lt past count) refl (count == past) refl (begins_with characters rest) refl h where
      by : (more : Bool) → nat_lt past count ≡ more → (same : Bool) → (count == past) ≡ same
          → (known : Bool) → begins_with characters rest ≡ known
          → (more || same && not known) ≡ false → begins_with characters rest ≡ true
      by true e same k known is h = absurd (cc)
      by false e same k true is h = is
      by false e true k false is h = absurd (cc)
      by false e false k false is h =
          let other : count ≢ past = grind (arith, nat_tests) in absurd (other at)

stays-before : (characters : List ℕ) (count past : ℕ) (rest : List ℕ)
    → goes_on characters count past rest ≡ false → count ≤ past
stays-before characters count past rest h = search rules

-- a character is read
one-read : {S A : Type 0} (machine : Machine S A) (state next : S) (c : ℕ) (after : List ℕ)
    → machine.step state c ≡ Some next → HasRead machine state (c ∷ after) next 1 after
one-read machine state next c after e = record {
  front = c ∷ [];
  is = refl;
  counts = refl;
  runs = run-more machine.step state [] c state refl ∙ e;
}

pub reads-insert : {S A : Type 0} (machine : Machine S A) (state next : S) (rest : List ℕ)
    (repair : Repair) (c : ℕ) → repair ≡ Insert c → machine.step state c ≡ Some next
    → ReadsChange machine state rest repair next rest
reads-insert machine state next rest repair c is e =
    subst (λ repair. ReadsChange machine state rest repair next rest) (sym is)
    (record { has = one-read machine state next c rest e; changed = tt })

pub reads-replace : {S A : Type 0} (machine : Machine S A) (state next : S)
    (rest after : List ℕ) (repair : Repair) (c d : ℕ) → repair ≡ Replace c → rest ≡ d ∷ after
    → machine.step state c ≡ Some next → ReadsChange machine state rest repair next after
reads-replace machine state next rest after repair c d is parts e =
    subst (λ repair. ReadsChange machine state rest repair next after) (sym is)
    (subst (λ rest. ReadsChange machine state rest (Replace c) next after) (sym parts)
    (record { has = one-read machine state next c after e; changed = omega arith }))

-- what is read one after another is read together
both-read : {S A : Type 0} (machine : Machine S A) (first state next : S) (text rest after : List ℕ)
    (count more : ℕ) → HasRead machine first text state count rest
    → HasRead machine state rest next more after
    → HasRead machine first text next (count + more) after
both-read machine first state next text rest after count more h k = record {
  front = h.front ++ k.front;
  is = h.is ∙ ap (λ l. h.front ++ l) k.is ∙ sym (append_assoc h.front k.front after);
  counts = let n = h.counts in let m = k.counts in
      omega (arith, n, m, length-append h.front k.front);
  runs = run-append machine.step first h.front k.front state h.runs ∙ k.runs;
}

-- the text up to a place is read, and so is what the change makes of the text after it
place-read : {S A : Type 0} (machine : Machine S A) (first state : S) (text rest : List ℕ)
    (hint : Hint) → HasRead machine first text state hint.char_index rest
    → HasRead machine first (repaired hint text) state hint.char_index (changed hint.repair rest)
place-read machine first state text rest hint h =
    let up : take hint.char_index text ≡ h.front =
    ap₂ take h.counts h.is ∙ take-append_seam h.front rest in
    let on : drop hint.char_index text ≡ rest =
    ap₂ drop h.counts h.is ∙ drop-append_seam h.front rest in
    record {
      front = h.front;
      is = ap₂ (λ (a b : List ℕ). a ++ changed hint.repair b) up on;
      counts = h.counts;
      runs = h.runs;
    }

has-place : (repair : Repair) (place : ℕ) (text rest : List ℕ)
    → length text ≡ place + length rest → HasChanged repair rest
    → HasPlace (record { char_index = place; repair = repair }) text
has-place (Insert c) place text rest len there = omega (arith, len)
has-place (Replace c) place text rest len there = omega (arith, len, there)
has-place Delete place text rest len there = omega (arith, len, there)

-- the place is in the text
place-there : {S A : Type 0} (machine : Machine S A) (first state : S) (text rest : List ℕ)
    (hint : Hint) → HasRead machine first text state hint.char_index rest
    → HasChanged hint.repair rest → HasPlace hint text
place-there machine first state text rest hint h there =
    let len : length text ≡ hint.char_index + length rest =
    let n = h.counts in omega (arith, n, ap length h.is, length-append h.front rest) in
    has-place hint.repair hint.char_index text rest len there

pub reads-repaired : {S A : Type 0} (machine : Machine S A) (text rest changed_rest after : List ℕ)
    (hint : Hint) (first state next last : S) (count more : ℕ) → first ≡ machine.begin
    → HasRead machine first text state count rest → count ≡ hint.char_index
    → ReadsChange machine state rest hint.repair next changed_rest
    → HasRead machine next changed_rest last more after → Stops machine last after
    → ReadsRepaired machine text hint last (count + added hint.repair + more) after
reads-repaired machine text rest changed_rest after hint first state next last count more begin h
    at c k stops =
    let h : HasRead machine first text state hint.char_index rest =
    subst (λ count. HasRead machine first text state count rest) at h in
    let all = both-read machine first next last (repaired hint text) changed_rest after
    (hint.char_index + added hint.repair) more
    (both-read machine first state next (repaired hint text) (changed hint.repair rest) changed_rest
    hint.char_index (added hint.repair) (place-read machine first state text rest hint h) c.has) k in
    record {
      has = subst (λ first. HasRead machine first (repaired hint text) last
          (count + added hint.repair + more) after) begin
          (subst (λ count. HasRead machine first (repaired hint text) last
          (count + added hint.repair + more) after) (sym at) all);
      stops = stops;
      has_place = place-there machine first state text rest hint h c.changed;
    }

-- up to a place where a form begins with the text, all of it is read
pub read-whole : {S A : Type 0} (IsForm : List ℕ → A → Type 0) (machine : Machine S A)
    → Reads IsForm machine → (text rest : List ℕ) (first state : S) (most count : ℕ)
    → first ≡ machine.begin → IsReadOn machine first text most state count rest
    → most ≤ length text → Begins IsForm (take most text) → count ≡ most
read-whole IsForm machine reads text rest first state most count begin read within begins =
    by (dec_lt count most) where
      none : count < most → (count ≡ length text)
          ⊎ ((count < length text) × ¬ Begins IsForm (take (count + 1) text)) → ⊥
      none less (inl whole) = omega (arith, less, whole, within)
      none less (inr stops) = earlier IsForm text count most less begins stops.1

      by : Dec (count < most) → count ≡ most
      by (yes less) =
          let h = subst (λ first. HasRead machine first text state count rest) begin read.has in
          absurd (none less (up-to IsForm machine reads text rest state count h (read.stops less)).longest)
      by (no more) = omega (arith, more, read.within)

one-more : (front rest : List ℕ) (place c : ℕ) → place ≡ length front
    → take (place + 1) (front ++ c ∷ rest) ≡ front ++ c ∷ []
one-more front rest place c at =
    let more : place + 1 ≡ length (front ++ c ∷ []) =
    omega (arith, at, length-append front (c ∷ [])) in
    ap₂ take more (sym (append_assoc front (c ∷ []) rest))
    ∙ take-append_seam (front ++ c ∷ []) rest

-- what is written is not read, and so no form begins with it
fails-at : {S A : Type 0} (IsForm : List ℕ → A → Type 0) (machine : Machine S A)
    → Reads IsForm machine → (repair : Repair) (place : ℕ) (text rest : List ℕ) (state : S)
    → HasRead machine machine.begin text state place rest → IsRefused machine state rest repair
    → Fails IsForm text (record { char_index = place; repair = repair })
fails-at {S} {A} IsForm machine reads repair place text rest state h = by repair where
  up : take place text ≡ h.front
  up = ap₂ take h.counts h.is ∙ take-append_seam h.front rest

  written : (c : ℕ) (behind : List ℕ) → machine.step state c ≡ None
      → ¬ Begins IsForm (take (place + 1) (take place text ++ c ∷ behind))
  written c behind e = λ begins. refused-read IsForm machine reads h.front state c h.runs e
      (subst (Begins IsForm) (ap (λ l. take (place + 1) (l ++ c ∷ behind)) up
      ∙ one-more h.front behind place c h.counts) begins)

  missing : rest ≡ [] → ¬ (place < length text)
  missing empty = λ there.
      let n = h.counts in
      omega (arith, there, n, ap length h.is, length-append h.front rest, ap length empty)

  by : (repair : Repair) → IsRefused machine state rest repair
      → Fails IsForm text (record { char_index = place; repair = repair })
  by (Insert c) e = λ w. written c (drop place text) e w.1
  by (Replace c) (inl empty) = λ w. missing empty w.0
  by (Replace c) (inr e) = λ w. written c (drop 1 (drop place text)) e w.1
  by Delete empty = λ w. missing empty w.0

pub fails : {S A : Type 0} (IsForm : List ℕ → A → Type 0) (machine : Machine S A)
    → Reads IsForm machine → (text rest : List ℕ) (hint : Hint) (first state : S) (count : ℕ)
    → first ≡ machine.begin → HasRead machine first text state count rest
    → count ≡ hint.char_index → IsRefused machine state rest hint.repair → Fails IsForm text hint
fails IsForm machine reads text rest hint first state count begin h at refused =
    let from = subst (λ first. HasRead machine first text state count rest) begin h in
    let h = subst (λ count. HasRead machine machine.begin text state count rest) at from in
    fails-at IsForm machine reads hint.repair hint.char_index text rest state h refused

-- what begins a form: as much of the changed text as is read, and all of it if it is read whole
pub repaired-begins : {S A : Type 0} (IsForm : List ℕ → A → Type 0) (machine : Machine S A)
    → Reads IsForm machine → (text rest : List ℕ) (state : S) (count most : ℕ)
    → HasRead machine machine.begin text state count rest → most ≤ count
    → Begins IsForm (take most text)
repaired-begins IsForm machine reads text rest state count most h less =
    let n = h.counts in
    let low : most ≤ length h.front = omega (arith, n, less) in
    subst (Begins IsForm)
    (sym (ap (take most) h.is ∙ take-append-le {A = ℕ} most h.front rest low))
    (begins-take IsForm h.front most (reads.begins h.front state h.runs))

pub whole-begins : {S A : Type 0} (IsForm : List ℕ → A → Type 0) (machine : Machine S A)
    → Reads IsForm machine → (text : List ℕ) (state : S) (count most : ℕ)
    → HasRead machine machine.begin text state count [] → Begins IsForm (take most text)
whole-begins IsForm machine reads text state count most h =
    let whole : text ≡ h.front = h.is ∙ append-nil h.front in
    begins-take IsForm text most
    (subst (Begins IsForm) (sym whole) (reads.begins h.front state h.runs))

-- a text that is read whole, to a state where a form may end, is a form
pub whole-form : {S A : Type 0} (IsForm : List ℕ → A → Type 0) (machine : Machine S A)
    → Reads IsForm machine → (text : List ℕ) (state : S) (count : ℕ) (value : A)
    → HasRead machine machine.begin text state count [] → machine.end state ≡ Some value
    → IsForm text value
whole-form IsForm machine reads text state count value h e =
    let whole : text ≡ h.front = h.is ∙ append-nil h.front in
    subst (λ text. IsForm text value) (sym whole) (reads.only h.front state value h.runs e)

-- a change that takes a text past its fault
pub works-whole : {S A : Type 0} (IsForm : List ℕ → A → Type 0) (machine : Machine S A)
    → Reads IsForm machine → (characters text rest : List ℕ) (fault : ℕ) (ends : Bool)
    (hint : Hint) (state : S) (count : ℕ) → ReadsRepaired machine text hint state count rest
    → rest ≡ [] → hint.char_index ≤ fault
    → (ends ≡ true → is_some (machine.end state) ≡ true)
    → Works IsForm characters text fault ends hint
works-whole {S} {A} IsForm machine reads characters text rest fault ends hint state count h empty
    place last = record {
      place = place;
      has_place = h.has_place;
      goes_on = whole-begins IsForm machine reads (repaired hint text) state count
          (past fault hint) all;
      form = λ is. by (machine.end state) refl (last is);
      moves = λ going less none. absurd (none (whole-begins IsForm machine reads
          (repaired hint text) state count (past fault hint + 1) all));
    } where
      all : HasRead machine machine.begin (repaired hint text) state count []
      all = subst (λ rest. HasRead machine machine.begin (repaired hint text) state count rest)
          empty h.has

      by : (o : Option A) → machine.end state ≡ o → is_some o ≡ true
          → (value : A) × IsForm (repaired hint text) value
      by None e some = absurd (cc)
      by (Some value) e some = (
        value,
        whole-form IsForm machine reads (repaired hint text) state count value all e,
      )

-- what comes after the part that is read
rest-is : {S A : Type 0} (machine : Machine S A) (text rest : List ℕ) (state : S)
    (count place : ℕ) → HasRead machine machine.begin text state count rest → count ≡ place
    → drop place text ≡ rest
rest-is machine text rest state count place h at =
    ap₂ drop (sym at ∙ h.counts) h.is ∙ drop-append_seam h.front rest

pub works-on : {S A : Type 0} (IsForm : List ℕ → A → Type 0) (machine : Machine S A)
    → Reads IsForm machine → (characters text rest : List ℕ) (fault : ℕ) (ends : Bool)
    (hint : Hint) (state : S) (count : ℕ) → ReadsRepaired machine text hint state count rest
    → hint.char_index ≤ fault → goes_on characters count (past fault hint) rest ≡ true
    → ends ≡ false → Works IsForm characters text fault ends hint
works-on IsForm machine reads characters text rest fault ends hint state count h place goes going =
    record {
      place = place;
      has_place = h.has_place;
      goes_on = repaired-begins IsForm machine reads (repaired hint text) rest state count
          (past fault hint) h.has far;
      form = λ is. absurd (cc);
      moves = λ e less none. by none (dec_lt (past fault hint) count);
    } where
      far : past fault hint ≤ count
      far = goes-past characters count (past fault hint) rest goes

      by : ¬ Begins IsForm (take (past fault hint + 1) (repaired hint text))
          → Dec (past fault hint < count)
          → begins_with characters (drop (past fault hint) (repaired hint text)) ≡ false
      by none (yes more) = absurd (none (repaired-begins IsForm machine reads (repaired hint text)
          rest state count (past fault hint + 1) h.has (omega (arith, more))))
      by none (no less) =
          let at : count ≡ past fault hint = omega (arith, less, far) in
          ap (begins_with characters)
          (rest-is machine (repaired hint text) rest state count (past fault hint) h.has at)
          ∙ goes-unknown characters count (past fault hint) rest at goes

-- a change that does not
before-past : (repair : Repair) (place fault : ℕ) → place ≤ fault
    → place + added repair ≤ past fault (record { char_index = place; repair = repair })
before-past (Insert c) place fault less = omega (arith, less)
before-past (Replace c) place fault less = omega (arith, less)
before-past Delete place fault less = by (place == fault) where
  by : (same : Bool) → place + 0 ≤ (if same then fault + 1 else fault)
  by true = omega (arith, less)
  by false = omega (arith, less)

pub no-change : {A : Type 0} (IsForm : List ℕ → A → Type 0) (characters text : List ℕ)
    (fault : ℕ) (ends : Bool) (hint : Hint) → Fails IsForm text hint
    → ¬ Works IsForm characters text fault ends hint
no-change IsForm characters text fault ends hint fails = λ w.
    let less = before-past hint.repair hint.char_index fault w.place in
    let front = begins-take IsForm (take (past fault hint) (repaired hint text))
    (hint.char_index + added hint.repair) w.goes_on in
    fails (
      w.has_place,
      subst (Begins IsForm)
          (take-take (hint.char_index + added hint.repair) (past fault hint) (repaired hint text) less) front,
    )

pub no-end : {S A : Type 0} (IsForm : List ℕ → A → Type 0) (machine : Machine S A)
    → Reads IsForm machine → (characters text rest : List ℕ) (fault : ℕ) (ends : Bool)
    (hint : Hint) (state : S) (count : ℕ) → ReadsRepaired machine text hint state count rest
    → rest ≡ [] → ends ≡ true → is_some (machine.end state) ≡ false
    → ¬ Works IsForm characters text fault ends hint
no-end {S} {A} IsForm machine reads characters text rest fault ends hint state count h empty going
    none = λ w. by (machine.end state) refl none (w.form going) where
      whole : repaired hint text ≡ h.has.front
      whole = h.has.is ∙ ap (λ l. h.has.front ++ l) empty ∙ append-nil h.has.front

      by : (o : Option A) → machine.end state ≡ o → is_some o ≡ false
          → (value : A) × IsForm (repaired hint text) value → ⊥
      by None e is (value, form) = (unfinished-read IsForm machine reads (repaired hint text) state
          (ap (run machine.step machine.begin) whole ∙ h.has.runs) e).1 value form
      by (Some v) e is form = absurd (cc)

-- reading stops before the end of the text
stops-there : {S A : Type 0} (IsForm : List ℕ → A → Type 0) (machine : Machine S A)
    → Reads IsForm machine → (text rest : List ℕ) (state : S) (count : ℕ)
    → HasRead machine machine.begin text state count rest → Stops machine state rest
    → 0 < length rest → (count < length text) × ¬ Begins IsForm (take (count + 1) text)
stops-there IsForm machine reads text rest state count h stops more =
    by (up-to IsForm machine reads text rest state count h stops).longest where
      by : (count ≡ length text)
          ⊎ ((count < length text) × ¬ Begins IsForm (take (count + 1) text))
          → (count < length text) × ¬ Begins IsForm (take (count + 1) text)
      by (inl whole) = absurd (let n = h.counts in
          omega (arith, whole, more, n, ap length h.is, length-append h.front rest))
      by (inr there) = there

pub no-form : {S A : Type 0} (IsForm : List ℕ → A → Type 0) (machine : Machine S A)
    → Reads IsForm machine → (characters text rest : List ℕ) (fault : ℕ) (ends : Bool)
    (hint : Hint) (state : S) (count : ℕ) → ReadsRepaired machine text hint state count rest
    → 0 < length rest → ends ≡ true → ¬ Works IsForm characters text fault ends hint
no-form IsForm machine reads characters text rest fault ends hint state count h more going = λ w.
    let stop = stops-there IsForm machine reads (repaired hint text) rest state count h.has h.stops
    more in
    let form = w.form going in
    stop.1 (begins-take IsForm (repaired hint text) (count + 1)
    (begins-form IsForm (repaired hint text) form.0 form.1))

pub no-way : {S A : Type 0} (IsForm : List ℕ → A → Type 0) (machine : Machine S A)
    → Reads IsForm machine → (characters text rest : List ℕ) (fault : ℕ) (ends : Bool)
    (hint : Hint) (state : S) (count : ℕ) → ReadsRepaired machine text hint state count rest
    → 0 < length rest → ends ≡ false → goes_on characters count (past fault hint) rest ≡ false
    → ¬ Works IsForm characters text fault ends hint
no-way IsForm machine reads characters text rest fault ends hint state count h more going stays = λ w.
    by w (dec_lt count (past fault hint)) where
      stop : (count < length (repaired hint text))
          × ¬ Begins IsForm (take (count + 1) (repaired hint text))
      stop = stops-there IsForm machine reads (repaired hint text) rest state count h.has h.stops more

      by : Works IsForm characters text fault ends hint → Dec (count < past fault hint) → ⊥
      by w (yes less) = earlier IsForm (repaired hint text) count (past fault hint) less w.goes_on stop.1
      by w (no far) =
          let at : count ≡ past fault hint =
          omega (arith, far, stays-before characters count (past fault hint) rest stays) in
          let moves = w.moves going
          (subst (λ n. n < length (repaired hint text)) at stop.0)
          (subst (λ n. ¬ Begins IsForm (take (n + 1) (repaired hint text))) at stop.1) in
          let known = ap (begins_with characters)
          (rest-is machine (repaired hint text) rest state count (past fault hint) h.has at)
          ∙ stays-known characters count (past fault hint) rest at stays in
          let wrong : false ≡ true = sym moves ∙ known in absurd (cc)

-- what is decided about a change, by what is read after it
pub decided-end : {S A : Type 0} (IsForm : List ℕ → A → Type 0) (machine : Machine S A)
    → Reads IsForm machine → (characters text rest : List ℕ) (fault : ℕ) (ends : Bool)
    (hint : Hint) (state : S) (count : ℕ) → ReadsRepaired machine text hint state count rest
    → rest ≡ [] → ends ≡ true → hint.char_index ≤ fault
    → (works : Bool) → works ≡ is_some (machine.end state)
    → MatchBool works (Works IsForm characters text fault ends hint)
    (¬ Works IsForm characters text fault ends hint)
decided-end IsForm machine reads characters text rest fault ends hint state count h empty going
    place true e =
    works-whole IsForm machine reads characters text rest fault ends hint state count h empty place
    (λ is. sym e)
decided-end IsForm machine reads characters text rest fault ends hint state count h empty going
    place false e =
    no-end IsForm machine reads characters text rest fault ends hint state count h empty going (sym e)

pub decided-on : {S A : Type 0} (IsForm : List ℕ → A → Type 0) (machine : Machine S A)
    → Reads IsForm machine → (characters text rest : List ℕ) (fault : ℕ) (ends : Bool)
    (hint : Hint) (state : S) (count : ℕ) → ReadsRepaired machine text hint state count rest
    → 0 < length rest → ends ≡ false → hint.char_index ≤ fault
    → (works : Bool) → works ≡ goes_on characters count (past fault hint) rest
    → MatchBool works (Works IsForm characters text fault ends hint)
    (¬ Works IsForm characters text fault ends hint)
decided-on IsForm machine reads characters text rest fault ends hint state count h more going
    place true e =
    works-on IsForm machine reads characters text rest fault ends hint state count h place (sym e) going
decided-on IsForm machine reads characters text rest fault ends hint state count h more going
    place false e =
    no-way IsForm machine reads characters text rest fault ends hint state count h more going (sym e)

-- and so it is a repair of a text that is read up to the fault
pub repair-is : {S A : Type 0} (IsForm : List ℕ → A → Type 0) (machine : Machine S A)
    → Reads IsForm machine → (characters text rest : List ℕ) (first state : S) (count : ℕ)
    (ends may_end : Bool) (hint : Hint) → first ≡ machine.begin
    → HasRead machine first text state count rest → Stops machine state rest
    → MatchBool ends (rest ≡ []) (0 < length rest) → may_end ≡ is_some (machine.end state)
    → (ends ≡ true → may_end ≡ false) → Works IsForm characters text count ends hint
    → IsRepair IsForm text hint
repair-is {S} {A} IsForm machine reads characters text rest first state count ends may_end hint begin has stops
    at_end is_end open_end works = record {
      fault = count;
      up_to = up;
      no_form = none ends refl at_end;
      place = works.place;
      has_place = works.has_place;
      goes_on = works.goes_on;
      ends = λ whole. works.form (last ends at_end whole);
    } where
      h : HasRead machine machine.begin text state count rest
      h = subst (λ first. HasRead machine first text state count rest) begin has

      up : BeginsUpTo IsForm text count
      up = up-to IsForm machine reads text rest state count h stops

      len : length text ≡ count + length rest
      len = let n = h.counts in omega (arith, n, ap length h.is, length-append h.front rest)

      last : (b : Bool) → MatchBool b (rest ≡ []) (0 < length rest) → count ≡ length text → b ≡ true
      last true at whole = refl
      last false at whole = absurd (omega (arith, len, at, whole))

      refuses : (value : A) → IsForm text value → (count ≡ length text)
          ⊎ ((count < length text) × ¬ Begins IsForm (take (count + 1) text)) → 0 < length rest → ⊥
      refuses value is (inl whole) some = omega (arith, len, whole, some)
      refuses value is (inr more) some =
          more.1 (begins-take IsForm text (count + 1) (begins-form IsForm text value is))

      open-state : (o : Option A) → machine.end state ≡ o → is_some o ≡ false → machine.end state ≡ None
      open-state None e none = e
      open-state (Some value) e none = absurd (cc)

      none : (b : Bool) → ends ≡ b → MatchBool b (rest ≡ []) (0 < length rest)
          → (value : A) → ¬ IsForm text value
      none true is at value =
          let whole : text ≡ h.front = h.is ∙ ap (λ l. h.front ++ l) at ∙ append-nil h.front in
          (unfinished-read IsForm machine reads text state
          (ap (run machine.step machine.begin) whole ∙ h.runs)
          (open-state (machine.end state) refl (sym is_end ∙ open_end is))).1 value
      none false is at value = λ form. refuses value form up.longest at

pub reads-up-to : {S A : Type 0} (IsForm : List ℕ → A → Type 0) (machine : Machine S A)
    → Reads IsForm machine → (text rest : List ℕ) (first state : S) (count : ℕ)
    → first ≡ machine.begin → HasRead machine first text state count rest
    → Stops machine state rest → BeginsUpTo IsForm text count
reads-up-to IsForm machine reads text rest first state count begin has stops =
    up-to IsForm machine reads text rest state count
    (subst (λ first. HasRead machine first text state count rest) begin has) stops

pub first-works : (Has : Hint → Type 0) (hints : List (Option Hint)) (first : Option Hint)
    → IsFirst Has hints first → IfSome first Has
first-works Has hints None h = tt
first-works Has hints (Some found) h = h.0

pub first-is : (Has : Hint → Type 0) (hints : List (Option Hint)) (place : ℕ) (d : Option Hint)
    (found : Hint) → place < length hints → get_or hints place d ≡ Some found → Has found
    → All (λ hint. IfSome hint (λ h. ¬ Has h)) (take place hints) → IsFirst Has hints (Some found)
first-is Has hints place d found less at has none =
    let cut = split_at hints place d less
    ∙ ap (λ hint. take place hints ++ hint ∷ drop (suc place) hints) at in
    (has, (take place hints, drop (suc place) hints, cut, none))
