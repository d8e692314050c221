-- The spans of a text are its runs.
use Rattle.std.proofs.Common.{◌≡◌, ◌≢◌, ◌⊎◌, inl, inr, ℕ, zero, suc, ◌+◌, ◌≤◌, nat_le, Bool, true, false, not, ◌&&◌, List, [], ◌∷◌, ◌++◌, length, reverse, chars, encode_utf8, encode_utf8_all, IsUtf8, refl, sym, ap, subst, ◌∙◌, arith, append-nil, length-append}
use mathlib.Core.List.{reverse_aux}
use Rattle.std.specs.List.{Contains}
use Rattle.std.proofs.lemmas.Bool.Decides.{nat_tests}
use Rattle.std.proofs.lemmas.Bool.{not-true}
use Rattle.std.proofs.lemmas.Grind.{reverse_onto}
use Rattle.std.proofs.lemmas.List.{reverse-reverse}
use Rattle.std.proofs.lemmas.Str.{length-le-encodes, encodes-append, encodes-chars, scalars-chars}
use Rattle.std.proofs.Math.Utf8.{scalar, scalars}
use Rattle.cn_core.proofs.Fronts.{and-left, and-right, both}
use Rattle.cn_find.specs.declared.wanted.Wanted.{Wanted}
use Rattle.cn_find.specs.Rule.{Rule, number_rule, is_joined}
use Rattle.cn_find.specs.Spans.{Span, run_of, after_run, span_at, spans_after, spans_by, spans, text_before, in_front, left_by}
use Rattle.cn_find.specs.Runs.{each_belongs, all_joined, last_joined, first_belongs, IsRunBy, IsRun, is_rising}

-- a run among these characters; `joined` says whether the first of them is joined to the one before
-- it
record IsRunAfter (rule : Rule) (joined : Bool) (front text : List ℕ) (span : Span) : Type 0 where
  left : List ℕ
  run : List ℕ
  right : List ℕ
  parts : text ≡ left ++ (run ++ right)
  some : run ≢ []
  each : each_belongs rule (reverse_aux left front) run right ≡ true
  within : all_joined rule (reverse_aux left front) run right ≡ true
  apart_before : last_joined rule joined front left (run ++ right) ≡ false
  apart_after : last_joined rule false (reverse_aux left front) run right ≡ false
  before_is : span.before ≡ encode_utf8_all (reverse (reverse_aux left front))
  text_is : span.text ≡ encode_utf8_all run
  after_is : span.after ≡ encode_utf8_all right

-- a span of these characters
abbrev pub placed : List ℕ → List ℕ → List ℕ → Span
placed front run after = record {
  before = encode_utf8_all (reverse front);
  text = encode_utf8_all run;
  after = encode_utf8_all after;
}

-- the runs that are found from a character on, of which the first may begin there
abbrev spans_here : Rule → Bool → List ℕ → ℕ → List ℕ → List Span
spans_here rule true front c after =
    span_at rule front (c ∷ after)
    ∷ spans_after rule (is_joined rule front c after) (c ∷ front) after
spans_here rule false front c after =
    spans_after rule (is_joined rule front c after) (c ∷ front) after

here : (rule : Rule) (b joined : Bool) (front : List ℕ) (c : ℕ) (after : List ℕ)
    → (not joined && rule.belongs front c after) ≡ b
    → spans_after rule joined front (c ∷ after) ≡ spans_here rule b front c after
here rule true true front c after e = cc
here rule true false front c after e = rw e
here rule false true front c after e = refl
here rule false false front c after e = rw e

none-in : (span : Span) → Contains [] span → ⊥
none-in span (k, low, e) = omega (arith, low)

cons-cases : (first : Span) (others : List Span) (span : Span) → Contains (first ∷ others) span
    → (first ≡ span) ⊎ Contains others span
cons-cases first others span (zero, low, e) = inl e
cons-cases first others span (suc k, low, e) = inr (k, omega arith, e)

cons-other : (first : Span) (others : List Span) (span : Span) → Contains others span
    → Contains (first ∷ others) span
cons-other first others span (k, low, e) = (suc k, omega arith, e)

-- the characters of a run and those after it are all of the characters
pub whole : (rule : Rule) (front cs : List ℕ) → cs ≡ run_of rule front cs ++ after_run rule front cs
whole rule front [] = refl
whole rule front (c ∷ after) =
    by (is_joined rule front c after) refl (whole rule (c ∷ front) after) where
      by : (b : Bool) → is_joined rule front c after ≡ b
          → after ≡ run_of rule (c ∷ front) after ++ after_run rule (c ∷ front) after
          → c ∷ after ≡ run_of rule front (c ∷ after) ++ after_run rule front (c ∷ after)
      by true e ih = rw e (ap (λ l. c ∷ l) ih)
      by false e ih = rw e

-- a character that is joined to the next one belongs, and so does that
joined-belongs : (rule : Rule) (front : List ℕ) (c : ℕ) (after : List ℕ)
    → is_joined rule front c after ≡ true → first_belongs rule (c ∷ front) after ≡ true
joined-belongs rule front c [] e = cc
joined-belongs rule front c (next ∷ after) e =
    and-left (rule.belongs (c ∷ front) next after) _
    (and-right (rule.belongs front c (next ∷ after)) _ e)

run-belongs : (rule : Rule) (front cs : List ℕ) → first_belongs rule front cs ≡ true
    → each_belongs rule front (run_of rule front cs) (after_run rule front cs) ≡ true
run-belongs rule front [] first = cc
run-belongs rule front (c ∷ after) first =
    by (is_joined rule front c after) refl (run-belongs rule (c ∷ front) after) where
      by : (b : Bool) → is_joined rule front c after ≡ b
          → (first_belongs rule (c ∷ front) after ≡ true
          → each_belongs rule (c ∷ front) (run_of rule (c ∷ front) after)
          (after_run rule (c ∷ front) after) ≡ true)
          → each_belongs rule front (run_of rule front (c ∷ after))
          (after_run rule front (c ∷ after)) ≡ true
      by true e ih =
          let same : rule.belongs front c
          (run_of rule (c ∷ front) after ++ after_run rule (c ∷ front) after) ≡ true =
          ap (rule.belongs front c) (sym (whole rule (c ∷ front) after)) ∙ first in
          rw e (rw same (ih (joined-belongs rule front c after e)))
      by false e ih = rw e (rw first)

-- a character before a run that is joined to it
joined-more : (rule : Rule) (front : List ℕ) (c : ℕ) (run right : List ℕ)
    → is_joined rule front c (run ++ right) ≡ true → all_joined rule (c ∷ front) run right ≡ true
    → all_joined rule front (c ∷ run) right ≡ true
joined-more rule front c [] right e all = refl
joined-more rule front c (next ∷ run) right e all = both _ _ e all

run-joined : (rule : Rule) (front cs : List ℕ)
    → all_joined rule front (run_of rule front cs) (after_run rule front cs) ≡ true
run-joined rule front [] = refl
run-joined rule front (c ∷ after) =
    by (is_joined rule front c after) refl (run-joined rule (c ∷ front) after) where
      by : (b : Bool) → is_joined rule front c after ≡ b
          → all_joined rule (c ∷ front) (run_of rule (c ∷ front) after)
          (after_run rule (c ∷ front) after) ≡ true
          → all_joined rule front (run_of rule front (c ∷ after))
          (after_run rule front (c ∷ after)) ≡ true
      by true e ih =
          let same : is_joined rule front c
          (run_of rule (c ∷ front) after ++ after_run rule (c ∷ front) after) ≡ true =
          ap (is_joined rule front c) (sym (whole rule (c ∷ front) after)) ∙ e in
          rw e (joined-more rule front c (run_of rule (c ∷ front) after)
          (after_run rule (c ∷ front) after) same ih)
      by false e ih = rw e

run-apart : (rule : Rule) (none : Bool) (front : List ℕ) (c : ℕ) (after : List ℕ)
    → last_joined rule none front (run_of rule front (c ∷ after))
    (after_run rule front (c ∷ after)) ≡ false
run-apart rule none front c [] = refl
run-apart rule none front c (next ∷ after) =
    by (is_joined rule front c (next ∷ after)) refl
    (λ b. run-apart rule b (c ∷ front) next after) where
      by : (b : Bool) → is_joined rule front c (next ∷ after) ≡ b
          → ((b : Bool) → last_joined rule b (c ∷ front) (run_of rule (c ∷ front) (next ∷ after))
          (after_run rule (c ∷ front) (next ∷ after)) ≡ false)
          → last_joined rule none front (run_of rule front (c ∷ next ∷ after))
          (after_run rule front (c ∷ next ∷ after)) ≡ false
      by true e ih = rw e (ih (is_joined rule front c (run_of rule (c ∷ front) (next ∷ after)
          ++ after_run rule (c ∷ front) (next ∷ after))))
      by false e ih = rw e (rw e)

-- a run among the characters after one is a run among all of them
further : (rule : Rule) (joined : Bool) (front : List ℕ) (c : ℕ) (after : List ℕ) (span : Span)
    → IsRunAfter rule (is_joined rule front c after) (c ∷ front) after span
    → IsRunAfter rule joined front (c ∷ after) span
further rule joined front c after span r = record {
  left = c ∷ r.left;
  run = r.run;
  right = r.right;
  parts = ap (λ l. c ∷ l) r.parts;
  some = r.some;
  each = r.each;
  within = r.within;
  apart_before =
      ap (λ t. last_joined rule t (c ∷ front) r.left (r.run ++ r.right))
      (ap (is_joined rule front c) (sym r.parts)) ∙ r.apart_before;
  apart_after = r.apart_after;
  before_is = r.before_is;
  text_is = r.text_is;
  after_is = r.after_is;
}

begins : (rule : Rule) (joined : Bool) (front : List ℕ) (c : ℕ) (after : List ℕ) (span : Span)
    → joined ≡ false → rule.belongs front c after ≡ true → span_at rule front (c ∷ after) ≡ span
    → IsRunAfter rule joined front (c ∷ after) span
begins rule joined front c after span apart first same = record {
  left = [];
  run = run_of rule front (c ∷ after);
  right = after_run rule front (c ∷ after);
  parts = whole rule front (c ∷ after);
  some = λ h. cc;
  each = run-belongs rule front (c ∷ after) first;
  within = run-joined rule front (c ∷ after);
  apart_before = apart;
  apart_after = run-apart rule false front c after;
  before_is = sym (ap (λ s. s.before) same);
  text_is = sym (ap (λ s. s.text) same);
  after_is = sym (ap (λ s. s.after) same);
}

-- each span is a run
sound : (rule : Rule) (joined : Bool) (front text : List ℕ) (span : Span)
    → Contains (spans_after rule joined front text) span → IsRunAfter rule joined front text span
sound rule joined front [] span found = absurd (none-in span found)
sound rule joined front (c ∷ after) span found =
    by (not joined && rule.belongs front c after) refl
    (subst (λ l. Contains l span) (here rule _ joined front c after refl) found)
    (sound rule (is_joined rule front c after) (c ∷ front) after span) where
      by : (b : Bool) → (not joined && rule.belongs front c after) ≡ b
          → Contains (spans_here rule b front c after) span
          → (Contains (spans_after rule (is_joined rule front c after) (c ∷ front) after) span
          → IsRunAfter rule (is_joined rule front c after) (c ∷ front) after span)
          → IsRunAfter rule joined front (c ∷ after) span
      by true e found ih = elim (cons-cases _ _ span found) [
        | inl same ↦ begins rule joined front c after span (not-true _ (and-left _ _ e))
            (and-right (not joined) _ e) same
        | inr other ↦ further rule joined front c after span (ih other)
      ]
      by false e found ih = further rule joined front c after span (ih found)

-- a run ends where its characters are not joined any more
run-ends : (rule : Rule) (none : Bool) (front : List ℕ) (c : ℕ) (run right : List ℕ)
    → all_joined rule front (c ∷ run) right ≡ true
    → last_joined rule none front (c ∷ run) right ≡ false
    → run_of rule front (c ∷ run ++ right) ≡ c ∷ run
run-ends rule none front c [] right all apart = rw apart
run-ends rule none front c (next ∷ run) right all apart =
    let e : is_joined rule front c (next ∷ run ++ right) ≡ true = and-left _ _ all in
    rw e (ap (λ l. c ∷ l) (run-ends rule (is_joined rule front c (next ∷ run ++ right)) (c ∷ front)
    next run right (and-right _ _ all) apart))

after-run-ends : (rule : Rule) (none : Bool) (front : List ℕ) (c : ℕ) (run right : List ℕ)
    → all_joined rule front (c ∷ run) right ≡ true
    → last_joined rule none front (c ∷ run) right ≡ false
    → after_run rule front (c ∷ run ++ right) ≡ right
after-run-ends rule none front c [] right all apart = rw apart
after-run-ends rule none front c (next ∷ run) right all apart =
    let e : is_joined rule front c (next ∷ run ++ right) ≡ true = and-left _ _ all in
    rw e (after-run-ends rule (is_joined rule front c (next ∷ run ++ right)) (c ∷ front) next run
    right (and-right _ _ all) apart)

complete-from : (rule : Rule) (joined : Bool) (front left run right : List ℕ) (span : Span)
    → run ≢ [] → each_belongs rule (reverse_aux left front) run right ≡ true
    → all_joined rule (reverse_aux left front) run right ≡ true
    → last_joined rule joined front left (run ++ right) ≡ false
    → last_joined rule false (reverse_aux left front) run right ≡ false
    → span ≡ placed (reverse_aux left front) run right
    → Contains (spans_after rule joined front (left ++ (run ++ right))) span
complete-from rule joined front [] [] right span some each all before after same =
    absurd (some refl)
complete-from rule joined front [] (c ∷ run) right span some each all before after same =
    subst (λ l. Contains l span) (sym (here rule true joined front c (run ++ right) begun))
    (0, omega arith, first) where
      begun : (not joined && rule.belongs front c (run ++ right)) ≡ true
      begun = rw before (and-left _ _ each)

      first : span_at rule front (c ∷ run ++ right) ≡ span
      first =
          ap (λ l. placed front l (after_run rule front (c ∷ run ++ right)))
          (run-ends rule false front c run right all after)
          ∙ ap (placed front (c ∷ run)) (after-run-ends rule false front c run right all after)
          ∙ sym same
complete-from rule joined front (c ∷ left) run right span some each all before after same =
    subst (λ l. Contains l span) (sym (here rule _ joined front c (left ++ (run ++ right)) refl))
    (by (not joined && rule.belongs front c (left ++ (run ++ right)))
    (complete-from rule (is_joined rule front c (left ++ (run ++ right))) (c ∷ front) left
    run right span some each all before after same)) where
      by : (b : Bool)
          → Contains (spans_after rule (is_joined rule front c (left ++ (run ++ right)))
          (c ∷ front) (left ++ (run ++ right))) span
          → Contains (spans_here rule b front c (left ++ (run ++ right))) span
      by true found = cons-other _ _ span found
      by false found = found

-- the spans of a text are exactly its runs
pub found-is_run : (rule : Rule) (bytes : List ℕ) (span : Span)
    → Contains (spans_by rule bytes) span → IsRunBy rule (chars bytes) span
found-is_run rule bytes span found =
    let r = sound rule false [] (chars bytes) span found in
    record {
      left = r.left;
      run = r.run;
      right = r.right;
      parts = r.parts;
      some = r.some;
      each = r.each;
      within = r.within;
      apart_before = r.apart_before;
      apart_after = r.apart_after;
      before_is = r.before_is ∙ ap encode_utf8_all (reverse-reverse r.left);
      text_is = r.text_is;
      after_is = r.after_is;
    }

pub run-is_found : (rule : Rule) (bytes : List ℕ) (span : Span)
    → IsRunBy rule (chars bytes) span → Contains (spans_by rule bytes) span
run-is_found rule bytes span r =
    rw r.parts (complete-from rule false [] r.left r.run r.right span r.some r.each r.within
    r.apart_before r.apart_after same) where
      same : span ≡ placed (reverse r.left) r.run r.right
      same = rw (r.before_is, r.text_is, r.after_is, reverse-reverse r.left)

-- the numbers of a text are exactly its runs
pub span-is_run : (wanted : Wanted) (bytes : List ℕ) (span : Span)
    → Contains (spans wanted bytes) span → IsRun wanted (chars bytes) span
span-is_run wanted bytes span found = found-is_run (number_rule wanted) bytes span found

-- the least position at which the next span may begin
before_length : List ℕ → ℕ
before_length front = length (encode_utf8_all (reverse front))

abbrev limit : Rule → Bool → List ℕ → List ℕ → ℕ
limit rule false front cs = before_length front
limit rule true front cs = before_length front + length (encode_utf8_all (run_of rule front cs))

le-test : (a b : ℕ) → a ≤ b → nat_le a b ≡ true
le-test a b h = grind (arith, nat_tests)

longer : (front : List ℕ) (c : ℕ)
    → before_length (c ∷ front) ≡ before_length front + length (encode_utf8 c)
unfolding before_length
longer front c =
    ap (λ l. length (encode_utf8_all l)) (reverse_onto front c [])
    ∙ ap length (encodes-append (reverse front) (c ∷ []))
    ∙ length-append (encode_utf8_all (reverse front)) (encode_utf8 c ++ [])
    ∙ ap (λ l. length (encode_utf8_all (reverse front)) + length l) (append-nil (encode_utf8 c))

-- the same after the first character of a run
limit-after : (rule : Rule) (front : List ℕ) (c : ℕ) (ahead : List ℕ)
    → limit rule (is_joined rule front c ahead) (c ∷ front) ahead
    ≡ before_length front + length (encode_utf8_all (run_of rule front (c ∷ ahead)))
limit-after rule front c ahead = by (is_joined rule front c ahead) refl where
  by : (b : Bool) → is_joined rule front c ahead ≡ b
      → limit rule b (c ∷ front) ahead
      ≡ before_length front + length (encode_utf8_all (run_of rule front (c ∷ ahead)))
  by true e =
      rw e (omega (
        arith,
        longer front c,
        length-append (encode_utf8 c) (encode_utf8_all (run_of rule (c ∷ front) ahead)),
      ))
  by false e = rw e (omega (arith, longer front c, ap length (append-nil (encode_utf8 c))))

rising : (rule : Rule) (joined : Bool) (least : ℕ) (front cs : List ℕ)
    → least ≤ limit rule joined front cs
    → is_rising least (spans_after rule joined front cs) ≡ true
unfolding before_length
rising rule joined least front [] low = refl
rising rule joined least front (c ∷ ahead) low =
    subst (λ l. is_rising least l ≡ true) (sym (here rule _ joined front c ahead refl))
    (by (not joined && rule.belongs front c ahead) joined refl low
    (λ n h. rising rule (is_joined rule front c ahead) n (c ∷ front) ahead h)) where
      by : (b joined : Bool) → (not joined && rule.belongs front c ahead) ≡ b
          → least ≤ limit rule joined front (c ∷ ahead)
          → ((n : ℕ) → n ≤ limit rule (is_joined rule front c ahead) (c ∷ front) ahead
          → is_rising n (spans_after rule (is_joined rule front c ahead) (c ∷ front) ahead) ≡ true)
          → is_rising least (spans_here rule b front c ahead) ≡ true
      by true true e low ih = cc
      by true false e low ih =
          both _ _ (le-test least (before_length front) low)
          (ih _ (omega (arith, limit-after rule front c ahead)))
      by false true e low ih = ih least (omega (arith, low, limit-after rule front c ahead))
      by false false e low ih = ih least (omega (arith, low, limit-after rule front c ahead))

pub spans-rise : (rule : Rule) (bytes : List ℕ) → is_rising 0 (spans_by rule bytes) ≡ true
spans-rise rule bytes = rising rule false 0 [] (chars bytes) (omega arith)

-- there are no more spans than bytes
count-after : (rule : Rule) (joined : Bool) (front cs : List ℕ)
    → length (spans_after rule joined front cs) ≤ length cs
count-after rule joined front [] = omega arith
count-after rule joined front (c ∷ ahead) =
    subst (λ l. length l ≤ suc (length ahead)) (sym (here rule _ joined front c ahead refl))
    (by (not joined && rule.belongs front c ahead)
    (count-after rule (is_joined rule front c ahead) (c ∷ front) ahead)) where
      by : (b : Bool)
          → length (spans_after rule (is_joined rule front c ahead) (c ∷ front) ahead)
          ≤ length ahead → length (spans_here rule b front c ahead) ≤ suc (length ahead)
      by true ih = omega (arith, ih)
      by false ih = omega (arith, ih)

pub few-left : (rule : Rule) (whole rest : List ℕ) → IsUtf8 rest
    → length (left_by rule whole rest) ≤ length rest
few-left rule whole rest ended =
    omega (
      arith,
      count-after rule false (in_front (text_before whole rest)) (chars rest),
      length-le-encodes (chars rest),
      ap length (encodes-chars rest ended),
    )

pub scalars-end : (front end : List ℕ) → scalars (front ++ end) ≡ true → scalars end ≡ true
scalars-end [] end h = h
scalars-end (c ∷ front) end h = scalars-end front end (and-right (scalar c) _ h)

pub scalars-start : (front end : List ℕ) → scalars (front ++ end) ≡ true → scalars front ≡ true
scalars-start [] end h = refl
scalars-start (c ∷ front) end h =
    both _ _ (and-left (scalar c) _ h) (scalars-start front end (and-right (scalar c) _ h))

pub scalars-both : (front end : List ℕ) → scalars front ≡ true → scalars end ≡ true
    → scalars (front ++ end) ≡ true
scalars-both [] end h more = more
scalars-both (c ∷ front) end h more =
    ap (λ b. b && scalars (front ++ end)) (and-left (scalar c) _ h)
    ∙ scalars-both front end (and-right (scalar c) _ h) more

-- the text after the first run of a text is UTF-8 if the text is
pub utf8-behind : (rule : Rule) (bytes : List ℕ) (first : Span) (rest : List Span)
    → spans_by rule bytes ≡ first ∷ rest → IsUtf8 bytes → IsUtf8 first.after
utf8-behind rule bytes first rest e whole =
    let run : IsRunBy rule (chars bytes) first = found-is_run rule bytes first
    (rw e (0, omega arith, refl)) in
    let all : scalars (run.left ++ (run.run ++ run.right)) ≡ true =
    ap scalars (sym run.parts) ∙ scalars-chars bytes whole in (
      run.right,
      (
        scalars-end run.run run.right (scalars-end run.left (run.run ++ run.right) all),
        sym run.after_is,
      ),
    )
