-- Steps over the characters of a text and of a run, and over a whole run.
use Rattle.std.proofs.Common.{◌≡◌, ◌⊎◌, inl, inr, ℕ, ◌-◌, ◌≤◌, Bool, true, false, not, ◌&&◌, List, [], ◌∷◌, ◌++◌, length, take, reverse, chars, encode_utf8, encode_utf8_all, IsUtf8, refl, sym, ap, ◌∙◌, subst, arith, append_assoc, append-nil, length-append}
use mathlib.Core.List.{reverse_aux}
use Rattle.std.proofs.Math.Bool.{and-false}
use Rattle.std.proofs.Math.Seq.{take-append_seam}
use Rattle.std.proofs.lemmas.Grind.{reverse_onto}
use Rattle.std.proofs.lemmas.List.{reverse-append, reverse-reverse}
use Rattle.std.proofs.Math.Utf8.{scalar, scalars}
use Rattle.std.proofs.lemmas.Str.{IsUtf8-take, chars-nil, chars-append, chars-encodes, scalars-chars, chars_from_encodes, encodes-append, encodes-chars, IsCharBoundary-at_seam}
use Rattle.std.specs.Str.{IsCharBoundary}
use Rattle.cn_core.proofs.Fronts.{and-left, both}
use Rattle.cn_find.specs.Private.{EndsRun}
use Rattle.cn_find.specs.Rule.{Rule, is_joined}
use Rattle.cn_find.specs.Runs.{first_belongs}
use Rattle.cn_find.specs.Spans.{IsPartOf, run_of, after_run, span_at, spans_after, spans_by, text_before, in_front, left_by}

-- from the second character of a run on, the runs that are found are those after it
past-run : (rule : Rule) (front cs : List ℕ)
    → spans_after rule true front cs
    ≡ spans_after rule false (reverse_aux (run_of rule front cs) front) (after_run rule front cs)
past-run rule front [] = refl
past-run rule front (c ∷ ahead) =
    by (is_joined rule front c ahead) refl (past-run rule (c ∷ front) ahead) where
      by : (b : Bool) → is_joined rule front c ahead ≡ b
          → spans_after rule true (c ∷ front) ahead
          ≡ spans_after rule false (reverse_aux (run_of rule (c ∷ front) ahead) (c ∷ front))
          (after_run rule (c ∷ front) ahead)
          → spans_after rule true front (c ∷ ahead)
          ≡ spans_after rule false (reverse_aux (run_of rule front (c ∷ ahead)) front)
          (after_run rule front (c ∷ ahead))
      by true e ih = rw e ih
      by false e ih = rw e refl

-- a run that begins here is found first, and then the runs after it
pub first-span : (rule : Rule) (front cs : List ℕ) → first_belongs rule front cs ≡ true
    → spans_after rule false front cs
    ≡ span_at rule front cs
    ∷ spans_after rule false (reverse_aux (run_of rule front cs) front) (after_run rule front cs)
first-span rule front [] e = cc
first-span rule front (c ∷ ahead) e =
    rw e (ap (λ l. span_at rule front (c ∷ ahead) ∷ l) (past-run rule front (c ∷ ahead)))

-- a character that does not belong is joined to no other
pub not-joined : (rule : Rule) (front : List ℕ) (c : ℕ) (ahead : List ℕ)
    → rule.belongs front c ahead ≡ false → is_joined rule front c ahead ≡ false
not-joined rule front c [] e = refl
not-joined rule front c (next ∷ after) e = rw e

-- a search passes such a character
pub next-character : (rule : Rule) (front : List ℕ) (c : ℕ) (ahead : List ℕ)
    → rule.belongs front c ahead ≡ false
    → spans_after rule false front (c ∷ ahead) ≡ spans_after rule false (c ∷ front) ahead
next-character rule front c ahead e = rw e (rw (not-joined rule front c ahead e))

-- the length of a text where it is cut
pub seam-length : (whole front rest : List ℕ) → whole ≡ front ++ rest
    → length whole - length rest ≡ length front
seam-length whole front rest e = let all =
    ap length e in omega (arith, all, length-append front rest)

pub seam-front : (whole front rest : List ℕ) → whole ≡ front ++ rest
    → text_before whole rest ≡ front
seam-front whole front rest e = ap (λ n. take n whole) (seam-length whole front rest e)
    ∙ ap (take (length front)) e ∙ take-append_seam front rest

pub seam-boundary : (whole front rest : List ℕ) → whole ≡ front ++ rest → IsUtf8 rest
    → IsCharBoundary whole (length whole - length rest)
seam-boundary whole front rest e ended =
    rw (seam-length whole front rest e) (IsCharBoundary-at_seam whole front rest e ended)

-- `rest` is a suffix of the text
abbrev pub IsEnd : List ℕ → List ℕ → Type 0
IsEnd whole rest = text_before whole rest ++ rest ≡ whole

pub IsEnd-at : (whole front rest : List ℕ) → whole ≡ front ++ rest → IsEnd whole rest
IsEnd-at whole front rest e = ap (λ l. l ++ rest) (seam-front whole front rest e) ∙ sym e

-- a part of a text that begins at `ahead`
pub part-of : (whole rest before ahead text after : List ℕ) → IsEnd whole ahead → IsEnd ahead after
    → before ≡ text_before whole ahead → text ≡ text_before ahead after → length ahead ≤ length rest
    → IsPartOf whole rest (record { before = before; text = text; after = after })
part-of whole rest before ahead text after ends ended at cut within = record {
  parts = parts;
  from = omega (arith, ap length first, length-append before ahead, within);
} where
  first : whole ≡ before ++ ahead
  first = sym ends ∙ ap (λ l. l ++ ahead) (sym at)

  parts : whole ≡ before ++ (text ++ after)
  parts = first ∙ ap (λ l. before ++ l) (sym ended ∙ ap (λ l. l ++ after) (sym cut))

pub end-boundary : (whole rest : List ℕ) → IsEnd whole rest → IsUtf8 rest
    → IsCharBoundary whole (length whole - length rest)
end-boundary whole rest is_end ended =
    seam-boundary whole (text_before whole rest) rest (sym is_end) ended

pub front-utf8 : (whole rest : List ℕ) → IsEnd whole rest → IsUtf8 whole → IsUtf8 rest
    → IsUtf8 (text_before whole rest)
front-utf8 whole rest is_end utf8 ended =
    IsUtf8-take whole (length whole - length rest) utf8 (end-boundary whole rest is_end ended)

-- the bytes of a text, by its first character
first-bytes : (bytes after : List ℕ) (c : ℕ) → IsUtf8 bytes → IsUtf8 after
    → chars bytes ≡ c ∷ chars after → bytes ≡ encode_utf8 c ++ after
first-bytes bytes after c whole ended parts =
    sym (encodes-chars bytes whole) ∙ ap encode_utf8_all parts
    ∙ ap (λ l. encode_utf8 c ++ l) (encodes-chars after ended)

-- the first character of a text, by itself
one-char : (bytes after : List ℕ) (c : ℕ) → IsUtf8 bytes → chars bytes ≡ c ∷ chars after
    → chars (encode_utf8 c) ≡ c ∷ []
one-char bytes after c whole parts =
    let all : scalars (c ∷ chars after) ≡ true = ap scalars (sym parts) ∙ scalars-chars bytes whole in
    ap chars (sym (append-nil (encode_utf8 c)))
    ∙ chars-encodes (c ∷ []) (both _ _ (and-left (scalar c) _ all) refl)

-- a character of the text was passed, and the text before it is `before`
pub record Passed (whole before after : List ℕ) (c : ℕ) : Type 0 where
  pub ends : IsEnd whole after
  pub front : in_front (text_before whole after) ≡ c ∷ in_front before

pub Passed-of : (whole before ahead after : List ℕ) (c : ℕ) → whole ≡ before ++ ahead
    → IsUtf8 before → IsUtf8 ahead → IsUtf8 after → chars ahead ≡ c ∷ chars after
    → Passed whole before after c
Passed-of whole before ahead after c cut front whole_ahead ended parts = record {
  ends = IsEnd-at whole (before ++ encode_utf8 c) after at;
  front = rw (
    seam-front whole (before ++ encode_utf8 c) after at,
    chars-append before (encode_utf8 c) front,
    one-char ahead after c whole_ahead parts,
  ) (reverse-append (chars before) (c ∷ []));
} where
  at : whole ≡ before ++ encode_utf8 c ++ after
  at = cut ∙ ap (λ l. before ++ l) (first-bytes ahead after c whole_ahead ended parts)
      ∙ sym (append_assoc before (encode_utf8 c) after)

-- characters that do not belong were passed, and the text `ahead` is still to be searched
pub record Skipping (rule : Rule) (whole rest ahead : List ℕ) : Type 0 where
  pub ends : IsEnd whole ahead
  pub same : left_by rule whole rest ≡ left_by rule whole ahead

pub Skipping-none : (rule : Rule) (whole rest : List ℕ) → IsEnd whole rest
    → Skipping rule whole rest rest
Skipping-none rule whole rest is_end = record { ends = is_end; same = refl }

pub Skipping-more : (rule : Rule) (whole rest ahead after : List ℕ) (c : ℕ)
    → Skipping rule whole rest ahead → IsUtf8 (text_before whole ahead) → IsUtf8 ahead
    → IsUtf8 after → chars ahead ≡ c ∷ chars after
    → rule.belongs (in_front (text_before whole ahead)) c (chars after) ≡ false
    → Skipping rule whole rest after
Skipping-more rule whole rest ahead after c s front here ended parts e = record {
  ends = passed.ends;
  same = rw (s.same, parts, passed.front)
      (next-character rule (in_front (text_before whole ahead)) c (chars after) e);
} where
  passed : Passed whole (text_before whole ahead) after c
  passed = Passed-of whole (text_before whole ahead) ahead after c (sym s.ends) front here ended
      parts

-- the first characters of a run were passed, the last of these is `last`, and the text `rest` is
-- after it
pub record Gathered (rule : Rule) (whole before ahead rest : List ℕ) (last : ℕ) : Type 0 where
  pub passed : List ℕ
  pub front : List ℕ
  pub parts : chars ahead ≡ passed ++ last ∷ chars rest
  pub run : run_of rule (in_front before) (chars ahead)
      ≡ passed ++ run_of rule front (last ∷ chars rest)
  pub after : after_run rule (in_front before) (chars ahead)
      ≡ after_run rule front (last ∷ chars rest)
  pub belongs : rule.belongs front last (chars rest) ≡ true
  pub at : in_front (text_before whole rest) ≡ last ∷ front
  pub ends : IsEnd whole rest

pub Gathered-first : (rule : Rule) (whole before ahead rest : List ℕ) (first : ℕ)
    → whole ≡ before ++ ahead → IsUtf8 before → IsUtf8 ahead → IsUtf8 rest
    → chars ahead ≡ first ∷ chars rest → rule.belongs (in_front before) first (chars rest) ≡ true
    → Gathered rule whole before ahead rest first
Gathered-first rule whole before ahead rest first cut front here ended parts begins = record {
  passed = [];
  front = in_front before;
  parts = parts;
  run = ap (run_of rule (in_front before)) parts;
  after = ap (after_run rule (in_front before)) parts;
  belongs = begins;
  at = step.front;
  ends = step.ends;
} where
  step : Passed whole before rest first
  step = Passed-of whole before ahead rest first cut front here ended parts

-- whether the last character is joined to the next one
joined-is : (rule : Rule) (front : List ℕ) (last next : ℕ) (behind : List ℕ) (b p : Bool)
    → rule.belongs front last (next ∷ behind) ≡ true
    → rule.belongs (last ∷ front) next behind ≡ b → rule.is_parted last next ≡ p
    → is_joined rule front last (next ∷ behind) ≡ (b && not p)
joined-is rule front last next behind b p one two three = rw (one, two, three)

pub Gathered-more : (rule : Rule) (whole before ahead rest behind : List ℕ) (last next : ℕ)
    → Gathered rule whole before ahead rest last → IsUtf8 (text_before whole rest) → IsUtf8 rest
    → IsUtf8 behind → chars rest ≡ next ∷ chars behind
    → rule.belongs (in_front (text_before whole rest)) next (chars behind) ≡ true
    → rule.is_parted last next ≡ false → Gathered rule whole before ahead behind next
Gathered-more rule whole before ahead rest behind last next g front here ended parts e apart =
    record {
      passed = g.passed ++ last ∷ [];
      front = last ∷ g.front;
      parts = rw (g.parts, parts) (sym (append_assoc g.passed (last ∷ []) (next ∷ chars behind)));
      run = rw (g.run, parts, joined) (sym (append_assoc g.passed (last ∷ [])
          (run_of rule (last ∷ g.front) (next ∷ chars behind))));
      after = rw (g.after, parts, joined);
      belongs = next_belongs;
      at = step.front ∙ ap (λ l. next ∷ l) g.at;
      ends = step.ends;
    } where
      step : Passed whole (text_before whole rest) behind next
      step = Passed-of whole (text_before whole rest) rest behind next (sym g.ends) front here ended
          parts

      next_belongs : rule.belongs (last ∷ g.front) next (chars behind) ≡ true
      next_belongs = ap (λ l. rule.belongs l next (chars behind)) (sym g.at) ∙ e

      joined : is_joined rule g.front last (next ∷ chars behind) ≡ true
      joined = joined-is rule g.front last next (chars behind) true false
          (ap (rule.belongs g.front last) (sym parts) ∙ g.belongs) next_belongs apart

-- the run ends here
ended-by : (rule : Rule) (whole before ahead rest : List ℕ) (last : ℕ)
    (g : Gathered rule whole before ahead rest last)
    → is_joined rule g.front last (chars rest) ≡ false → IsUtf8 ahead → IsUtf8 rest
    → EndsRun rule before ahead rest
ended-by rule whole before ahead rest last g apart here behind = record {
  bytes =
      sym (encodes-chars ahead here) ∙ ap encode_utf8_all (g.parts
      ∙ sym (append_assoc g.passed (last ∷ []) (chars rest)))
      ∙ encodes-append (g.passed ++ last ∷ []) (chars rest)
      ∙ ap (λ l. encode_utf8_all (g.passed ++ last ∷ []) ++ l) (encodes-chars rest behind)
      ∙ ap (λ l. encode_utf8_all l ++ rest) (sym run);
  after = rw (g.after, apart);
} where
  run : run_of rule (in_front before) (chars ahead) ≡ g.passed ++ last ∷ []
  run = rw (g.run, apart)

pub EndsRun-at : (rule : Rule) (whole before ahead rest behind : List ℕ) (last next : ℕ)
    → Gathered rule whole before ahead rest last → chars rest ≡ next ∷ chars behind
    → (rule.belongs (in_front (text_before whole rest)) next (chars behind) ≡ false)
    ⊎ (rule.is_parted last next ≡ true) → IsUtf8 ahead → IsUtf8 rest
    → EndsRun rule before ahead rest
EndsRun-at rule whole before ahead rest behind last next g parts why here ended_here =
    ended-by rule whole before ahead rest last g
    (ap (is_joined rule g.front last) parts ∙ elim why [
      | inl none ↦ joined-is rule g.front last next (chars behind) false
          (rule.is_parted last next) belongs
          (ap (λ l. rule.belongs l next (chars behind)) (sym g.at) ∙ none) refl
      | inr apart ↦ joined-is rule g.front last next (chars behind)
          (rule.belongs (last ∷ g.front) next (chars behind)) true belongs refl apart
          ∙ and-false _
    ]) here ended_here where
      belongs : rule.belongs g.front last (next ∷ chars behind) ≡ true
      belongs = ap (rule.belongs g.front last) (sym parts) ∙ g.belongs

pub EndsRun-none : (rule : Rule) (whole before ahead rest : List ℕ) (last : ℕ)
    → Gathered rule whole before ahead rest last → chars rest ≡ [] → IsUtf8 ahead → IsUtf8 rest
    → EndsRun rule before ahead rest
EndsRun-none rule whole before ahead rest last g none here ended_here =
    ended-by rule whole before ahead rest last g (ap (is_joined rule g.front last) none) here
    ended_here

-- the position of the next run in the whole text
pub record IsNext (rule : Rule) (whole rest before text after : List ℕ) : Type 0 where
  pub parts : left_by rule whole rest
      ≡ record { before = before; text = text; after = after } ∷ left_by rule whole after
  pub ends : IsEnd whole after

-- of the characters before the end of a run, those of the run are the nearest
pub front-onto : (front run : List ℕ) → reverse_aux run front ≡ reverse run ++ front
front-onto front [] = refl
front-onto front (c ∷ run) =
    reverse_onto run c front ∙ sym (append_assoc (reverse run) (c ∷ []) front)
    ∙ ap (λ l. l ++ front) (sym (reverse_onto run c []))

pub IsNext-found : (rule : Rule) (whole rest before ahead text after : List ℕ)
    → Skipping rule whole rest ahead
    → first_belongs rule (in_front (text_before whole ahead)) (chars ahead) ≡ true
    → before ≡ text_before whole ahead → IsUtf8 before
    → EndsRun rule (text_before whole ahead) ahead after → text ≡ text_before ahead after
    → IsUtf8 text → IsUtf8 after → IsNext rule whole rest before text after
IsNext-found rule whole rest before ahead text after s here at utf8 run_ends cut whole_text ended = record {
  parts =
      s.same ∙ ap (λ l. spans_after rule false (in_front l) (chars ahead)) (sym at)
      ∙ first-span rule front (chars ahead) begins
      ∙ rw (same_before, sym run, e.after, encodes-chars after ended, at_end);
  ends = IsEnd-at whole (before ++ text) after at_after;
} where
  front : List ℕ
  front = in_front before

  e : EndsRun rule before ahead after
  e = subst (λ l. EndsRun rule l ahead after) (sym at) run_ends

  run : text ≡ encode_utf8_all (run_of rule front (chars ahead))
  run = cut ∙ seam-front ahead (encode_utf8_all (run_of rule front (chars ahead))) after e.bytes

  same_before : encode_utf8_all (reverse front) ≡ before
  same_before = ap encode_utf8_all (reverse-reverse (chars before))
      ∙ encodes-chars before utf8

  at_after : whole ≡ before ++ text ++ after
  at_after = sym s.ends ∙ ap (λ l. l ++ ahead) (sym at) ∙ ap (λ l. before ++ l) (e.bytes
      ∙ ap (λ l. l ++ after) (sym run))
      ∙ sym (append_assoc before text after)

  at_end : reverse_aux (run_of rule front (chars ahead)) front
      ≡ in_front (text_before whole after)
  at_end = rw (
    seam-front whole (before ++ text) after at_after,
    chars-append before text utf8,
    reverse-append (chars before) (chars text),
    chars_from_encodes (run_of rule front (chars ahead)) text whole_text (sym run),
  ) (front-onto front (chars text))

  begins : first_belongs rule front (chars ahead) ≡ true
  begins = ap (λ l. first_belongs rule (in_front l) (chars ahead)) at ∙ here

-- no run is left at the end of a text
pub none_left : (rule : Rule) (whole : List ℕ) → left_by rule whole [] ≡ []
none_left rule whole = ap (spans_after rule false (in_front (text_before whole []))) chars-nil

-- at its start all runs are left
pub all-left : (rule : Rule) (whole : List ℕ) → left_by rule whole whole ≡ spans_by rule whole
all-left rule whole =
    ap (λ l. spans_after rule false l (chars whole))
    (ap in_front (seam-front whole [] whole refl) ∙ ap reverse chars-nil)

pub none_left_of_empty : (rule : Rule) (whole rest : List ℕ) → length rest ≡ 0
    → left_by rule whole rest ≡ []
none_left_of_empty rule whole [] none = none_left rule whole
none_left_of_empty rule whole (c ∷ rest) none = absurd (omega (arith, none))
