-- A character that the rule treats like the end of a text parts it, and a search goes on after a
-- run.
use Rattle.std.proofs.Common.{◌≡◌, ℕ, Bool, true, false, not, ◌&&◌, List, [], ◌∷◌, ◌++◌, map, reverse, chars, encode_utf8, encode_utf8_all, IsUtf8, refl, sym, ap, subst, ◌∙◌, append-nil, append_assoc, if◌then◌else◌}
use mathlib.Core.List.{reverse_aux}
use Rattle.std.proofs.lemmas.Grind.{reverse_onto}
use Rattle.std.proofs.lemmas.List.{map-append, reverse-append, reverse-reverse}
use Rattle.std.proofs.lemmas.Str.{chars-append, chars_from_encodes, chars_past_char, IsUtf8-past_char, encodes-append, encodes-chars}
use Rattle.std.proofs.Math.Bool.{and-false}
use Rattle.cn_find.specs.declared.wanted.Wanted.{Wanted}
use Rattle.cn_find.specs.Parting.{with_text_before, with_text_after}
use Rattle.cn_find.specs.Rule.{Rule, number_rule, is_joined}
use Rattle.cn_find.specs.Spans.{Span, run_of, after_run, span_at, begun_at, spans_after, spans_by, spans}
use Rattle.cn_find.proofs.RunLaws.{placed, whole}
use Rattle.cn_find.proofs.Runs.{first-span, front-onto, next-character, not-joined}

-- the rule lets the character belong to nothing, and treats it like the end of the text for its
-- neighbours
pub record Parts (rule : Rule) (c : ℕ) : Type 0 where
  pub outside : (front after : List ℕ) → rule.belongs front c after ≡ false
  pub ends : (front : List ℕ) (d : ℕ) (xs right : List ℕ)
      → rule.belongs front d (xs ++ c ∷ right) ≡ rule.belongs front d xs
  pub begins : (front left : List ℕ) (d : ℕ) (after : List ℕ)
      → rule.belongs (front ++ c ∷ left) d after ≡ rule.belongs front d after

-- `here`, in a text with `tail` after it, does what `there` does in the text without it, if the
-- characters before are near those before it there, and those of the text are such characters
pub record Agreement (tail : List ℕ) : Type 1 where
  pub here : Rule
  pub there : Rule
  pub Near : List ℕ → List ℕ → Type 0
  pub Such : List ℕ → Type 0
  pub change : Span → Span
  pub nearer : (f g : List ℕ) (d : ℕ) → Near f g → Near (d ∷ f) (d ∷ g)
  pub others : (d : ℕ) (xs : List ℕ) → Such (d ∷ xs) → Such xs
  pub belongs : (f g : List ℕ) (d : ℕ) (xs : List ℕ) → Near f g → Such (d ∷ xs)
      → here.belongs f d (xs ++ tail) ≡ there.belongs g d xs
  pub parts : (d x : ℕ) (xs : List ℕ) → Such (d ∷ x ∷ xs)
      → here.is_parted d x ≡ there.is_parted d x
  pub ends : (f : List ℕ) (d : ℕ) → is_joined here f d tail ≡ false
  pub changed : (f g run after : List ℕ) → Near f g
      → placed f run (after ++ tail) ≡ change (placed g run after)

joined-alike : {tail : List ℕ} (a : Agreement tail) (f g : List ℕ) (d : ℕ) (xs : List ℕ)
    → a.Near f g → a.Such (d ∷ xs)
    → is_joined a.here f d (xs ++ tail) ≡ is_joined a.there g d xs
joined-alike a f g d [] near such = a.ends f d
joined-alike {tail} a f g d (x ∷ xs) near such =
    rw (
      a.belongs f g d (x ∷ xs) near such,
      a.belongs (d ∷ f) (d ∷ g) x xs (a.nearer f g d near) (a.others d (x ∷ xs) such),
      a.parts d x xs such,
    )

run-alike : {tail : List ℕ} (a : Agreement tail) (f g : List ℕ) (d : ℕ) (xs : List ℕ)
    → a.Near f g → a.Such (d ∷ xs)
    → run_of a.here f (d ∷ xs ++ tail) ≡ run_of a.there g (d ∷ xs)
run-alike a f g d [] near such = rw (a.ends f d)
run-alike a f g d (x ∷ xs) near such = rw (
  joined-alike a f g d (x ∷ xs) near such,
  run-alike a (d ∷ f) (d ∷ g) x xs (a.nearer f g d near) (a.others d (x ∷ xs) such),
)

after-alike : {tail : List ℕ} (a : Agreement tail) (f g : List ℕ) (d : ℕ) (xs : List ℕ)
    → a.Near f g → a.Such (d ∷ xs)
    → after_run a.here f (d ∷ xs ++ tail) ≡ after_run a.there g (d ∷ xs) ++ tail
after-alike a f g d [] near such = rw (a.ends f d)
after-alike {tail} a f g d (x ∷ xs) near such =
    rw (joined-alike a f g d (x ∷ xs) near such) (by (is_joined a.there g d (x ∷ xs))
    (after-alike a (d ∷ f) (d ∷ g) x xs (a.nearer f g d near) (a.others d (x ∷ xs) such))) where
      by : (b : Bool)
          → after_run a.here (d ∷ f) (x ∷ xs ++ tail) ≡ after_run a.there (d ∷ g) (x ∷ xs) ++ tail
          → (if b then after_run a.here (d ∷ f) (x ∷ xs ++ tail) else x ∷ xs ++ tail)
          ≡ (if b then after_run a.there (d ∷ g) (x ∷ xs) else x ∷ xs) ++ tail
      by true same = same
      by false same = refl

abbrev begun_if : Bool → Span → List Span
begun_if b span = if b then span ∷ [] else []

begun-map : (change : Span → Span) (b : Bool) (span : Span)
    → begun_if b (change span) ≡ map change (begun_if b span)
begun-map change true span = refl
begun-map change false span = refl

begun-alike : {tail : List ℕ} (a : Agreement tail) (joined : Bool) (f g : List ℕ) (d : ℕ)
    (xs : List ℕ) → a.Near f g → a.Such (d ∷ xs)
    → begun_at a.here joined f d (xs ++ tail) ≡ map a.change (begun_at a.there joined g d xs)
begun-alike {tail} a joined f g d xs near such =
    ap (λ b. begun_if (not joined && b) (span_at a.here f (d ∷ xs ++ tail)))
    (a.belongs f g d xs near such)
    ∙ ap (begun_if begins) (ap (λ l. placed f l (after_run a.here f (d ∷ xs ++ tail)))
    (run-alike a f g d xs near such)
    ∙ ap (placed f (run_of a.there g (d ∷ xs))) (after-alike a f g d xs near such)
    ∙ a.changed f g (run_of a.there g (d ∷ xs)) (after_run a.there g (d ∷ xs)) near)
    ∙ begun-map a.change begins (span_at a.there g (d ∷ xs)) where
      begins : Bool
      begins = not joined && a.there.belongs g d xs

-- so the runs of the text are the same, and those of the tail come after them
spans-alike : {tail : List ℕ} (a : Agreement tail) (joined : Bool) (f g xs : List ℕ)
    → a.Near f g → a.Such xs
    → (b : Bool) × (spans_after a.here joined f (xs ++ tail)
    ≡ map a.change (spans_after a.there joined g xs)
    ++ spans_after a.here b (reverse_aux xs f) tail)
spans-alike a joined f g [] near such = (joined, refl)
spans-alike {tail} a joined f g (d ∷ xs) near such =
    let rest = spans-alike a (is_joined a.there g d xs) (d ∷ f) (d ∷ g) xs (a.nearer f g d near)
    (a.others d xs such) in
    let behind = spans_after a.here rest.0 (reverse_aux xs (d ∷ f)) tail in (
      rest.0,
      rw (
        begun-alike a joined f g d xs near such,
        joined-alike a f g d xs near such,
        rest.1,
        map-append a.change begun others,
      ) (sym (append_assoc (map a.change begun) (map a.change others) behind)),
    ) where
      begun : List Span
      begun = begun_at a.there joined g d xs

      others : List Span
      others = spans_after a.there (is_joined a.there g d xs) (d ∷ g) xs

pub all-alike : (a : Agreement []) (joined : Bool) (f g xs : List ℕ) → a.Near f g → a.Such xs
    → spans_after a.here joined f xs ≡ map a.change (spans_after a.there joined g xs)
all-alike a joined f g xs near such =
    ap (spans_after a.here joined f) (sym (append-nil xs))
    ∙ (spans-alike a joined f g xs near such).1
    ∙ append-nil (map a.change (spans_after a.there joined g xs))

-- the runs before the character are the same without it
abbrev before : (rule : Rule) (c : ℕ) → Parts rule c → (right : List ℕ) → Agreement (c ∷ right)
before rule c p right = record {
  here = rule;
  there = rule;
  Near = λ f g. f ≡ g;
  Such = λ xs. Unit {0};
  change = with_text_after (encode_utf8_all (c ∷ right));
  nearer = λ f g d near. ap (λ l. d ∷ l) near;
  others = λ d xs such. tt;
  belongs = λ f g d xs near such. p.ends f d xs right ∙ ap (λ l. rule.belongs l d xs) near;
  parts = λ d x xs such. refl;
  ends = λ f d. rw (p.outside (d ∷ f) right, and-false (rule.belongs f d (c ∷ right)));
  changed = λ f g run after near.
      rw (near, encodes-append after (c ∷ right));
}

parted : (rule : Rule) (c : ℕ) → Parts rule c → (right xs : List ℕ)
    → spans_after rule false [] (xs ++ c ∷ right)
    ≡ map (with_text_after (encode_utf8_all (c ∷ right))) (spans_after rule false [] xs)
    ++ spans_after rule false (c ∷ reverse xs) right
parted rule c p right xs =
    let r = spans-alike (before rule c p right) false [] [] xs refl tt in
    r.1 ∙ ap (λ l. map (with_text_after (encode_utf8_all (c ∷ right)))
    (spans_after rule false [] xs) ++ l) (passed r.0) where
      passed : (b : Bool) → spans_after rule b (reverse xs) (c ∷ right)
          ≡ spans_after rule false (c ∷ reverse xs) right
      passed b =
          rw (
            p.outside (reverse xs) right,
            and-false (not b),
            not-joined rule (reverse xs) c right (p.outside (reverse xs) right),
          )

-- if the characters `more` before any others make no difference to the rule, the runs after them are
-- those of the text after them
shifted : (rule : Rule) (more : List ℕ)
    → ((front : List ℕ) (d : ℕ) (after : List ℕ)
    → rule.belongs (front ++ more) d after ≡ rule.belongs front d after) → (cs : List ℕ)
    → spans_after rule false more cs
    ≡ map (with_text_before (encode_utf8_all (reverse more))) (spans_after rule false [] cs)
shifted rule more same cs = all-alike after_more false more [] cs refl tt where
  after_more : Agreement []
  after_more = record {
    here = rule;
    there = rule;
    Near = λ f g. f ≡ g ++ more;
    Such = λ xs. Unit {0};
    change = with_text_before (encode_utf8_all (reverse more));
    nearer = λ f g d near. ap (λ l. d ∷ l) near;
    others = λ d xs such. tt;
    belongs = λ f g d xs near such. rw (near, append-nil xs) (same g d xs);
    parts = λ d x xs such. refl;
    ends = λ f d. refl;
    changed = λ f g run after near.
        rw (
          near,
          append-nil after,
          reverse-append g more,
          encodes-append (reverse more) (reverse g),
        );
  }

-- the runs of a text are those before the character and those after it
pub parts-text : (rule : Rule) (c : ℕ) → Parts rule c → (left right : List ℕ)
    → IsUtf8 left → IsUtf8 (encode_utf8 c ++ right)
    → spans_by rule (left ++ (encode_utf8 c ++ right))
    ≡ map (with_text_after (encode_utf8 c ++ right)) (spans_by rule left)
    ++ map (with_text_before (left ++ encode_utf8 c)) (spans_by rule right)
parts-text rule c p left right first second = rw (
  chars-append left (encode_utf8 c ++ right) first,
  behind,
  parted rule c p (chars right) (chars left),
  ended,
  shifted rule (c ∷ reverse (chars left)) (λ front. p.begins front (reverse (chars left)))
      (chars right),
  in_front,
) where
  behind : chars (encode_utf8 c ++ right) ≡ c ∷ chars right
  behind = chars_past_char (encode_utf8 c ++ right) right c second refl

  ended : encode_utf8_all (chars right) ≡ right
  ended = encodes-chars right (IsUtf8-past_char (encode_utf8 c ++ right) right c second refl)

  in_front : encode_utf8_all (reverse (c ∷ reverse (chars left))) ≡ left ++ encode_utf8 c
  in_front =
      ap encode_utf8_all (reverse_onto (reverse (chars left)) c []
      ∙ ap (λ l. l ++ c ∷ []) (reverse-reverse (chars left)))
      ∙ encodes-append (chars left) (c ∷ [])
      ∙ ap (λ l. encode_utf8_all (chars left) ++ l) (append-nil (encode_utf8 c))
      ∙ ap (λ l. l ++ encode_utf8 c) (encodes-chars left first)

-- the first of these runs ends after `passed`, and the others are those that are found from there
-- on
pub record Rest (rule : Rule) (front cs : List ℕ) (first : Span) (rest : List Span) : Type 0 where
  pub passed : List ℕ
  pub behind : List ℕ
  pub parts : cs ≡ passed ++ behind
  pub before_is : encode_utf8_all (reverse (reverse_aux passed front)) ≡ first.before ++ first.text
  pub after_is : first.after ≡ encode_utf8_all behind
  pub rest_is : rest ≡ spans_after rule false (reverse_aux passed front) behind

abbrev pub RestOf : Rule → List ℕ → List ℕ → List Span → Type 0
RestOf rule front cs [] = Unit {0}
RestOf rule front cs (first ∷ rest) = Rest rule front cs first rest

rest-at : (rule : Rule) (front cs : List ℕ)
    → Rest rule front cs (span_at rule front cs)
    (spans_after rule false (reverse_aux (run_of rule front cs) front) (after_run rule front cs))
rest-at rule front cs = record {
  passed = run_of rule front cs;
  behind = after_run rule front cs;
  parts = whole rule front cs;
  before_is =
      ap encode_utf8_all (ap reverse (front-onto front (run_of rule front cs))
      ∙ reverse-append (reverse (run_of rule front cs)) front
      ∙ ap (λ l. reverse front ++ l) (reverse-reverse (run_of rule front cs)))
      ∙ encodes-append (reverse front) (run_of rule front cs);
  after_is = refl;
  rest_is = refl;
}

rest-further : (rule : Rule) (front : List ℕ) (c : ℕ) (cs : List ℕ) (spans : List Span)
    → RestOf rule (c ∷ front) cs spans → RestOf rule front (c ∷ cs) spans
rest-further rule front c cs [] r = tt
rest-further rule front c cs (first ∷ rest) r = record {
  passed = c ∷ r.passed;
  behind = r.behind;
  parts = ap (λ l. c ∷ l) r.parts;
  before_is = r.before_is;
  after_is = r.after_is;
  rest_is = r.rest_is;
}

pub rest-of : (rule : Rule) (front cs : List ℕ)
    → RestOf rule front cs (spans_after rule false front cs)
rest-of rule front [] = tt
rest-of rule front (c ∷ ahead) =
    by (rule.belongs front c ahead) refl (rest-of rule (c ∷ front) ahead) where
      by : (b : Bool) → rule.belongs front c ahead ≡ b
          → RestOf rule (c ∷ front) ahead (spans_after rule false (c ∷ front) ahead)
          → RestOf rule front (c ∷ ahead) (spans_after rule false front (c ∷ ahead))
      by true e ih = subst (RestOf rule front (c ∷ ahead)) (sym (first-span rule front (c ∷ ahead) e))
          (rest-at rule front (c ∷ ahead))
      by false e ih = subst (RestOf rule front (c ∷ ahead)) (sym (next-character rule front c ahead e))
          (rest-further rule front c ahead (spans_after rule false (c ∷ front) ahead) ih)

rest-behind : (rule : Rule) (bytes : List ℕ) (first : Span) (rest : List Span)
    → spans_by rule bytes ≡ first ∷ rest → Rest rule [] (chars bytes) first rest
rest-behind rule bytes first rest e =
    subst (RestOf rule [] (chars bytes)) e (rest-of rule [] (chars bytes))

-- the numbers after the first one are those of the text after it
pub searches-go_on : (wanted : Wanted) (bytes : List ℕ) (first : Span) (rest : List Span)
    → spans wanted bytes ≡ first ∷ rest → IsUtf8 first.after
    → rest ≡ map (with_text_before (first.before ++ first.text)) (spans wanted first.after)
searches-go_on wanted bytes first rest e ended =
    r.rest_is ∙ shifted rule (reverse r.passed) (λ front d after. refl) r.behind
    ∙ ap (λ l. map (with_text_before l) (spans_after rule false [] r.behind)) r.before_is
    ∙ ap (λ l. map (with_text_before (first.before ++ first.text)) (spans_after rule false [] l))
    (chars_from_encodes r.behind first.after ended (sym r.after_is)) where
      rule : Rule
      rule = number_rule wanted

      r : Rest (number_rule wanted) [] (chars bytes) first rest
      r = rest-behind (number_rule wanted) bytes first rest e
