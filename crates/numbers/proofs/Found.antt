-- What is written for the runs of a text, one after the other.
use Rattle.std.proofs.Common.{◌≡◌, ℕ, ◌+◌, ◌-◌, ◌≤◌, true, false, List, [], ◌∷◌, ◌++◌, length, chars, encode_utf8_all, reverse, take, drop, IsCharBoundary, IsUtf8, Option, refl, sym, ap, ◌∙◌, arith, append_assoc, length-append, subst, take_at, drop_at}
use mathlib.Core.List.{reverse_aux}
use Rattle.std.proofs.lemmas.List.{length-reverse}
use Rattle.std.proofs.lemmas.Str.{IsUtf8-append, IsCharBoundary-at_seam, chars-append, chars_from_encodes, encodes-append, encodes-chars, length-le-encodes, scalars-chars}
use Rattle.std.proofs.Math.Utf8.{scalars}
use Rattle.std.specs.Io.KnownBytes.{Appends}
use Rattle.std.proofs.KnownBytes.{Appends-nil, Appends-trans}
use Rattle.chinese_number.specs.Rule.{Rule}
use Rattle.chinese_number.specs.Spans.{Span, spans_after, spans_by}
use Rattle.cn_find.proofs.Parting.{Rest, RestOf, rest-of}
use Rattle.cn_find.proofs.RunLaws.{scalars-end, scalars-start}
use Rattle.cn_find.proofs.Runs.{front-onto}
use Rattle.numbers.specs.declared.options.Search.{Search}
use Rattle.numbers.specs.Answers.{AreFound, IsAnswered, found_text}

-- a text has no more characters than bytes
pub few-chars : (bytes : List ℕ) → IsUtf8 bytes → length (chars bytes) ≤ length bytes
few-chars bytes ok = let e = ap length (encodes-chars bytes ok) in let low =
    length-le-encodes (chars bytes) in omega (arith, e, low)

-- these runs are in the rest of a text, and `count` characters are before the rest
pub record Left (rule : Rule) (left : List Span) (rest : List ℕ) (count : ℕ) : Type 0 where
  pub front : List ℕ
  pub cs : List ℕ
  pub left_is : left ≡ spans_after rule false front cs
  pub rest_is : rest ≡ encode_utf8_all cs
  pub are_scalars : scalars cs ≡ true
  pub count_is : count ≡ length front

pub Left-all : (rule : Rule) (text : List ℕ) → IsUtf8 text → Left rule (spans_by rule text) text 0
Left-all rule text ok = record {
  front = [];
  cs = chars text;
  left_is = refl;
  rest_is = sym (encodes-chars text ok);
  are_scalars = scalars-chars text ok;
  count_is = refl;
}

-- the first of them ends where `cut_at` cuts the rest, and the others are after that
abbrev pub cut_at : Span → List ℕ → ℕ
cut_at span rest = length rest - length span.after

pub record First (rule : Rule) (span : Span) (others : List Span) (rest : List ℕ) (count : ℕ)
    : Type 0 where
  pub within : length span.after ≤ length rest
  pub boundary : IsCharBoundary rest (cut_at span rest)
  pub behind : drop (cut_at span rest) rest ≡ span.after
  pub counted : count + length (chars (take (cut_at span rest) rest))
      ≡ length (chars span.before) + length (chars span.text)
  pub left : Left rule others span.after (count + length (chars (take (cut_at span rest) rest)))

pub First-of : {rule : Rule} {runs : List Span} {rest : List ℕ} {count : ℕ}
    (l : Left rule runs rest count) (span : Span) (others : List Span) → runs ≡ span ∷ others
    → IsUtf8 span.before → IsUtf8 span.text → First rule span others rest count
First-of {rule} {rest = rest} {count} l span others e before text = record {
  within = omega (arith, sizes);
  boundary = subst (IsCharBoundary rest) cut
      (IsCharBoundary-at_seam rest passed span.after parts behind_utf8);
  behind = ap (λ n. drop n rest) (sym cut) ∙ ap (drop (length passed)) parts
      ∙ drop_at passed span.after (length passed) refl;
  counted = omega (
    arith,
    long,
    count_same,
    length-reverse done,
    ap length same,
    length-append (chars span.before) (chars span.text),
  );
  left = record {
    front = done;
    cs = r.behind;
    left_is = r.rest_is;
    rest_is = r.after_is;
    are_scalars = behind_all;
    count_is = omega (arith, long, count_same);
  };
} where
  r : Rest rule l.front l.cs span others
  r = subst (RestOf rule l.front l.cs) (sym l.left_is ∙ e) (rest-of rule l.front l.cs)

  passed : List ℕ
  passed = encode_utf8_all r.passed

  done : List ℕ
  done = reverse_aux r.passed l.front

  all : scalars (r.passed ++ r.behind) ≡ true
  all = ap scalars (sym r.parts) ∙ l.are_scalars

  behind_all : scalars r.behind ≡ true
  behind_all = scalars-end r.passed r.behind all

  behind_utf8 : IsUtf8 span.after
  behind_utf8 = (r.behind, (behind_all, sym r.after_is))

  passed_utf8 : IsUtf8 passed
  passed_utf8 = (r.passed, (scalars-start r.passed r.behind all, refl))

  parts : rest ≡ passed ++ span.after
  parts = l.rest_is ∙ ap encode_utf8_all r.parts ∙ encodes-append r.passed r.behind
      ∙ ap (λ t. passed ++ t) (sym r.after_is)

  sizes : length rest ≡ length passed + length span.after
  sizes = ap length parts ∙ length-append passed span.after

  cut : length passed ≡ cut_at span rest
  cut = omega (arith, sizes)

  count_same : length (chars (take (cut_at span rest) rest)) ≡ length r.passed
  count_same = ap length (sym (chars_from_encodes r.passed (take (cut_at span rest) rest)
      (subst IsUtf8 (sym front_is) passed_utf8) (sym front_is))) where
        front_is : take (cut_at span rest) rest ≡ passed
        front_is = ap (λ n. take n rest) (sym cut) ∙ ap (take (length passed)) parts
            ∙ take_at passed span.after (length passed) refl

  long : length done ≡ count + length r.passed
  long = omega (
    arith,
    ap length (front-onto l.front r.passed),
    length-append (reverse r.passed) l.front,
    length-reverse r.passed,
    l.count_is,
  )

  same : reverse done ≡ chars span.before ++ chars span.text
  same = chars_from_encodes (reverse done) (span.before ++ span.text)
      (IsUtf8-append span.before span.text before text) r.before_is
      ∙ chars-append span.before span.text before

-- what has been written, together with what is written for the runs that are left, is the whole
-- text
pub record Passed (search : Search) (line : ℕ) (old now : Option (List ℕ)) (all left : List Span)
    : Type 0 where
  pub written : List ℕ
  pub appends : Appends old now written
  pub completes : (more : List ℕ) → AreFound search line left more
      → AreFound search line all (written ++ more)

pub Passed-none : (search : Search) (line : ℕ) (old : Option (List ℕ)) (all : List Span)
    → Passed search line old old all all
Passed-none search line old all =
    record { written = []; appends = Appends-nil _; completes = λ more found. found }

-- one more run is written
pub Passed-more : (search : Search) (line : ℕ) (old now new : Option (List ℕ)) (all : List Span)
    (span : Span) (others : List Span) (answer : List ℕ)
    → Passed search line old now all (span ∷ others)
    → IsAnswered search span.text answer
    → Appends now new (found_text line (1 + length (chars span.before)) span.text answer)
    → Passed search line old new all others
Passed-more search line old now new all span others answer p is wrote =
    let this = found_text line (1 + length (chars span.before)) span.text answer in
    record {
      written = p.written ++ this;
      appends = Appends-trans _ _ _ _ _ p.appends wrote;
      completes = λ more found. subst (AreFound search line all)
          (sym (append_assoc p.written this more))
          (p.completes (this ++ more) (answer, more, is, found, refl));
    }
