-- The runs of a text: its longest stretches of characters that belong to one number, or to one
-- expression.
use Rattle.std.specs.Prelude.{◌≡◌, ℕ, ◌-◌, ◌≤◌, Bool, false, not, ◌&&◌, List, [], ◌∷◌, ◌++◌, length, take, reverse, chars, encode_utf8_all, Option, Some, None, if◌then◌else◌}
use Rattle.cn_find.specs.declared.found.Found.{Found}
use Rattle.cn_find.specs.declared.wanted.Wanted.{Wanted}
use Rattle.cn_find.specs.Expressions.{expression_rule}
use Rattle.cn_find.specs.Rule.{Rule, number_rule, is_joined}

-- a run in its text, as bytes: the text before it, the run, and the text after it
pub record Span : Type 0 where
  pub before : List ℕ
  pub text : List ℕ
  pub after : List ℕ

-- the run at the start of these characters: the first one, and those that are joined to the one
-- before them. The characters before the run are `front`, the nearest first
abbrev pub run_of : Rule → List ℕ → List ℕ → List ℕ
run_of rule front [] = []
run_of rule front (c ∷ ahead) =
    c ∷ (if is_joined rule front c ahead then run_of rule (c ∷ front) ahead else [])

-- the characters after that run
abbrev pub after_run : Rule → List ℕ → List ℕ → List ℕ
after_run rule front [] = []
after_run rule front (c ∷ ahead) =
    if is_joined rule front c ahead then after_run rule (c ∷ front) ahead else ahead

-- the characters after the run at the start of these, if the first of them belongs to one
abbrev pub run_after : Rule → List ℕ → List ℕ → Option (List ℕ)
run_after rule front [] = None
run_after rule front (c ∷ ahead) =
    if rule.belongs front c ahead then Some (after_run rule front (c ∷ ahead)) else None

-- that run with the text before it and the text after it
abbrev pub span_at : Rule → List ℕ → List ℕ → Span
span_at rule front ahead = record {
  before = encode_utf8_all (reverse front);
  text = encode_utf8_all (run_of rule front ahead);
  after = encode_utf8_all (after_run rule front ahead);
}

-- the run that begins at a character, if one does: the character belongs, and is not joined to the
-- one before it
abbrev pub begun_at : Rule → Bool → List ℕ → ℕ → List ℕ → List Span
begun_at rule joined front c ahead =
    if not joined && rule.belongs front c ahead then span_at rule front (c ∷ ahead) ∷ [] else []

-- the runs that begin among these characters; `joined` says whether the first is joined to the
-- character before it
abbrev pub spans_after : Rule → Bool → List ℕ → List ℕ → List Span
spans_after rule joined front [] = []
spans_after rule joined front (c ∷ ahead) =
    begun_at rule joined front c ahead
    ++ spans_after rule (is_joined rule front c ahead) (c ∷ front) ahead

-- the runs of a text, given by its bytes, by a rule
abbrev pub spans_by : Rule → List ℕ → List Span
spans_by rule bytes = spans_after rule false [] (chars bytes)

-- the numbers of a text
abbrev pub spans : Wanted → List ℕ → List Span
spans wanted bytes = spans_by (number_rule wanted) bytes

-- the expressions of a text
abbrev pub expressions : Wanted → List ℕ → List Span
expressions wanted bytes = spans_by (expression_rule wanted) bytes

-- the run that is a `Found` in the code
abbrev pub span_of : Found → Span
span_of found = record { before = found.before.now; text = found.text.now; after = found.after.now }

-- the part of a text before its suffix `rest`
abbrev pub text_before : List ℕ → List ℕ → List ℕ
text_before whole rest = take (length whole - length rest) whole

-- the span is a part of a text, and does not begin before the suffix `rest`
pub record IsPartOf (whole rest : List ℕ) (span : Span) : Type 0 where
  pub parts : whole ≡ span.before ++ (span.text ++ span.after)
  pub from : length whole - length rest ≤ length span.before

-- the characters of the text before something, given by its bytes; the nearest is the first
abbrev pub in_front : List ℕ → List ℕ
in_front before = reverse (chars before)

-- the runs that a search finds in the suffix `rest` of a text
abbrev pub left_by : Rule → List ℕ → List ℕ → List Span
left_by rule whole rest =
    spans_after rule false (in_front (text_before whole rest)) (chars rest)

-- the numbers that a search finds in the suffix
abbrev pub spans_left : Wanted → List ℕ → List ℕ → List Span
spans_left wanted whole rest = left_by (number_rule wanted) whole rest

-- the expressions that a search finds in the suffix
abbrev pub expressions_left : Wanted → List ℕ → List ℕ → List Span
expressions_left wanted whole rest = left_by (expression_rule wanted) whole rest
