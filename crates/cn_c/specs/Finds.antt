-- What a call that finds runs writes and returns.
use Rattle.std.specs.Prelude.{◌≡◌, ℕ, ◌+◌, ◌*◌, Bool, List, ◌++◌, length, take, drop, map, chars, Option, Some, None, IsCharBoundary, slice_get, if◌then◌else◌}
use Rattle.std.specs.Bool.{MatchBool}
use Rattle.std.specs.Str.{is_utf8}
use Rattle.chinese_number.specs.declared.Unit.{Unit as NumeralUnit}
use Rattle.chinese_number.specs.declared.Wanted.{Wanted}
use Rattle.chinese_number.specs.Number.{is_plain}
use Rattle.chinese_number.specs.Spans.{Span as SpanOfText, left_by}
use Rattle.cn_find.specs.declared.doubt.Doubt.{Doubt}
use Rattle.cn_find.specs.declared.doubt.Doubt.TheVariants.{Word, Digits, Term, Part, Time, Range}
use Rattle.cn_find.specs.Doubt.{doubt_of}
use Rattle.cn_find.specs.Expressions.{expression_rule}
use Rattle.cn_find.specs.Flags.{is_about, is_one_character, stands_alone}
use Rattle.cn_find.specs.Rule.{Rule, number_rule}
use Rattle.cn_c.specs.declared.finding.Span.{Span}
use Rattle.cn_c.specs.Codes.{uppers, units, CN_PLAIN_DIGITS, CN_STANDS_ALONE, CN_ABOUT, CN_ONE_CHARACTER, CN_NO_DOUBT, CN_DOUBT_WORD, CN_DOUBT_DIGITS, CN_DOUBT_TERM, CN_DOUBT_PART, CN_DOUBT_TIME, CN_DOUBT_RANGE, CN_DONE, CN_NOT_UTF8, CN_UNKNOWN}

-- a flag if it applies, and otherwise 0
abbrev pub flag_if : Bool → ℕ → ℕ
flag_if told flag = if told then flag else 0

-- the code of a doubt
abbrev pub doubt_code : Option Doubt → ℕ
doubt_code None = CN_NO_DOUBT
doubt_code (Some Word) = CN_DOUBT_WORD
doubt_code (Some Digits) = CN_DOUBT_DIGITS
doubt_code (Some Term) = CN_DOUBT_TERM
doubt_code (Some Part) = CN_DOUBT_PART
doubt_code (Some Time) = CN_DOUBT_TIME
doubt_code (Some Range) = CN_DOUBT_RANGE

-- the flags of a run, added together
abbrev pub flags_told : SpanOfText → ℕ
flags_told span =
    flag_if (is_plain (chars span.text)) CN_PLAIN_DIGITS
    + flag_if (stands_alone (chars span.before) (chars span.after)) CN_STANDS_ALONE
    + flag_if (is_about (chars span.before) (chars span.text) (chars span.after)) CN_ABOUT
    + flag_if (is_one_character (chars span.text)) CN_ONE_CHARACTER

-- the position of a run, and the sum of its flags and 16 times the code of its doubt
abbrev pub span_told : (SpanOfText → Option Doubt) → SpanOfText → Span
span_told doubt span = record {
  start = length span.before;
  end = length span.before + length span.text;
  flags = flags_told span + doubt_code (doubt span) * 16;
}

-- a search: the rule by which it finds runs, and why what it finds may mean something else
pub record Search : Type 0 where
  pub rule : Rule
  pub doubt : SpanOfText → Option Doubt

-- the search for numbers, which have no doubts
abbrev pub number_search : Wanted → Search
number_search wanted = record { rule = number_rule wanted; doubt = λ span. None }

-- the search for expressions
abbrev pub expression_search : Wanted → Search
expression_search wanted = record {
  rule = expression_rule wanted;
  doubt = λ span. doubt_of span.before span.text span.after;
}

-- the first runs of a text from a byte on, at most `most` of them, as they are written
abbrev pub spans_told : Search → List ℕ → ℕ → ℕ → List Span
spans_told search text from most =
    map (span_told search.doubt) (take most (left_by search.rule text (drop from text)))

-- these values are written at the start of the array, the values after them do not change, and
-- `count` is how many they are
abbrev pub Fills : {A : Type 0} → List A → List A → List A → ℕ → Type 0
Fills told old new count = (new ≡ told ++ drop (length told) old) × (count ≡ length told)

-- the result of finding runs from a byte on: the runs if a character begins there or the text ends
-- there, and otherwise NOT_UTF8
pub record FindsFrom (search : Search) (text : List ℕ) (from : ℕ) (old : List Span) (status : ℕ)
    (new : List Span) (count : ℕ) : Type 0 where
  pub found : IsCharBoundary text from
      → (status ≡ CN_DONE) × Fills (spans_told search text from (length old)) old new count
  pub none : ¬ IsCharBoundary text from
      → (status ≡ CN_NOT_UTF8) × (new ≡ old) × (count ≡ 0)

-- the characters that a search looks for, by whether it looks for the upper case and by the
-- greatest unit; none if either is not named
abbrev pub wanted_of : Option Bool → Option NumeralUnit → Option Wanted
wanted_of (Some upper) (Some greatest) = Some (record { upper = upper; greatest = greatest })
wanted_of upper greatest = None

-- the result of a search in bytes by a rule, or UNKNOWN if the characters to look for are not named
abbrev pub IsFoundAs : (Wanted → Search) → Option Wanted → List ℕ → ℕ → List Span → ℕ → List Span → ℕ
    → Type 0
IsFoundAs search (Some wanted) bytes from old status new count =
    MatchBool (is_utf8 bytes) (FindsFrom (search wanted) bytes from old status new count)
    ((status ≡ CN_NOT_UTF8) × (new ≡ old) × (count ≡ 0))
IsFoundAs search None bytes from old status new count =
    (status ≡ CN_UNKNOWN) × (new ≡ old) × (count ≡ 0)

-- the result of finding the numbers of bytes, given a code for whether the upper case is looked for
-- and the code of the greatest unit
abbrev pub IsFound : List ℕ → ℕ → ℕ → ℕ → List Span → ℕ → List Span → ℕ → Type 0
IsFound bytes from upper greatest old status new count =
    IsFoundAs number_search (wanted_of (slice_get uppers upper) (slice_get units greatest)) bytes
    from old status new count

-- the same for the expressions of bytes
abbrev pub IsQuantityFound : List ℕ → ℕ → ℕ → ℕ → List Span → ℕ → List Span → ℕ → Type 0
IsQuantityFound bytes from upper greatest old status new count =
    IsFoundAs expression_search (wanted_of (slice_get uppers upper) (slice_get units greatest)) bytes
    from old status new count
