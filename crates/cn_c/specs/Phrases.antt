-- What the calls that find phrases and read ranges write and return.
use Rattle.std.specs.Prelude.{◌≡◌, ℕ, ◌+◌, ◌*◌, Bool, List, length, take, drop, map, Option, Some, None, IsCharBoundary, slice_get}
use Rattle.std.specs.Bool.{MatchBool}
use Rattle.std.specs.Str.{is_utf8}
use Rattle.chinese_number.specs.declared.Wanted.{Wanted}
use Rattle.cn_find.specs.Doubt.{doubt_of}
use Rattle.cn_find.specs.Spans.{Span}
use Rattle.cn_phrase.specs.declared.described.Described.{Described}
use Rattle.cn_phrase.specs.declared.described.PhraseKind.{PhraseKind}
use Rattle.cn_phrase.specs.declared.described.PhraseKind.TheVariants as kind
use Rattle.cn_phrase.specs.declared.described.PhraseState.{PhraseState}
use Rattle.cn_phrase.specs.declared.described.PhraseState.TheVariants.{Certain, Doubtful, Refused}
use Rattle.cn_phrase.specs.declared.range.QuantityRange.{QuantityRange}
use Rattle.cn_phrase.specs.Described.{described}
use Rattle.cn_phrase.specs.Items.{items_left}
use Rattle.cn_phrase.specs.Ranges.{range_of}
use Rattle.cn_c.specs.declared.phrases.Phrase.{Phrase}
use Rattle.cn_c.specs.declared.quantity.Quantity.{Quantity}
use Rattle.cn_c.specs.Codes.{units, uppers, CN_PHRASE_KIND_EXPRESSION, CN_PHRASE_KIND_DATE, CN_PHRASE_KIND_YEARS, CN_PHRASE_KIND_MONTHS, CN_PHRASE_KIND_DAYS, CN_PHRASE_KIND_TIME, CN_PHRASE_KIND_DURATION, CN_PHRASE_KIND_HALF, CN_PHRASE_KIND_LENGTH, CN_PHRASE_KIND_SCORE, CN_PHRASE_KIND_RANGE, CN_PHRASE_KIND_MONEY, CN_PHRASE_STATE_CERTAIN, CN_PHRASE_STATE_DOUBTFUL, CN_PHRASE_STATE_REFUSED, CN_DONE, CN_INCORRECT, CN_NOT_UTF8, CN_UNKNOWN}
use Rattle.cn_c.specs.Finds.{Fills, doubt_code, flags_told, wanted_of}
use Rattle.cn_c.specs.Quantities.{IsTold, no_quantity}

-- the code of a kind
abbrev pub kind_code : PhraseKind → ℕ
kind_code kind.Expression = CN_PHRASE_KIND_EXPRESSION
kind_code kind.Date = CN_PHRASE_KIND_DATE
kind_code kind.Years = CN_PHRASE_KIND_YEARS
kind_code kind.Months = CN_PHRASE_KIND_MONTHS
kind_code kind.Days = CN_PHRASE_KIND_DAYS
kind_code kind.Time = CN_PHRASE_KIND_TIME
kind_code kind.Duration = CN_PHRASE_KIND_DURATION
kind_code kind.Half = CN_PHRASE_KIND_HALF
kind_code kind.Length = CN_PHRASE_KIND_LENGTH
kind_code kind.Score = CN_PHRASE_KIND_SCORE
kind_code kind.Range = CN_PHRASE_KIND_RANGE
kind_code kind.Money = CN_PHRASE_KIND_MONEY

-- the code of a state
abbrev pub state_code : PhraseState → ℕ
state_code Certain = CN_PHRASE_STATE_CERTAIN
state_code Doubtful = CN_PHRASE_STATE_DOUBTFUL
state_code Refused = CN_PHRASE_STATE_REFUSED

-- the position of an item, and what it is
abbrev pub phrase_as : Span → Described → Phrase
phrase_as span item = record {
  start = length span.before;
  end = length span.before + length span.text;
  split = item.split;
  kind = kind_code item.kind;
  state = state_code item.state;
  flags = flags_told span + doubt_code (doubt_of span.before span.text span.after) * 16;
  first = item.numbers.first;
  second = item.numbers.second;
  third = item.numbers.third;
  fourth = item.numbers.fourth;
}

abbrev pub phrase_told : Wanted → Span → Phrase
phrase_told wanted span = phrase_as span (described wanted span)

-- the first items of a text from a byte on, at most `most` of them, as they are written
abbrev pub phrases_told : Wanted → List ℕ → ℕ → ℕ → List Phrase
phrases_told wanted text from most =
    map (phrase_told wanted) (take most (items_left wanted text (drop from text)))

-- the result of finding items from a byte on: the items if a character begins there or the text ends
-- there, and otherwise NOT_UTF8
pub record FindsPhrases (wanted : Wanted) (text : List ℕ) (from : ℕ) (old : List Phrase) (status : ℕ)
    (new : List Phrase) (count : ℕ) : Type 0 where
  pub found : IsCharBoundary text from
      → (status ≡ CN_DONE) × Fills (phrases_told wanted text from (length old)) old new count
  pub none : ¬ IsCharBoundary text from
      → (status ≡ CN_NOT_UTF8) × (new ≡ old) × (count ≡ 0)

-- the result of a search in bytes, or UNKNOWN if the characters to look for are not named
abbrev pub IsPhraseFoundAs : Option Wanted → List ℕ → ℕ → List Phrase → ℕ → List Phrase → ℕ → Type 0
IsPhraseFoundAs (Some wanted) bytes from old status new count =
    MatchBool (is_utf8 bytes) (FindsPhrases wanted bytes from old status new count)
    ((status ≡ CN_NOT_UTF8) × (new ≡ old) × (count ≡ 0))
IsPhraseFoundAs None bytes from old status new count =
    (status ≡ CN_UNKNOWN) × (new ≡ old) × (count ≡ 0)

-- the result of finding the items of bytes, given a code for whether the upper case is looked for and
-- the code of the greatest unit
abbrev pub IsPhraseFound : List ℕ → ℕ → ℕ → ℕ → List Phrase → ℕ → List Phrase → ℕ → Type 0
IsPhraseFound bytes from upper greatest old status new count =
    IsPhraseFoundAs (wanted_of (slice_get uppers upper) (slice_get units greatest)) bytes from old
    status new count

-- the ends of a range are written, or nothing if there is none
abbrev pub TellsRange : Option QuantityRange → ℕ → Quantity → Quantity → Type 0
TellsRange (Some range) status low high =
    (status ≡ CN_DONE) × IsTold range.low low × IsTold range.high high
TellsRange None status low high =
    (status ≡ CN_INCORRECT) × (low ≡ no_quantity 0 0) × (high ≡ no_quantity 0 0)

-- nothing is written, since one of the ends is not UTF-8
abbrev pub TellsNoText : ℕ → Quantity → Quantity → Type 0
TellsNoText status low high =
    (status ≡ CN_NOT_UTF8) × (low ≡ no_quantity 0 0) × (high ≡ no_quantity 0 0)

-- the result of reading the two ends of a range
abbrev pub IsRangeRead : List ℕ → List ℕ → ℕ → Quantity → Quantity → Type 0
IsRangeRead first second status low high =
    MatchBool (is_utf8 first)
    (MatchBool (is_utf8 second) (TellsRange (range_of first second) status low high)
    (TellsNoText status low high))
    (TellsNoText status low high)
