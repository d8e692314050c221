-- What the calls that speak a text and find what speech leaves write and return.
use Rattle.std.specs.Prelude.{◌≡◌, ℕ, nat_le, List, chars, drop, length, map, take, Option, Some, None, IsCharBoundary, slice_get}
use Rattle.std.specs.Bool.{MatchBool}
use Rattle.std.specs.Option.{option_map}
use Rattle.std.specs.Str.{is_utf8}
use Rattle.chinese_number.specs.declared.ChineseCountMethod.{ChineseCountMethod}
use Rattle.chinese_number.specs.declared.ChineseVariant.{ChineseVariant}
use Rattle.cn_find.specs.declared.doubt.Doubt.{Doubt}
use Rattle.cn_find.specs.declared.wanted.Wanted.{Wanted}
use Rattle.cn_find.specs.Doubt.{doubt_of}
use Rattle.cn_find.specs.Spans.{Span as SpanOfText, in_front, text_before}
use Rattle.cn_speech.specs.declared.voice.One.{One}
use Rattle.cn_speech.specs.declared.voice.Voice.{Voice}
use Rattle.cn_speech.specs.Meant.{as_meant}
use Rattle.cn_speech.specs.Speech.{left_from, text_in_speech}
use Rattle.cn_dynamic.specs.declared.Way.TheVariants.{Units}
use Rattle.cn_dynamic.specs.Either.{written_method}
use Rattle.cn_c.specs.declared.codes.NamedWay.{NamedWay}
use Rattle.cn_c.specs.declared.codes.NamedWay.TheVariants.{By, Either}
use Rattle.cn_c.specs.declared.finding.Span.{Span}
use Rattle.cn_c.specs.Codes.{named_ways, ones, scripts, units, uppers, CN_DONE, CN_NO_ROOM, CN_NOT_UTF8, CN_UNKNOWN}
use Rattle.cn_c.specs.Finds.{Fills, span_told, wanted_of}
use Rattle.cn_c.specs.Prints.{PutsNothing}
use Rattle.cn_c.specs.Replaces.{PutsText}

-- the method by which numbers are spoken, all of which are below 10^16: that of a way with units, and
-- for either way that of the script
abbrev pub spoken_method : Option NamedWay → ChineseVariant → Option ChineseCountMethod
spoken_method (Some (By (Units method))) script = Some method
spoken_method (Some Either) script = Some (written_method script 0)
spoken_method way script = None

-- how a text is spoken: none if a method, a script or the options are not named
abbrev pub voice_of : Option NamedWay → Option ChineseVariant → Option One → Option Voice
voice_of way (Some variant) (Some one) = option_map
    (λ method. record { variant = variant; method = method; one = one }) (spoken_method way variant)
voice_of way variant one = None

-- the result of speaking bytes, with a buffer of `most` bytes for the text as it is meant, or UNKNOWN if
-- a code or the options name nothing
abbrev pub IsSpokenAs : Option Wanted → Option Voice → List ℕ → ℕ → List ℕ → ℕ → List ℕ → ℕ → Type 0
IsSpokenAs (Some wanted) (Some voice) bytes most old status new len =
    MatchBool (is_utf8 bytes)
    (MatchBool (nat_le (length (as_meant bytes)) most)
    (PutsText (text_in_speech voice wanted bytes) old status new len)
    (PutsNothing CN_NO_ROOM old status new len))
    (PutsNothing CN_NOT_UTF8 old status new len)
IsSpokenAs wanted voice bytes most old status new len = PutsNothing CN_UNKNOWN old status new len

-- the result of speaking bytes, given a code for whether the upper case is looked for, the codes of the
-- greatest unit, of a method and of a script, and the options
abbrev pub IsSpoken : List ℕ → ℕ → ℕ → ℕ → ℕ → ℕ → ℕ → List ℕ → ℕ → List ℕ → ℕ → Type 0
IsSpoken bytes upper greatest method script options most old status new len =
    IsSpokenAs (wanted_of (slice_get uppers upper) (slice_get units greatest))
    (voice_of (slice_get named_ways method) (slice_get scripts script) (slice_get ones options))
    bytes most old status new len

-- why a part of a text may mean something else
abbrev pub doubt_in_text : SpanOfText → Option Doubt
doubt_in_text span = doubt_of span.before span.text span.after

-- the first parts that are left from a byte of a text on, at most `most` of them, as they are written
abbrev pub left_told : Wanted → List ℕ → List ℕ → ℕ → ℕ → List Span
left_told wanted text meant from most =
    map (span_told doubt_in_text) (take most
    (left_from wanted 0 (in_front (text_before meant (drop from meant))) (chars (drop from meant))
    (in_front (text_before text (drop from text))) (chars (drop from text))))

-- the result of finding these parts: they, if a character of both texts begins at that byte or the text
-- ends there, and otherwise NOT_UTF8
pub record FindsLeft (wanted : Wanted) (text meant : List ℕ) (from : ℕ) (old : List Span) (status : ℕ)
    (new : List Span) (count : ℕ) : Type 0 where
  pub found : IsCharBoundary text from → IsCharBoundary meant from
      → (status ≡ CN_DONE) × Fills (left_told wanted text meant from (length old)) old new count
  pub none : ¬ IsCharBoundary text from
      → (status ≡ CN_NOT_UTF8) × (new ≡ old) × (count ≡ 0)
  pub none_meant : ¬ IsCharBoundary meant from
      → (status ≡ CN_NOT_UTF8) × (new ≡ old) × (count ≡ 0)

-- nothing is found, and this is the status
abbrev pub FindsNothing : ℕ → List Span → ℕ → List Span → ℕ → Type 0
FindsNothing why old status new count = (status ≡ why) × (new ≡ old) × (count ≡ 0)

-- the result of finding what is left in bytes, with a buffer of `most` bytes for the text as it is meant,
-- or UNKNOWN if the characters to look for are not named
abbrev pub IsLeftFoundAs : Option Wanted → List ℕ → ℕ → ℕ → List Span → ℕ → List Span → ℕ → Type 0
IsLeftFoundAs (Some wanted) bytes from most old status new count =
    MatchBool (is_utf8 bytes)
    (MatchBool (nat_le (length (as_meant bytes)) most)
    (FindsLeft wanted bytes (as_meant bytes) from old status new count)
    (FindsNothing CN_NO_ROOM old status new count))
    (FindsNothing CN_NOT_UTF8 old status new count)
IsLeftFoundAs None bytes from most old status new count =
    FindsNothing CN_UNKNOWN old status new count

-- the result of finding what is left, given a code for whether the upper case is looked for and the code
-- of the greatest unit
abbrev pub IsLeftFound : List ℕ → ℕ → ℕ → ℕ → ℕ → List Span → ℕ → List Span → ℕ → Type 0
IsLeftFound bytes from upper greatest most old status new count =
    IsLeftFoundAs (wanted_of (slice_get uppers upper) (slice_get units greatest)) bytes from most old
    status new count
