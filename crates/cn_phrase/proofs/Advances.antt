-- A phrase has at least one character.
use Rattle.std.proofs.Common.{◌≡◌, ℕ, ◌<◌, ◌≤◌, Bool, true, false, List, [], ◌∷◌, length, length-append, Option, Some, None, IfSome, refl, ap, arith, if◌then◌else◌}
use Rattle.std.specs.Option.{option_map}
use Rattle.cn_core.specs.FigureCharacters.{is_figure}
use Rattle.cn_replace.specs.Pieces.{after_leading, begins, leading}
use Rattle.cn_phrase.specs.declared.form.Form.{Form}
use Rattle.cn_phrase.specs.declared.form.Form.TheVariants as form
use Rattle.cn_phrase.specs.declared.phrase.Lead.{Lead}
use Rattle.cn_phrase.specs.declared.phrase.Lead.TheVariants.{Bare, HalfDay, Weekday}
use Rattle.cn_phrase.specs.declared.piece.Numbers.{Numbers}
use Rattle.cn_phrase.specs.declared.piece.Piece.{Piece}
use Rattle.cn_phrase.specs.declared.piece.Piece.TheVariants.{Slot, Fixed, NotBefore, End}
use Rattle.cn_phrase.specs.declared.shape.Shape.{Shape}
use Rattle.cn_phrase.specs.declared.shape.Shape.TheVariants as shape
use Rattle.cn_phrase.specs.declared.word.Word.TheVariants as word
use Rattle.cn_phrase.specs.Forms.{pieces_of}
use Rattle.cn_phrase.specs.Phrases.{Found, is_blank, after_lead, form_read, further, furthest, is_phrase, is_shorter, phrase_at, phrase_read, all_forms, clock_forms}
use Rattle.cn_phrase.specs.Pieces.{Reading, is_numeral, piece_read, pieces_read, slot_read, without_blank}
use Rattle.cn_phrase.specs.Shapes.{value_of}
use Rattle.cn_phrase.specs.Suffix.{EndsWith}
use Rattle.cn_phrase.proofs.Suffixes.{Within, within-piece, if-then, Ends-again, Ends-blank, Ends-leading, Ends-self, leaves-word, within-pieces}

-- a suffix is not longer
Ends-length : (text rest : List ℕ) → EndsWith text rest → length rest ≤ length text
Ends-length text rest ends =
    omega (arith, ap length ends.1, length-append ends.0 rest)

-- no number is empty
pub empty-none : (s : Shape) → value_of s [] ≡ None
empty-none shape.Year = refl
empty-none shape.FullYear = refl
empty-none shape.EraYear = refl
empty-none shape.Count = refl
empty-none shape.Clock = refl
empty-none shape.LongCount = refl
empty-none shape.ZeroDigit = refl
empty-none shape.Small = refl
empty-none shape.OneDigit = refl
empty-none shape.Quarter = refl
empty-none shape.TwoDigits = refl
empty-none shape.TwoFigures = refl
empty-none shape.FewFigures = refl

-- what is left after a slot is shorter
abbrev Shorter : List ℕ → Reading → Type 0
Shorter text reading = length reading.rest < length text

shorter-slot : (numbers : Numbers) (s : Shape) (text : List ℕ)
    → IfSome (slot_read numbers text (value_of s (leading is_numeral text))) (Shorter text)
shorter-slot numbers s [] = rw (empty-none s) tt
shorter-slot numbers s (c ∷ text) = by (is_numeral c) where
  more : (o : Option ℕ) → IfSome (option_map (λ n. record {
    numbers = record { first = numbers.second; second = numbers.last; last = n };
    after_figure = begins is_figure (c ∷ text);
    rest = after_leading is_numeral text;
  }) o) (Shorter (c ∷ text))
  more None = tt
  more (Some n) =
      let less = Ends-length text (after_leading is_numeral text) (Ends-leading is_numeral text) in
      omega (arith, less)

  by : (b : Bool) → IfSome (option_map (λ n. record {
    numbers = record { first = numbers.second; second = numbers.last; last = n };
    after_figure = begins is_figure (c ∷ text);
    rest = if b then after_leading is_numeral text else c ∷ text;
  }) (value_of s (if b then c ∷ leading is_numeral text else []))) (Shorter (c ∷ text))
  by true = more (value_of s (c ∷ leading is_numeral text))
  by false = rw (empty-none s) tt

-- each form begins with a slot
abbrev begins_with_slot : List Piece → Bool
begins_with_slot (Slot s ∷ pieces) = true
begins_with_slot pieces = false

slot-first : (f : Form) → begins_with_slot (pieces_of f) ≡ true
slot-first form.YearMonthDay = refl
slot-first form.YearMonth = refl
slot-first form.MonthDay = refl
slot-first form.Year = refl
slot-first form.PartOfMonth = refl
slot-first form.DashDate = refl
slot-first form.SlashDate = refl
slot-first form.Years = refl
slot-first form.Months = refl
slot-first form.MonthsTwice = refl
slot-first form.Days = refl
slot-first form.DaysTwice = refl
slot-first form.LinkedMonth = refl
slot-first form.LinkedDay = refl
slot-first form.HourMinuteSecond = refl
slot-first form.HourMinute = refl
slot-first form.HourBare = refl
slot-first form.HourZero = refl
slot-first form.HourHalf = refl
slot-first form.HourQuarter = refl
slot-first form.ColonSecond = refl
slot-first form.ColonMinute = refl
slot-first form.HourAlone = refl
slot-first form.HoursMinutesSeconds = refl
slot-first form.HoursMinutes = refl
slot-first form.MinutesSeconds = refl
slot-first form.HalfOf = refl
slot-first form.HalfAfter = refl
slot-first form.LengthOne = refl
slot-first form.LengthTwo = refl
slot-first form.Score = refl
slot-first form.ColonScore = refl

-- what is left after pieces that begin with a slot is a suffix, and shorter
abbrev Advances : List ℕ → Reading → Type 0
Advances text reading = EndsWith text reading.rest × (length reading.rest < length text)

abbrev start_of : List ℕ → Reading
start_of text = record {
  numbers = record { first = 0; second = 0; last = 0 };
  after_figure = false;
  rest = text;
}

if-both : {A : Type 0} (P Q : A → Type 0) (o : Option A) → IfSome o P → IfSome o Q
    → IfSome o (λ x. P x × Q x)
if-both P Q None h k = tt
if-both P Q (Some x) h k = (h, k)

if-more : {A : Type 0} (P Q : A → Type 0) (o : Option A) → IfSome o P → ((x : A) → P x → Q x)
    → IfSome o Q
if-more P Q None h k = tt
if-more P Q (Some x) h k = k x h

advances-more : (text : List ℕ) (pieces : List Piece) (reading : Reading) → Advances text reading
    → IfSome (pieces_read pieces reading) (Advances text)
advances-more text pieces reading h =
    if-more (Within reading.rest) (Advances text) (pieces_read pieces reading)
    (within-pieces reading.rest pieces reading (Ends-self reading.rest)) (λ next ends.
    let less = Ends-length reading.rest next.rest ends in
    let short = h.1 in (
      Ends-again text reading.rest next.rest h.0 ends,
      omega (arith, less, short),
    ))

advances-slot : (text : List ℕ) (s : Shape)
    → IfSome (piece_read (Slot s) (start_of text)) (Advances text)
advances-slot text s =
    let start = without_blank false text in
    if-more (λ r. Within text r × Shorter start r) (Advances text) (piece_read (Slot s) (start_of text))
    (if-both (Within text) (Shorter start) (piece_read (Slot s) (start_of text))
    (within-piece text (Slot s) (start_of text) (Ends-self text))
    (shorter-slot (record { first = 0; second = 0; last = 0 }) s start)) (λ r h.
    let less = Ends-length text start (Ends-blank false text) in
    let short = h.1 in (h.0, omega (arith, less, short)))

advances-pieces : (text : List ℕ) (pieces : List Piece) → begins_with_slot pieces ≡ true
    → IfSome (pieces_read pieces (start_of text)) (Advances text)
advances-pieces text [] h = absurd (cc)
advances-pieces text (Slot s ∷ pieces) h =
    if-then (Advances text) (Advances text) (λ next. pieces_read pieces next)
    (piece_read (Slot s) (start_of text)) (advances-slot text s)
    (λ next k. advances-more text pieces next k)
advances-pieces text (Fixed w ∷ pieces) h = absurd (cc)
advances-pieces text (NotBefore guard ∷ pieces) h = absurd (cc)
advances-pieces text (End ∷ pieces) h = absurd (cc)

-- what is left of a text after a phrase is a suffix of it, and shorter
abbrev pub IsAhead : List ℕ → Found → Type 0
IsAhead text found = EndsWith text found.rest × (length found.rest < length text)

pub ahead-lead : (lead : Lead) (text : List ℕ) → IfSome (after_lead lead text) (EndsWith text)
ahead-lead Bare text = by (begins is_blank text) where
  by : (b : Bool) → IfSome (if b then None else Some text) (EndsWith text)
  by true = tt
  by false = Ends-self text
ahead-lead HalfDay text = leaves-word word.HalfDay text
ahead-lead Weekday text = leaves-word word.Weekday text

ahead-form : (lead : Lead) (f : Form) (text : List ℕ) → IfSome (form_read lead f text) (IsAhead text)
ahead-form lead f text =
    if-then (EndsWith text) (IsAhead text) (λ start. option_map (λ reading. record {
      lead = lead;
      form = f;
      numbers = reading.numbers;
      rest = reading.rest;
    }) (pieces_read (pieces_of f) (start_of start))) (after_lead lead text) (ahead-lead lead text)
    (λ start ends. by start ends (pieces_read (pieces_of f) (start_of start))
    (advances-pieces start (pieces_of f) (slot-first f))) where
      by : (start : List ℕ) → EndsWith text start → (o : Option Reading) → IfSome o (Advances start)
          → IfSome (option_map (λ reading. record {
            lead = lead;
            form = f;
            numbers = reading.numbers;
            rest = reading.rest;
          }) o) (IsAhead text)
      by start ends None h = tt
      by start ends (Some reading) h =
          let less = Ends-length text start ends in
          let short = h.1 in
          (Ends-again text start reading.rest ends h.0, omega (arith, less, short))

ahead-phrase : (front text : List ℕ) (lead : Lead) (f : Form)
    → IfSome (phrase_read front text lead f) (IsAhead text)
ahead-phrase front text lead f =
    if-then (IsAhead text) (IsAhead text) (λ found. if is_phrase front found then Some found else None)
    (form_read lead f text) (ahead-form lead f text) (λ found h. by (is_phrase front found) found h) where
      by : (b : Bool) (found : Found) → IsAhead text found
          → IfSome (if b then Some found else None) (IsAhead text)
      by true found h = h
      by false found h = tt

ahead-further : (text : List ℕ) (one other : Option Found) → IfSome one (IsAhead text)
    → IfSome other (IsAhead text) → IfSome (further one other) (IsAhead text)
ahead-further text None other h k = k
ahead-further text (Some a) None h k = h
ahead-further text (Some a) (Some b) h k = by (is_shorter b.rest a.rest) where
  by : (c : Bool) → IfSome (if c then Some b else Some a) (IsAhead text)
  by true = k
  by false = h

ahead-furthest : (front text : List ℕ) (lead : Lead) (forms : List Form)
    → IfSome (furthest front text lead forms) (IsAhead text)
ahead-furthest front text lead [] = tt
ahead-furthest front text lead (f ∷ forms) =
    ahead-further text (phrase_read front text lead f) (furthest front text lead forms)
    (ahead-phrase front text lead f) (ahead-furthest front text lead forms)

pub phrase_ahead : (front text : List ℕ) → IfSome (phrase_at front text) (IsAhead text)
phrase_ahead front text =
    ahead-further text (furthest front text Bare all_forms)
    (further (furthest front text HalfDay clock_forms) (furthest front text Weekday clock_forms))
    (ahead-furthest front text Bare all_forms)
    (ahead-further text (furthest front text HalfDay clock_forms)
    (furthest front text Weekday clock_forms) (ahead-furthest front text HalfDay clock_forms)
    (ahead-furthest front text Weekday clock_forms))
