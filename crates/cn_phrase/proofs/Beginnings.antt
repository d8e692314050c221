-- The forms that a text cannot begin, by its first characters, are not read.
use Rattle.std.proofs.Common.{◌≡◌, ℕ, ◌==◌, Bool, true, false, ◌&&◌, ◌||◌, if◌then◌else◌, cond, filter, arith, List, [], ◌∷◌, codes, Option, Some, None, refl, sym, ap, ◌∙◌}
use Rattle.std.proofs.lemmas.Bool.Decides.{nat_tests}
use Rattle.std.specs.Char.{char_set_contains}
use Rattle.std.specs.Option.{option_and_then}
use Rattle.cn_core.specs.FigureCharacters.{is_figure}
use Rattle.cn_find.proofs.Unwanted.{outside}
use Rattle.cn_replace.specs.Pieces.{after_leading, begins, leading}
use Rattle.cn_phrase.specs.declared.form.Form.{Form}
use Rattle.cn_phrase.specs.declared.form.Form.TheVariants as form
use Rattle.cn_phrase.specs.declared.phrase.Lead.{Lead}
use Rattle.cn_phrase.specs.declared.phrase.Lead.TheVariants.{Bare, HalfDay, Weekday}
use Rattle.cn_phrase.specs.declared.piece.Piece.{Piece}
use Rattle.cn_phrase.specs.declared.piece.Piece.TheVariants.{Slot, Fixed}
use Rattle.cn_phrase.specs.declared.shape.Shape.{Shape}
use Rattle.cn_phrase.specs.declared.word.Word.{Word}
use Rattle.cn_phrase.specs.declared.word.Word.TheVariants as word
use Rattle.cn_phrase.specs.Forms.{pieces_of}
use Rattle.cn_phrase.specs.Phrases.{after_lead, all_forms, clock_forms, form_read, further, furthest, is_blank, phrase_read}
use Rattle.cn_phrase.specs.Pieces.{Reading, is_numeral, pieces_read, slot_read, with_number, without_blank}
use Rattle.cn_phrase.specs.Private.{firsts, forms_at, forms_before, forms_with, has_first, may_lead}
use Rattle.cn_phrase.specs.Shapes.{value_of}
use Rattle.cn_phrase.specs.Words.{after_any, after_half_day, after_hour_word, after_one, after_weekday, after_word}
use Rattle.cn_phrase.proofs.Advances.{empty-none}

-- the words that come after the first number of a form
abbrev is_after_first : Word → Bool
is_after_first word.Fen = false
is_after_first word.Miao = false
is_after_first word.Half = false
is_after_first word.Ke = false
is_after_first word.Seconds = false
is_after_first word.PartOfMonth = false
is_after_first word.HalfDay = false
is_after_first word.Weekday = false
is_after_first other = true

module _ (c : ℕ) (text : List ℕ) where
  any-same : (these : List ℕ) → after_one these (c ∷ text) ≡ None
      → after_any these (c ∷ text) ≡ c ∷ text
  any-same these none = ap (λ (o : Option (List ℕ)). elim o [
    | None ↦ c ∷ text
    | Some rest ↦ rest
  ]) none

  -- no word of hours begins with another character
  hours-none : char_set_contains (firsts word.Hours) c ≡ false → after_word word.Hours (c ∷ text) ≡ None
  hours-none e =
      let within : ℕ → Bool = char_set_contains (firsts word.Hours) in
      ap after_hour_word (any-same (codes "个個") (rw (outside within (codes "个個") c refl e) refl))
      ∙ rw (outside within (codes "小") c refl e, outside within (codes "钟鐘") c refl e) refl

  word-none : (w : Word) → is_after_first w ≡ true → char_set_contains (firsts w) c ≡ false
      → after_word w (c ∷ text) ≡ None
  word-none word.Nian is e = rw e refl
  word-none word.Yue is e = rw e refl
  word-none word.Ri is e = rw e refl
  word-none word.Dian is e = rw e refl
  word-none word.Shi is e = rw e refl
  word-none word.Colon is e = rw e refl
  word-none word.Dash is e = rw e refl
  word-none word.Slash is e = rw e refl
  word-none word.Bi is e = rw e refl
  word-none word.Mi is e = rw e refl
  word-none word.Link is e = rw e refl
  word-none word.Hours is e = hours-none e
  word-none word.Minutes is e = rw e refl
  word-none word.HalfOf is e = rw e refl
  word-none word.HalfAfter is e = rw e refl
  word-none other is e = cc

word-nothing : (w : Word) → is_after_first w ≡ true → after_word w [] ≡ None
word-nothing word.Nian is = refl
word-nothing word.Yue is = refl
word-nothing word.Ri is = refl
word-nothing word.Dian is = refl
word-nothing word.Shi is = refl
word-nothing word.Colon is = refl
word-nothing word.Dash is = refl
word-nothing word.Slash is = refl
word-nothing word.Bi is = refl
word-nothing word.Mi is = refl
word-nothing word.Link is = refl
word-nothing word.Hours is = refl
word-nothing word.Minutes is = refl
word-nothing word.HalfOf is = refl
word-nothing word.HalfAfter is = refl
word-nothing other is = cc

-- the first word of these pieces, after a number, can begin a text by its first character
abbrev has_next : List ℕ → List Piece → Bool
has_next [] pieces = false
has_next (c ∷ text) pieces = has_first c pieces

not-after : (s : Shape) (w : Word) (pieces : List Piece) (text : List ℕ) → is_after_first w ≡ true
    → has_next text (Slot s ∷ Fixed w ∷ pieces) ≡ false → after_word w text ≡ None
not-after s w pieces [] is e = word-nothing w is
not-after s w pieces (c ∷ text) is e = word-none c text w is e

-- these pieces can begin with a text, by its first characters
abbrev fits : List ℕ → List Piece → Bool
fits text pieces =
    begins is_numeral text
    && has_next (without_blank (begins is_figure text) (after_leading is_numeral text)) pieces

-- what is read of a form at its start
abbrev start : List ℕ → Reading
start text = record {
  numbers = record { first = 0; second = 0; last = 0 };
  after_figure = false;
  rest = text;
}

-- a text that does not begin with a blank has none to leave out
no-blank : (text : List ℕ) → begins is_blank text ≡ false → without_blank false text ≡ text
unfolding is_blank
no-blank [] e = refl
no-blank (c ∷ []) e = refl
no-blank (c ∷ d ∷ text) e = by (c == 32) refl where
  by : (b : Bool) → (c == 32) ≡ b
      → (if b && (false || is_figure d) then d ∷ text else c ∷ d ∷ text) ≡ c ∷ d ∷ text
  by false f = refl
  by true f = let same : c ≡ 32 = grind (arith, nat_tests, f) in
      let blank : is_blank c ≡ true = ap is_blank same in
      let no : true ≡ false = sym blank ∙ e in cc

-- the pieces begin with a number and a word that comes after the first number of a form
abbrev are_of_form : List Piece → Bool
are_of_form (Slot s ∷ Fixed w ∷ pieces) = is_after_first w
are_of_form other = false

each-begins : (f : Form) → are_of_form (pieces_of f) ≡ true
each-begins form.YearMonthDay = refl
each-begins form.YearMonth = refl
each-begins form.MonthDay = refl
each-begins form.Year = refl
each-begins form.PartOfMonth = refl
each-begins form.DashDate = refl
each-begins form.SlashDate = refl
each-begins form.Years = refl
each-begins form.Months = refl
each-begins form.MonthsTwice = refl
each-begins form.Days = refl
each-begins form.DaysTwice = refl
each-begins form.LinkedMonth = refl
each-begins form.LinkedDay = refl
each-begins form.HourMinuteSecond = refl
each-begins form.HourMinute = refl
each-begins form.HourBare = refl
each-begins form.HourZero = refl
each-begins form.HourHalf = refl
each-begins form.HourQuarter = refl
each-begins form.ColonSecond = refl
each-begins form.ColonMinute = refl
each-begins form.HourAlone = refl
each-begins form.HoursMinutesSeconds = refl
each-begins form.HoursMinutes = refl
each-begins form.MinutesSeconds = refl
each-begins form.HalfOf = refl
each-begins form.HalfAfter = refl
each-begins form.LengthOne = refl
each-begins form.LengthTwo = refl
each-begins form.Score = refl
each-begins form.ColonScore = refl

no-leading : (text : List ℕ) → begins is_numeral text ≡ false → leading is_numeral text ≡ []
no-leading [] e = refl
no-leading (c ∷ text) e = rw e refl

module _ (text : List ℕ) (no_blank : begins is_blank text ≡ false) where
  -- there is no number, or no such word after it
  slot-word : (s : Shape) (w : Word) (pieces : List Piece) → is_after_first w ≡ true
      → fits text (Slot s ∷ Fixed w ∷ pieces) ≡ false
      → pieces_read (Slot s ∷ Fixed w ∷ pieces) (start text) ≡ None
  slot-word s w pieces is none =
      ap read (no-blank text no_blank) ∙ by (value_of s (leading is_numeral text)) refl where
        next : List ℕ
        next = without_blank (begins is_figure text) (after_leading is_numeral text)

        -- the reading of the pieces, given the text without a blank
        read : List ℕ → Option Reading
        read here = option_and_then (λ reading. pieces_read (Fixed w ∷ pieces) reading)
            (slot_read (record { first = 0; second = 0; last = 0 }) here
            (value_of s (leading is_numeral here)))

        -- the reading after a number
        after : ℕ → Option Reading
        after n = pieces_read (Fixed w ∷ pieces) (record {
          numbers = with_number (record { first = 0; second = 0; last = 0 }) n;
          after_figure = begins is_figure text;
          rest = after_leading is_numeral text;
        })

        no-word : (n : ℕ) → has_next next (Slot s ∷ Fixed w ∷ pieces) ≡ false → after n ≡ None
        no-word n e = rw (not-after s w pieces next is e) refl

        with-number : (n : ℕ) (b : Bool) → begins is_numeral text ≡ b
            → value_of s (leading is_numeral text) ≡ Some n → after n ≡ None
        with-number n true e f =
            no-word n (sym (ap (λ b. b && has_next next (Slot s ∷ Fixed w ∷ pieces)) e) ∙ none)
        with-number n false e f =
            let nothing : None ≡ Some n =
            sym (ap (value_of s) (no-leading text e) ∙ empty-none s) ∙ f in cc

        by : (o : Option ℕ) → value_of s (leading is_numeral text) ≡ o → read text ≡ None
        by None e = rw e refl
        by (Some n) e = rw e (with-number n (begins is_numeral text) refl e)

  pieces-none : (pieces : List Piece) → are_of_form pieces ≡ true → fits text pieces ≡ false
      → pieces_read pieces (start text) ≡ None
  pieces-none (Slot s ∷ Fixed w ∷ pieces) is none = slot-word s w pieces is none
  pieces-none other is none = cc

-- no form is read, so none is the furthest
furthest-none : (front text : List ℕ) (lead : Lead) (forms : List Form)
    → ((f : Form) → form_read lead f text ≡ None) → furthest front text lead forms ≡ None
furthest-none front text lead [] none = refl
furthest-none front text lead (f ∷ forms) none =
    rw (none f, furthest-none front text lead forms none) refl

-- the forms that are not read can be left out
furthest-filter : (front text : List ℕ) (lead : Lead) (p : Form → Bool) (forms : List Form)
    → ((f : Form) → p f ≡ false → form_read lead f text ≡ None)
    → furthest front text lead (filter p forms) ≡ furthest front text lead forms
furthest-filter front text lead p [] none = refl
furthest-filter front text lead p (f ∷ forms) none =
    by (p f) refl (furthest-filter front text lead p forms none) where
      by : (b : Bool) → p f ≡ b
          → furthest front text lead (filter p forms) ≡ furthest front text lead forms
          → furthest front text lead (cond b (f ∷ filter p forms) (filter p forms))
          ≡ further (phrase_read front text lead f) (furthest front text lead forms)
      by true e others = ap (further (phrase_read front text lead f)) others
      by false e others = rw (none f e) others

forms-fit : (text : List ℕ) → forms_at text ≡ filter (λ f. fits text (pieces_of f)) all_forms
unfolding forms_with
forms-fit text =
    by (begins is_numeral text) (without_blank (begins is_figure text) (after_leading is_numeral text))
  where
    by : (b : Bool) (next : List ℕ) → (if b then forms_before next else [])
        ≡ filter (λ f. b && has_next next (pieces_of f)) all_forms
    by false next = refl
    by true [] = refl
    by true (c ∷ next) = refl

pub no_others_begin : (front text : List ℕ)
    → furthest front text Bare (forms_at text) ≡ furthest front text Bare all_forms
no_others_begin front text = ap (furthest front text Bare) (forms-fit text)
    ∙ furthest-filter front text Bare (λ f. fits text (pieces_of f)) all_forms
    (λ f none. by f none (begins is_blank text) refl) where
      by : (f : Form) → fits text (pieces_of f) ≡ false → (b : Bool) → begins is_blank text ≡ b
          → form_read Bare f text ≡ None
      by f none true e = rw e refl
      by f none false e = rw e (rw (pieces-none text e (pieces_of f) (each-begins f) none) refl)

pub none-begins : (front text : List ℕ) → begins is_numeral text ≡ false
    → furthest front text Bare all_forms ≡ None
none-begins front text e =
    let none : forms_at text ≡ [] = rw e refl in
    sym (no_others_begin front text) ∙ ap (furthest front text Bare) none

pub nothing_leads : (front text : List ℕ) (lead : Lead) (forms : List Form)
    → after_lead lead text ≡ None → furthest front text lead forms ≡ None
nothing_leads front text lead forms none =
    furthest-none front text lead forms (λ f. rw none refl)

-- no word of half a day and no weekday begins here
module _ (front : List ℕ) where
  half_day-none : (text : List ℕ) → begins may_lead text ≡ false → after_half_day text ≡ None
  unfolding may_lead after_half_day
  half_day-none [] e = refl
  half_day-none (c ∷ text) e = rw (
    outside may_lead (codes "凌清早") c refl e,
    outside may_lead (codes "上中下正") c refl e,
    outside may_lead (codes "傍") c refl e,
    outside may_lead (codes "今明昨当當") c refl e,
    outside may_lead (codes "深半午") c refl e,
    outside may_lead (codes "早晚") c refl e,
    outside may_lead (codes "夜晚") c refl e,
    outside may_lead (codes "午") c refl e,
  ) refl

  weekday-none : (text : List ℕ) → begins may_lead text ≡ false → after_weekday text ≡ None
  unfolding may_lead after_weekday
  weekday-none [] e = refl
  weekday-none (c ∷ text) e = rw (
    outside may_lead (codes "周週") c refl e,
    outside may_lead (codes "星") c refl e,
    outside may_lead (codes "礼禮") c refl e,
  ) refl

  pub nothing_by_word : (text : List ℕ) → begins may_lead text ≡ false
      → further (furthest front text HalfDay clock_forms) (furthest front text Weekday clock_forms) ≡ None
  nothing_by_word text e = rw (
    nothing_leads front text HalfDay clock_forms (half_day-none text e),
    nothing_leads front text Weekday clock_forms (weekday-none text e),
  ) refl
