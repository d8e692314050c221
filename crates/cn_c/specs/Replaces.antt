-- What the calls that write a text in figures write and return.
use Rattle.std.specs.Prelude.{◌≡◌, ℕ, ◌-◌, ◌%◌, ◌^◌, ◌==◌, min, nat_le, nat_lt, Bool, ◌&&◌, List, ◌++◌, length, drop, Option, Some, None, slice_get, if◌then◌else◌}
use Rattle.std.specs.Bool.{MatchBool}
use Rattle.std.specs.Str.{is_utf8}
use Rattle.chinese_number.specs.declared.ChineseCountMethod.{ChineseCountMethod}
use Rattle.chinese_number.specs.declared.Unit.{Unit as NumeralUnit}
use Rattle.cn_replace.specs.declared.options.Figures.{Figures}
use Rattle.cn_replace.specs.declared.options.Style.{Style}
use Rattle.cn_replace.specs.declared.options.Style.TheVariants.{Kept, Expanded}
use Rattle.cn_find.specs.declared.wanted.Wanted.{Wanted}
use Rattle.cn_c.specs.Codes.{has_flag, named_ways, units, uppers, CN_ABOUT, CN_CANONICAL, CN_CODES, CN_COMPACT, CN_DOUBTFUL, CN_EXPANDED, CN_ONE_CHARACTER, CN_DONE, CN_NO_ROOM, CN_NOT_UTF8, CN_UNKNOWN}
use Rattle.cn_c.specs.Prints.{PutsNothing}
use Rattle.cn_c.specs.Quantities.{method_of}

-- the style that the flags name
abbrev pub style_of : ℕ → Style
style_of flags = if has_flag flags CN_EXPANDED then Expanded else Kept

-- how quantities are written in figures, given a sum of any of seven flags
abbrev pub figures_of : ℕ → Option Figures
figures_of flags =
    if flags % 4 == 0 && nat_lt flags 512 then Some (record {
      included = record {
        about = has_flag flags CN_ABOUT;
        one_character = has_flag flags CN_ONE_CHARACTER;
        doubtful = has_flag flags CN_DOUBTFUL;
      };
      style = style_of flags;
      canonical = has_flag flags CN_CANONICAL;
      compact = has_flag flags CN_COMPACT;
      codes = has_flag flags CN_CODES;
    }) else None

-- the length of a text is written, at most 2^64 - 1, and the text is written at the start of the
-- buffer if it fits. If it does not fit, nothing is said about the contents of the buffer
abbrev pub PutsText : List ℕ → List ℕ → ℕ → List ℕ → ℕ → Type 0
PutsText text old status new len =
    (len ≡ min (length text) (2 ^ 64 - 1))
    × MatchBool (nat_le (length text) (length old))
    ((status ≡ CN_DONE) × (new ≡ text ++ drop (length text) old)) (status ≡ CN_NO_ROOM)

-- how a text is written in figures
abbrev pub InFigures : Type 0
InFigures = ChineseCountMethod → Figures → Wanted → List ℕ → List ℕ

-- the result of writing bytes in figures, or UNKNOWN if a code or the flags name nothing
abbrev pub IsReplacedAs : InFigures → Option Bool → Option NumeralUnit → Option ChineseCountMethod
    → Option Figures → List ℕ → List ℕ → ℕ → List ℕ → ℕ → Type 0
IsReplacedAs new_text (Some upper) (Some greatest) (Some method) (Some figures) bytes old status new len =
    MatchBool (is_utf8 bytes)
    (PutsText (new_text method figures (record { upper = upper; greatest = greatest }) bytes) old status
    new len)
    (PutsNothing CN_NOT_UTF8 old status new len)
IsReplacedAs new_text upper greatest method figures bytes old status new len =
    PutsNothing CN_UNKNOWN old status new len

-- the result of writing bytes in figures, given a code for whether the upper case is looked for, the
-- codes of the greatest unit and of a method, and the flags
abbrev pub IsReplaced : InFigures → List ℕ → ℕ → ℕ → ℕ → ℕ → List ℕ → ℕ → List ℕ → ℕ → Type 0
IsReplaced new_text bytes upper greatest method included old status new len =
    IsReplacedAs new_text (slice_get uppers upper) (slice_get units greatest)
    (method_of (slice_get named_ways method)) (figures_of included) bytes old status new len
