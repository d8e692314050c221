-- The expressions of a text in figures.
use Rattle.std.specs.Prelude.{ℕ, Bool, true, false, not, ◌&&◌, ◌||◌, List, codes, chars, Option, Some, None, is_some, is_ok, if◌then◌else◌}
use Rattle.std.specs.Char.{char_set_contains}
use Rattle.std.specs.List.{list_any}
use Rattle.cn_core.specs.declared.method.ChineseCountMethod.{ChineseCountMethod}
use Rattle.cn_find.specs.declared.doubt.Doubt.{Doubt}
use Rattle.cn_find.specs.declared.doubt.Doubt.TheVariants.{Part}
use Rattle.cn_find.specs.declared.wanted.Wanted.{Wanted}
use Rattle.cn_find.specs.Doubt.{doubt_of}
use Rattle.cn_find.specs.Flags.{is_about, is_one_character}
use Rattle.cn_find.specs.Spans.{Span, expressions, in_front}
use Rattle.cn_find.specs.Belongs.{begins_with}
use Rattle.cn_find.specs.Words.{begins_with_two, is_exactly}
use Rattle.cn_quantity.specs.Ratio.{is_fraction}
use Rattle.cn_quantity.specs.Reading.{quantity_answer}
use Rattle.cn_replace.specs.declared.options.Figures.{Figures}
use Rattle.cn_replace.specs.declared.options.Included.{Included}
use Rattle.cn_replace.specs.declared.options.Style.{Style}
use Rattle.cn_replace.specs.declared.options.Style.TheVariants.{Kept, Expanded}
use Rattle.cn_replace.specs.Canonical.{are_figures, canonical_text}
use Rattle.cn_replace.specs.Chains.{in_chains}
use Rattle.cn_replace.specs.Clings.{clings}
use Rattle.cn_replace.specs.Kept.{kept_text}
use Rattle.cn_replace.specs.KeptNumbers.{quantity_figures}
use Rattle.cn_core.specs.FigureCharacters.{is_figure}
use Rattle.cn_replace.specs.Pieces.{is_unit_from, is_zero}

-- whether a doubt is included; that of a part never is
abbrev pub is_doubt_included : Included → Option Doubt → Bool
is_doubt_included included None = true
is_doubt_included included (Some Part) = false
is_doubt_included included (Some doubt) = included.doubtful

-- the text begins with a unit of measure, of money or of time
abbrev pub begins_unit : List ℕ → Bool
begins_unit after =
    begins_with (codes "元米克吨噸升秒度号號岁歲") after
    || (begins_with_two (codes "公厘釐毫千平立") (codes "里斤顷頃尺米克升方") after
    || (begins_with_two (codes "分小") (codes "钟鐘时時") after
    || (begins_with_two (codes "美欧歐日港") (codes "元") after
    || begins_with_two (codes "百") (codes "分") after)))

-- an expression is one character that stays: 十 before such a unit, or after 每, does not, unless it is the
-- second of two, as in 五公里到十公里. Of the characters before it the nearest is the first
abbrev pub is_short : List ℕ → List ℕ → List ℕ → Bool
is_short front text after =
    is_one_character text
    && not (is_exactly (codes "十") text && ((begins_unit after || begins_with (codes "每") front)
    && not (begins_with (codes "到至、和与與或") front)))

-- an expression is included: if it is a character that stays, approximate or doubtful, expressions of
-- that kind are included
abbrev pub is_included : Included → Span → Bool
is_included included span =
    (included.one_character || not (is_short (in_front span.before) (chars span.text) (chars span.after)))
    && ((included.about || not (is_about (chars span.before) (chars span.text) (chars span.after)))
    && is_doubt_included included (doubt_of span.before span.text span.after))

-- an expression may have a new text: it is included, does not cling to anything, and is read as a
-- quantity
unfoldable pub may_change : ChineseCountMethod → Included → Span → Bool
may_change method included span =
    is_included included span
    && (not (clings (chars span.before) (chars span.after))
    && is_ok (quantity_answer method span.text))

-- the text has a figure and no 分之
abbrev pub is_in_figures : List ℕ → Bool
is_in_figures text = list_any is_figure text && not (is_fraction text)

-- the text has a unit above 個, or a zero that is not a figure
abbrev pub has_unit_or_zero : List ℕ → Bool
has_unit_or_zero text = list_any (λ c. is_unit_from 1 c || is_zero c) text

-- the character is 又
unfoldable pub is_again : ℕ → Bool
is_again c = char_set_contains (codes "又") c

-- the new text, in a style, of an expression that is not figures alone
unfoldable pub styled_text : ChineseCountMethod → Style → List ℕ → Option (List ℕ)
styled_text method Kept text =
    if is_in_figures text || list_any is_again text then None else kept_text method text
styled_text method Expanded text =
    if is_in_figures text && not (has_unit_or_zero text) then None
    else quantity_figures method text

-- the new text of an expression, given its characters
unfoldable pub written_text : ChineseCountMethod → Figures → List ℕ → Option (List ℕ)
written_text method options text =
    if are_figures text then (if options.canonical then Some (canonical_text text) else None)
    else styled_text method options.style text

-- the new text of an expression, if it has one
unfoldable pub figures_for : ChineseCountMethod → Figures → Span → Option (List ℕ)
figures_for method options span =
    if may_change method options.included span
    then written_text method options (chars span.text) else None

-- an expression without figures that is left unchanged holds all that it is joined to
unfoldable pub holds_others : ChineseCountMethod → Figures → Span → Bool
holds_others method options span =
    not (list_any is_figure (chars span.text)) && not (is_some (figures_for method options span))

-- a text with its expressions in figures
unfoldable pub in_figures : ChineseCountMethod → Figures → Wanted → List ℕ → List ℕ
in_figures method options wanted bytes =
    in_chains (figures_for method options) (holds_others method options) bytes
    (expressions wanted bytes)
