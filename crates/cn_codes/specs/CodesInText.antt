-- A text with its codes, phrases and expressions in figures.
use Rattle.std.specs.Prelude.{ℕ, nat_lt, Bool, true, false, not, ◌&&◌, ◌||◌, List, [], ◌∷◌, ◌++◌, length, chars, encode_utf8_all, Option, Some, None, is_some, if◌then◌else◌}
use Rattle.std.specs.Option.{option_and_then, option_map, option_map_or, option_or}
use Rattle.cn_core.specs.declared.method.ChineseCountMethod.{ChineseCountMethod}
use Rattle.cn_core.specs.Characters.{digit_of, rank_of}
use Rattle.cn_find.specs.declared.wanted.Wanted.{Wanted}
use Rattle.cn_find.specs.Spans.{Span, in_front}
use Rattle.cn_replace.specs.declared.options.Figures.{Figures}
use Rattle.cn_replace.specs.Chains.{in_chains}
use Rattle.cn_replace.specs.Pieces.{begins}
use Rattle.cn_phrase.specs.InText.{text_in_figures, item_holds, text_for_item}
use Rattle.cn_phrase.specs.Items.{Item, expression, item_at, rest_of}
use Rattle.cn_codes.specs.declared.with_codes.Written.{Written as CodeWritten}
use Rattle.cn_codes.specs.declared.with_codes.Written.TheVariants as written
use Rattle.cn_codes.specs.Codes.{Code, code_at, code_of}
use Rattle.cn_codes.specs.CodesInFigures.{code_text, is_single, single_text}
use Rattle.cn_codes.specs.Tens.{tens_version_at}
use Rattle.cn_codes.specs.Parts.{parts_after}

-- a number is directly before a place
abbrev pub ends_number : List ℕ → Bool
ends_number front = begins (λ c. is_some (digit_of c) || is_some (rank_of c)) front

-- a code, or a single digit, with which a text begins, and the text after it
pub record Written : Type 0 where
  pub single : Option ℕ
  pub rest : List ℕ

abbrev pub single_at : List ℕ → List ℕ → Option Written
single_at front [] = None
single_at front (c ∷ rest) =
    if is_single front c rest && not (ends_number front)
    then Some (record { single = Some c; rest = rest }) else None

abbrev pub written_code : Code → Written
written_code code = record { single = None; rest = code.rest }

-- what a `Written` in the code is
abbrev pub written_of : CodeWritten → Written
written_of (written.Code code) = written_code (code_of code)
written_of (written.Single c rest) = record { single = Some c; rest = chars rest.now }

-- the new text of a code with these characters, or of a single digit
abbrev pub new_text : Written → List ℕ → Option (List ℕ)
new_text w characters =
    option_map_or (λ c. Some (single_text c)) w.single (code_text characters)

abbrev pub code_or_single : List ℕ → List ℕ → Option Written
code_or_single front text =
    option_or (option_map written_code (code_at front text))
    (option_or (option_map written_code (tens_version_at front text)) (single_at front text))

-- a phrase, a sum of money or a range, which goes before a code that ends earlier
abbrev pub is_phrase : Item → Bool
is_phrase (expression rest) = false
is_phrase other = true

abbrev pub reaches_further : List ℕ → Option Item → Bool
reaches_further rest None = false
reaches_further rest (Some item) =
    is_phrase item
    && nat_lt (length (encode_utf8_all (rest_of item))) (length (encode_utf8_all rest))

-- the code or single digit that begins with a text, unless a phrase there reaches further
abbrev pub code_here : Wanted → List ℕ → List ℕ → Option Written
code_here wanted front text =
    option_and_then (λ w. if reaches_further w.rest (item_at wanted front text) then None else Some w)
    (code_or_single front text)

-- the text after the code or the item that begins with a text
abbrev pub rest_here : Wanted → List ℕ → List ℕ → Option (List ℕ)
rest_here wanted front text =
    option_or (option_map (λ w. w.rest) (code_here wanted front text))
    (option_map rest_of (item_at wanted front text))

-- the codes and items of a text
abbrev pub coded_items : Wanted → List ℕ → List Span
coded_items wanted bytes = parts_after (rest_here wanted) 0 [] (chars bytes)

-- the code of a span, if it is one
abbrev pub code_of_span : Wanted → Span → Option Written
code_of_span wanted span = code_here wanted (in_front span.before) (chars (span.text ++ span.after))

-- the new text of a code or an item
unfoldable pub text_for_span : ChineseCountMethod → Figures → Wanted → Span → Option (List ℕ)
text_for_span method options wanted span =
    option_map_or (λ w. new_text w (chars span.text)) (code_of_span wanted span) (text_for_item method options wanted span)

-- a code holds no neighbour
unfoldable pub span_holds : ChineseCountMethod → Figures → Wanted → Span → Bool
span_holds method options wanted span =
    not (is_some (code_of_span wanted span)) && item_holds method options wanted span

-- a text with its codes, phrases and expressions in figures
unfoldable pub text_with_codes : ChineseCountMethod → Figures → Wanted → List ℕ → List ℕ
text_with_codes method options wanted bytes =
    in_chains (text_for_span method options wanted) (span_holds method options wanted) bytes
    (coded_items wanted bytes)

-- a text in figures, with its codes if they are wanted
unfoldable pub text_as_chosen : ChineseCountMethod → Figures → Wanted → List ℕ → List ℕ
text_as_chosen method options wanted bytes =
    if options.codes then text_with_codes method options wanted bytes
    else text_in_figures method options wanted bytes
