-- A text without phrases is written in figures as its quantities are.
use Rattle.std.proofs.Common.{◌≡◌, ℕ, Bool, true, false, not, ◌&&◌, List, [], ◌∷◌, ◌++◌, chars, IsUtf8, Option, Some, None, is_some, refl, ap, ◌∙◌}
use Rattle.std.specs.List.{Contains, list_any}
use Rattle.cn_core.specs.declared.method.ChineseCountMethod.{ChineseCountMethod}
use Rattle.cn_find.specs.declared.wanted.Wanted.{Wanted}
use Rattle.cn_find.specs.Spans.{Span, expressions}
use Rattle.cn_replace.specs.declared.options.Figures.{Figures}
use Rattle.cn_core.specs.FigureCharacters.{is_figure}
use Rattle.cn_replace.specs.InFigures.{figures_for, holds_others, in_figures}
use Rattle.cn_replace.specs.Joined.{end_of}
use Rattle.cn_phrase.specs.InText.{item_holds, item_text, text_for_item, text_in_figures}
use Rattle.cn_phrase.specs.Plain.{has_no_phrase}
use Rattle.cn_phrase.proofs.PlainItems.{item-plain, items-plain}
use Rattle.cn_replace.specs.Chains.{held_on, in_chains, in_chains_from, is_held}
use Rattle.cn_replace.proofs.Unchanged.{of-first, of-others}

-- two ways of rewriting that agree on the parts of a text
module _ (new other : Span → Option (List ℕ)) (holds also : Span → Bool) where
  record Agrees (span : Span) : Type 0 where
    same_new : new span ≡ other span
    same_holds : holds span ≡ also span

  held-same : (spans : List Span) → ((each : Span) → Contains spans each → Agrees each)
      → is_held holds spans ≡ is_held also spans
  held-same [] same = refl
  held-same (span ∷ others) same = rw (
    (of-first span others same).same_holds,
    held-same others (of-others span others same),
  ) refl

  chains-same : (bytes : List ℕ) (end : Option ℕ) (held : Bool) (spans : List Span)
      → ((each : Span) → Contains spans each → Agrees each)
      → in_chains_from new holds bytes end held spans ≡ in_chains_from other also bytes end held spans
  chains-same bytes end held [] same = refl
  chains-same bytes end held (span ∷ others) same = rw (
    (of-first span others same).same_new,
    held-same (span ∷ others) same,
    chains-same bytes (Some (end_of span)) (held_on also end held span others) others
        (of-others span others same),
  ) refl

module _ (method : ChineseCountMethod) (options : Figures) (wanted : Wanted) (bytes : List ℕ)
    (utf8 : IsUtf8 bytes) (plain : has_no_phrase wanted bytes ≡ true) where
  agrees : (span : Span) → Contains (expressions wanted bytes) span
      → Agrees (text_for_item method options wanted) (figures_for method options)
      (item_holds method options wanted) (holds_others method options) span
  unfolding item_holds holds_others text_for_item
  agrees span found = record {
    same_new = same;
    same_holds = ap (λ new. not (list_any is_figure (chars span.text)) && not (is_some new)) same;
  } where
    same : text_for_item method options wanted span ≡ figures_for method options span
    same = let item = item-plain wanted bytes span utf8 plain found in
        ap (item_text method options span (chars (span.text ++ span.after))) item.1

  pub texts-plain : text_in_figures method options wanted bytes ≡ in_figures method options wanted bytes
  unfolding text_in_figures in_figures
  texts-plain =
      ap (in_chains (text_for_item method options wanted) (item_holds method options wanted) bytes)
      (items-plain wanted bytes plain)
      ∙ chains-same (text_for_item method options wanted) (figures_for method options)
      (item_holds method options wanted) (holds_others method options) bytes None false
      (expressions wanted bytes) agrees
