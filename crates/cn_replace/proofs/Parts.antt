-- A text that is rewritten in figures, before and after a character that parts it.
use Rattle.std.proofs.Common.{◌≡◌, ℕ, ◌+◌, ◌≤◌, Bool, true, false, not, ◌&&◌, List, [], ◌∷◌, ◌++◌, length, drop, map, reverse, chars, IsUtf8, Option, Some, None, is_some, unwrap_or, if◌then◌else◌, refl, sym, ap, ◌∙◌, arith, append_assoc, append-nil, length-append}
use Rattle.std.specs.Char.{encode_utf8}
use Rattle.std.specs.List.{Contains, list_any}
use Rattle.std.proofs.lemmas.List.{drop-append-le, reverse-append}
use Rattle.std.proofs.lemmas.Str.{chars-append, chars-encodes, chars_past_char, IsUtf8-append, scalars-chars}
use Rattle.std.proofs.Math.Seq.{drop-append-add, drop-append_seam}
use Rattle.std.proofs.Math.Utf8.{scalar, scalars}
use Rattle.cn_core.specs.declared.method.ChineseCountMethod.{ChineseCountMethod}
use Rattle.cn_core.specs.FigureCharacters.{is_figure}
use Rattle.cn_core.proofs.Fronts.{and-left, both}
use Rattle.cn_find.specs.declared.wanted.Wanted.{Wanted}
use Rattle.cn_find.specs.Belongs.{is_wanted}
use Rattle.cn_find.specs.Expressions.{expression_rule}
use Rattle.cn_find.specs.Parting.{is_named, with_text_after, with_text_before}
use Rattle.cn_find.specs.Runs.{IsRunBy}
use Rattle.cn_find.specs.Spans.{Span, expressions}
use Rattle.cn_find.proofs.Parting.{parts-text}
use Rattle.cn_find.proofs.RunLaws.{found-is_run, scalars-end}
use Rattle.cn_find.proofs.Unnamed.{unnamed-parts}
use Rattle.cn_replace.specs.declared.options.Figures.{Figures}
use Rattle.cn_replace.specs.Chains.{goes_on, held_on, in_chains, in_chains_from, is_held, is_joined_to_next, text_unless}
use Rattle.cn_replace.specs.InFigures.{figures_for, holds_others, in_figures}
use Rattle.cn_replace.specs.Parting.{is_noticed}
use Rattle.cn_replace.specs.Joined.{are_joined, end_of, is_joined_at, joins}
use Rattle.cn_replace.proofs.Replacing.{parts-of}
use Rattle.cn_replace.proofs.Unchanged.{of-first, of-others}
use Rattle.cn_replace.proofs.Unnoticed.{IsUnseen, IsUnseen-of, joins-after, none-joins, told-after, told-before}

-- expressions of a text that is part of a whole: there each is moved, each byte is elsewhere, and
-- the following expressions come after them
module _ (new : Span → Option (List ℕ)) (holds : Span → Bool) (moved : Span → Span) (at : ℕ → ℕ)
    (bytes whole rest : List ℕ) (following : List Span) where
  -- one is written, holds and is joined in the whole as in its own text, and is joined to none of
  -- those that follow; if it is the last, the rest of its own text is written, and then the rest
  record IsAlike (span : Span) : Type 0 where
    put : (held : Bool) → text_unless held new (moved span) ≡ text_unless held new span
    held : holds (moved span) ≡ holds span
    before : (end : ℕ) → drop (at end) (moved span).before ≡ drop end span.before
    joined : (end : ℕ) → is_joined_at (at end) (moved span) ≡ is_joined_at end span
    ends : end_of (moved span) ≡ at (end_of span)
    apart : is_joined_to_next (moved span) following ≡ false
    last : (held : Bool) → in_chains_from new holds whole (Some (at (end_of span))) held following
        ≡ drop (end_of span) bytes ++ rest

  held-alike : (span : Span) (others : List Span)
      → ((each : Span) → Contains (span ∷ others) each → IsAlike each)
      → is_held holds (moved span ∷ (map moved others ++ following)) ≡ is_held holds (span ∷ others)
  held-alike span [] alike =
      let here : IsAlike span = of-first span [] alike in rw (here.held, here.apart)
  held-alike span (next ∷ others) alike =
      let here : IsAlike span = of-first span (next ∷ others) alike in
      let there : IsAlike next = of-first next others (of-others span (next ∷ others) alike) in
      let joined : are_joined (moved span) (moved next) ≡ are_joined span next =
      ap (λ n. is_joined_at n (moved next)) here.ends ∙ there.joined (end_of span) in
      rw (here.held, joined, held-alike next others (of-others span (next ∷ others) alike))

  -- one is joined to what ended there in the whole as to what ended here in its own text, and the
  -- same is between, after a first part
  abbrev IsNext : Option ℕ → Option ℕ → List ℕ → Span → Type 0
  IsNext there here front span = (goes_on there (moved span) ≡ goes_on here span)
      × (drop (unwrap_or there 0) (moved span).before ≡ front ++ drop (unwrap_or here 0) span.before)

  -- so all are written in the whole as in their own text, from there and from here on
  all-alike : (there here : Option ℕ) (held : Bool) (front : List ℕ) (spans : List Span)
      → ((each : Span) → Contains spans each → IsAlike each)
      → ((each : Span) → Contains spans each → IsNext there here front each)
      → in_chains_from new holds whole there held following
      ≡ front ++ (drop (unwrap_or here 0) bytes ++ rest)
      → in_chains_from new holds whole there held (map moved spans ++ following)
      ≡ front ++ (in_chains_from new holds bytes here held spans ++ rest)
  all-alike there here held front [] alike on last = last
  all-alike there here held front (span ∷ others) alike on last =
      let first : IsAlike span = of-first span others alike in
      let begun : IsNext there here front span = of-first span others on in rw (
        begun.1,
        begun.0,
        held-alike span others alike,
        first.put (held_on holds here held span others),
        first.ends,
        all-alike (Some (at (end_of span))) (Some (end_of span)) (held_on holds here held span others) []
            others (of-others span others alike) (λ each found.
            let one : IsAlike each = of-others span others alike each found in
            (one.joined (end_of span), one.before (end_of span)))
            (first.last (held_on holds here held span others)),
      ) (simp append_assoc)

-- what follows an expression is text
after-utf8 : (wanted : Wanted) (bytes : List ℕ) (span : Span) → IsUtf8 bytes
    → Contains (expressions wanted bytes) span → IsUtf8 span.after
after-utf8 wanted bytes span utf8 found =
    let r : IsRunBy (expression_rule wanted) (chars bytes) span =
    found-is_run (expression_rule wanted) bytes span found in
    let all : scalars (r.left ++ (r.run ++ r.right)) ≡ true =
    ap scalars (sym r.parts) ∙ scalars-chars bytes utf8 in (
      r.right,
      (scalars-end r.run r.right (scalars-end r.left (r.run ++ r.right) all), sym r.after_is),
    )

-- at the start of a text no chain is held
fresh : (new : Span → Option (List ℕ)) (holds : Span → Bool) (bytes : List ℕ) (held : Bool)
    (spans : List Span)
    → in_chains_from new holds bytes None held spans ≡ in_chains_from new holds bytes None false spans
fresh new holds bytes held [] = refl
fresh new holds bytes held (span ∷ others) = refl

-- a left and a right text, and between them that character
module _ (method : ChineseCountMethod) (options : Figures) (wanted : Wanted)
    (left mid right : List ℕ) (c : ℕ) (first : IsUtf8 left) (second : IsUtf8 mid)
    (mid_is : chars mid ≡ c ∷ []) (u : IsUnseen c) where
  abbrev new : Span → Option (List ℕ)
  new = figures_for method options

  abbrev holds : Span → Bool
  holds = holds_others method options

  -- an expression of the left text, and one of the right text, in the whole
  abbrev earlier : Span → Span
  earlier = with_text_after (mid ++ right)

  abbrev later : Span → Span
  later = with_text_before (left ++ mid)

  -- a byte of the right text in the whole
  abbrev in_whole : ℕ → ℕ
  in_whole n = length (left ++ mid) + n

  -- the character came before an expression of the right text
  last_is : (span : Span)
      → reverse (chars (later span).before) ≡ reverse (chars span.before) ++ c ∷ reverse (chars left)
  last_is span =
      ap reverse (chars-append (left ++ mid) span.before (IsUtf8-append left mid first second))
      ∙ reverse-append (chars (left ++ mid)) (chars span.before)
      ∙ ap (λ l. reverse (chars span.before) ++ reverse l)
      (chars-append left mid first ∙ ap (λ l. chars left ++ l) mid_is)
      ∙ ap (λ l. reverse (chars span.before) ++ l) (reverse-append (chars left) (c ∷ []))

  new-later : (span : Span) → new (later span) ≡ new span
  new-later span =
      told-before c u (reverse (chars left)) method options span (later span).before (last_is span)

  alike-later : (span : Span) → IsAlike new holds later in_whole right ((left ++ mid) ++ right) [] [] span
  unfolding is_joined_at holds_others
  alike-later span = record {
    put = λ held. ap (λ l. if held then span.text else unwrap_or l span.text) (new-later span);
    held = ap (λ l. not (list_any is_figure (chars span.text)) && not (is_some l)) (new-later span);
    before = drop-append-add (left ++ mid) span.before;
    joined = λ end. ap (λ l. joins (chars l) (chars span.text) (chars span.after))
        (drop-append-add (left ++ mid) span.before end);
    ends = omega (arith, length-append (left ++ mid) span.before);
    apart = refl;
    last = λ held. drop-append-add (left ++ mid) right (end_of span) ∙ sym (append-nil _);
  }

  -- the whole from a byte of the left text on
  cut : (end : ℕ) (more : List ℕ) → end ≤ length left
      → drop end ((left ++ mid) ++ more) ≡ (drop end left ++ mid) ++ more
  cut end more within =
      ap (drop end) (append_assoc left mid more)
      ∙ drop-append-le end left (mid ++ more) within
      ∙ sym (append_assoc (drop end left) mid more)

  -- what is written from the last expression of the left text on
  from-seam : (end : Option ℕ) (held : Bool) (spans : List Span) → unwrap_or end 0 ≤ length left
      → ((span : Span) → goes_on end (later span) ≡ false)
      → in_chains_from new holds ((left ++ mid) ++ right) end held (map later spans ++ [])
      ≡ drop (unwrap_or end 0) left ++ (mid ++ in_chains_from new holds right None false spans)
  from-seam end held spans within apart =
      all-alike new holds later in_whole right ((left ++ mid) ++ right) [] [] end None held
      (drop (unwrap_or end 0) left ++ mid) spans (λ span found. alike-later span)
      (λ span found. (apart span, cut (unwrap_or end 0) span.before within))
      (cut (unwrap_or end 0) right within ∙ simp append-nil)
      ∙ simp (append_assoc, append-nil, fresh)

  module _ (span : Span) (found : Contains (expressions wanted left) span) where
    utf8 : IsUtf8 span.after
    utf8 = after-utf8 wanted left span first found

    -- the character comes after it
    next_is : (more : List ℕ)
        → chars (span.after ++ (mid ++ more)) ≡ chars span.after ++ c ∷ chars more
    next_is more =
        chars-append span.after (mid ++ more) utf8
        ∙ ap (λ l. chars span.after ++ l)
        (chars-append mid more second ∙ ap (λ l. l ++ chars more) mid_is)

    new-earlier : new (earlier span) ≡ new span
    new-earlier = told-after c u (chars right) method options span (earlier span).after (next_is right)

    left_is : left ≡ (span.before ++ span.text) ++ span.after
    left_is = parts-of wanted left span first found
        ∙ sym (append_assoc span.before span.text span.after)

    length_is : length (span.before ++ span.text) ≡ end_of span
    length_is = length-append span.before span.text

    ends : end_of span ≤ length left
    ends = omega (
      arith,
      ap length left_is,
      length-append (span.before ++ span.text) span.after,
      length_is,
    )

    -- an expression of the left text is joined to none of the right text
    apart : (next : Span) → is_joined_at (end_of span) (later next) ≡ false
    unfolding is_joined_at
    apart next =
        ap (λ l. joins (chars l) (chars next.text) (chars next.after))
        (cut (end_of span) next.before ends ∙ ap (λ l. (l ++ mid) ++ next.before) rest_is
        ∙ append_assoc span.after mid next.before)
        ∙ ap (λ l. joins l (chars next.text) (chars next.after)) (next_is next.before)
        ∙ none-joins c u (chars span.after) (chars next.before) (chars next.text) (chars next.after)
      where
        rest_is : drop (end_of span) left ≡ span.after
        rest_is = ap (drop (end_of span)) left_is
            ∙ ap (λ n. drop n ((span.before ++ span.text) ++ span.after)) (sym length_is)
            ∙ drop-append_seam (span.before ++ span.text) span.after

    alike-earlier : (others : List Span) → IsAlike new holds earlier (λ n. n) left
        ((left ++ mid) ++ right) (mid ++ in_chains_from new holds right None false others)
        (map later others ++ []) span
    unfolding is_joined_at holds_others
    alike-earlier others = record {
      put = λ held. ap (λ l. if held then span.text else unwrap_or l span.text) new-earlier;
      held = ap (λ l. not (list_any is_figure (chars span.text)) && not (is_some l)) new-earlier;
      before = λ end. refl;
      joined = λ end. ap (joins (chars (drop end span.before)) (chars span.text)) (next_is right)
          ∙ joins-after c u (chars right) (chars (drop end span.before)) (chars span.text)
          (chars span.after);
      ends = refl;
      apart = by others;
      last = λ held. from-seam (Some (end_of span)) held others ends apart;
    } where
      by : (spans : List Span) → is_joined_to_next (earlier span) (map later spans ++ []) ≡ false
      by [] = refl
      by (next ∷ spans) = apart next

  in-parts : (spans : List Span)
      → expressions wanted (left ++ (mid ++ right))
      ≡ map earlier (expressions wanted left) ++ map later spans
      → in_chains new holds (left ++ (mid ++ right)) (expressions wanted (left ++ (mid ++ right)))
      ≡ in_chains new holds left (expressions wanted left)
      ++ (mid ++ in_chains_from new holds right None false spans)
  in-parts spans parts =
      ap (in_chains_from new holds (left ++ (mid ++ right)) None false) (parts
      ∙ ap (λ l. map earlier (expressions wanted left) ++ l) (sym (append-nil (map later spans))))
      ∙ ap (λ l. in_chains_from new holds l None false
      (map earlier (expressions wanted left) ++ (map later spans ++ [])))
      (sym (append_assoc left mid right))
      ∙ all-alike new holds earlier (λ n. n) left ((left ++ mid) ++ right)
      (mid ++ in_chains_from new holds right None false spans) (map later spans ++ []) None None false []
      (expressions wanted left) (λ span found. alike-earlier span found spans)
      (λ span found. (refl, refl))
      (from-seam None false spans (omega arith) (λ span. refl))

pub in_figures-in_parts : (method : ChineseCountMethod) (options : Figures) (wanted : Wanted)
    (left right : List ℕ) (c : ℕ) → IsUtf8 left → IsUtf8 (encode_utf8 c ++ right)
    → is_wanted wanted c ≡ false → is_named c ≡ false → is_noticed c ≡ false
    → in_figures method options wanted (left ++ (encode_utf8 c ++ right))
    ≡ in_figures method options wanted left
    ++ (encode_utf8 c ++ in_figures method options wanted right)
unfolding in_figures
in_figures-in_parts method options wanted left right c first second unwanted unnamed unnoticed =
    in-parts method options wanted left (encode_utf8 c) right c first (c ∷ [], (scalar_c, all_is))
    (ap chars (sym all_is) ∙ chars-encodes (c ∷ []) scalar_c) (IsUnseen-of c unnamed unnoticed)
    (expressions wanted right)
    (parts-text (expression_rule wanted) c (unnamed-parts wanted c unwanted unnamed) left right first
    second) where
      all_is : encode_utf8 c ++ [] ≡ encode_utf8 c
      all_is = append-nil (encode_utf8 c)

      scalar_c : scalars (c ∷ []) ≡ true
      scalar_c = both _ _ (and-left (scalar c) _
          (ap scalars (sym (chars_past_char (encode_utf8 c ++ right) right c second refl))
          ∙ scalars-chars (encode_utf8 c ++ right) second)) refl
