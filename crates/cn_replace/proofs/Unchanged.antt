-- A text in which no expression has a new text.
use Rattle.std.proofs.Common.{◌≡◌, ℕ, suc, ◌+◌, ◌≤◌, nat_le, true, List, [], ◌∷◌, ◌++◌, length, drop, IsUtf8, Option, None, unwrap_or, refl, sym, ap, ◌∙◌, arith, append_assoc, length-append}
use Rattle.std.specs.List.{Contains}
use Rattle.std.proofs.lemmas.Bool.Decides.{nat_tests}
use Rattle.std.proofs.lemmas.List.{drop-append-le}
use Rattle.std.proofs.Math.Seq.{drop-append_seam}
use Rattle.cn_core.proofs.Fronts.{and-left, and-right}
use Rattle.cn_find.specs.declared.wanted.Wanted.{Wanted}
use Rattle.cn_find.specs.Expressions.{expression_rule}
use Rattle.cn_find.specs.Runs.{is_rising}
use Rattle.cn_find.specs.Spans.{Span, expressions}
use Rattle.cn_find.proofs.RunLaws.{spans-rise}
use Rattle.cn_replace.specs.Replaced.{replaced, replaced_from}
use Rattle.cn_replace.proofs.Replacing.{parts-of}

-- an expression among the others is one of all
pub of-others : {P : Span → Type 0} (span : Span) (others : List Span)
    → ((each : Span) → Contains (span ∷ others) each → P each)
    → (each : Span) → Contains others each → P each
of-others span others of_all each (k, low, e) = of_all each (suc k, omega arith, e)

pub of-first : {P : Span → Type 0} (span : Span) (others : List Span)
    → ((each : Span) → Contains (span ∷ others) each → P each) → P span
of-first span others of_all = of_all span (0, omega arith, refl)

-- the rest of a text from a byte on
unchanged : (new : Span → Option (List ℕ)) (bytes : List ℕ) (from : ℕ) (spans : List Span)
    → is_rising from spans ≡ true
    → ((span : Span) → Contains spans span
    → bytes ≡ span.before ++ (span.text ++ span.after))
    → ((span : Span) → Contains spans span → new span ≡ None)
    → replaced_from new bytes from spans ≡ drop from bytes
unchanged new bytes from [] rises parts none = refl
unchanged new bytes from (span ∷ others) rises parts none =
    ap (λ l. drop from span.before ++ unwrap_or l span.text
    ++ replaced_from new bytes end others) (of-first span others none)
    ∙ ap (λ l. drop from span.before ++ span.text ++ l)
    (unchanged new bytes end others (and-right (nat_le from (length span.before)) _ rises)
    (of-others span others parts) (of-others span others none) ∙ behind)
    ∙ append_assoc (drop from span.before) span.text span.after
    ∙ sym (drop-append-le from span.before (span.text ++ span.after) within)
    ∙ ap (drop from) (sym here) where
      end : ℕ
      end = length span.before + length span.text

      here : bytes ≡ span.before ++ (span.text ++ span.after)
      here = of-first span others parts

      within : from ≤ length span.before
      within = let first : nat_le from (length span.before) ≡ true = and-left _ _ rises in
          grind (arith, nat_tests, first)

      behind : drop end bytes ≡ span.after
      behind =
          ap (λ n. drop n bytes) (sym (length-append span.before span.text))
          ∙ ap (drop (length (span.before ++ span.text)))
          (here ∙ sym (append_assoc span.before span.text span.after))
          ∙ drop-append_seam (span.before ++ span.text) span.after

pub all-unchanged : (new : Span → Option (List ℕ)) (wanted : Wanted) (bytes : List ℕ)
    → IsUtf8 bytes
    → ((span : Span) → Contains (expressions wanted bytes) span → new span ≡ None)
    → replaced new wanted bytes ≡ bytes
all-unchanged new wanted bytes utf8 none =
    unchanged new bytes 0 (expressions wanted bytes) (spans-rise (expression_rule wanted) bytes)
    (λ span. parts-of wanted bytes span utf8) none
