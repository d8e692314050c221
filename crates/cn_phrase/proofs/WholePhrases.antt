-- A phrase that does not end within an expression.
use Rattle.std.proofs.Common.{◌≡◌, ℕ, Bool, List, ◌++◌, reverse, chars, IsUtf8, Some, None, IfSome, if◌then◌else◌, refl, sym, ap, ◌∙◌, subst, append_assoc}
use Rattle.std.proofs.lemmas.List.{reverse-append}
use Rattle.std.proofs.lemmas.Str.{chars-append}
use Rattle.cn_find.specs.declared.wanted.Wanted.{Wanted}
use Rattle.cn_find.specs.Spans.{in_front, text_before}
use Rattle.cn_find.proofs.Runs.{IsEnd, IsEnd-at, front-utf8, seam-front}
use Rattle.cn_phrase.specs.Between.{characters_before}
use Rattle.cn_phrase.specs.Items.{ends_whole, whole_phrase}
use Rattle.cn_phrase.specs.Phrases.{Found, phrase_at}
use Rattle.cn_phrase.proofs.Advances.{IsAhead, phrase_ahead}
use Rattle.cn_phrase.proofs.Between.{characters-before}
use Rattle.cn_phrase.proofs.ItemsFound.{ends-at}

-- a suffix of a suffix
ends-parts : (whole ahead rest : List ℕ) → IsEnd whole ahead → IsEnd ahead rest
    → whole ≡ (text_before whole ahead ++ text_before ahead rest) ++ rest
ends-parts whole ahead rest ends more =
    sym ends ∙ ap (λ l. text_before whole ahead ++ l) (sym more)
    ∙ sym (append_assoc (text_before whole ahead) (text_before ahead rest) rest)

pub ends-again : (whole ahead rest : List ℕ) → IsEnd whole ahead → IsEnd ahead rest → IsEnd whole rest
ends-again whole ahead rest ends more =
    IsEnd-at whole (text_before whole ahead ++ text_before ahead rest) rest
    (ends-parts whole ahead rest ends more)

-- what is before it, given what is before the longer one
pub fronts-are : (whole ahead rest : List ℕ) → IsEnd whole ahead → IsEnd ahead rest → IsUtf8 whole
    → IsUtf8 ahead → IsUtf8 rest → in_front (text_before whole rest)
    ≡ reverse (characters_before (chars ahead) (chars rest)) ++ in_front (text_before whole ahead)
fronts-are whole ahead rest ends more utf8 ahead_utf8 rest_utf8 =
    ap in_front (seam-front whole (text_before whole ahead ++ text_before ahead rest) rest
    (ends-parts whole ahead rest ends more))
    ∙ ap reverse (chars-append (text_before whole ahead) (text_before ahead rest)
    (front-utf8 whole ahead ends utf8 ahead_utf8))
    ∙ reverse-append (chars (text_before whole ahead)) (chars (text_before ahead rest))
    ∙ ap (λ l. reverse l ++ in_front (text_before whole ahead)) (sym (characters-before ahead rest
    (text_before ahead rest) (sym more) (front-utf8 ahead rest more ahead_utf8 rest_utf8)))

module _ (wanted : Wanted) (whole ahead : List ℕ) (found : Found) (rest : List ℕ)
    (rest_is : found.rest ≡ chars rest) (ends : IsEnd whole ahead) (utf8 : IsUtf8 whole)
    (ahead_utf8 : IsUtf8 ahead) (rest_utf8 : IsUtf8 rest)
    (e : Some found ≡ phrase_at (in_front (text_before whole ahead)) (chars ahead)) where
  pub phrase-ends : IsEnd ahead rest
  phrase-ends = ends-at ahead rest ahead_utf8 rest_utf8
      (subst (λ l. IsAhead (chars ahead) (record {
        lead = found.lead;
        form = found.form;
        numbers = found.numbers;
        rest = l;
      })) rest_is
      (subst (λ o. IfSome o (IsAhead (chars ahead))) (sym e)
      (phrase_ahead (in_front (text_before whole ahead)) (chars ahead))))

  pub phrase-ends-whole : IsEnd whole rest
  phrase-ends-whole = ends-again whole ahead rest ends phrase-ends

  pub whole-is : (b : Bool) → b ≡ ends_whole wanted (in_front (text_before whole rest)) (chars rest)
      → (if b then Some found else None)
      ≡ whole_phrase wanted (in_front (text_before whole ahead)) (chars ahead)
  whole-is b same = sym (rw (sym e, there) refl) where
    there : ends_whole wanted (reverse (characters_before (chars ahead) found.rest)
        ++ in_front (text_before whole ahead)) found.rest ≡ b
    there =
        ap (λ l. ends_whole wanted (reverse (characters_before (chars ahead) l)
        ++ in_front (text_before whole ahead)) l) rest_is
        ∙ ap (λ l. ends_whole wanted l (chars rest))
        (sym (fronts-are whole ahead rest ends phrase-ends utf8 ahead_utf8 rest_utf8))
        ∙ sym same
