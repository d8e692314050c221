-- The next item of a text is found.
use Rattle.std.proofs.Common.{◌≡◌, ℕ, ◌-◌, ◌<◌, List, [], ◌∷◌, ◌++◌, length, take, reverse, chars, encode_utf8_all, IsUtf8, Some, None, IfSome, refl, sym, ap, ◌∙◌, subst, arith, append_assoc, length-append}
use mathlib.Core.List.{reverse_aux}
use Rattle.std.proofs.Math.Seq.{take-append_seam}
use Rattle.std.proofs.lemmas.List.{reverse-append, reverse-reverse}
use Rattle.std.proofs.lemmas.Str.{chars-nil, chars-append, chars_from_encodes, encodes-append, encodes-chars}
use Rattle.cn_find.specs.declared.wanted.Wanted.{Wanted}
use Rattle.cn_find.specs.Spans.{in_front, run_after, text_before}
use Rattle.cn_find.specs.Rule.{Rule}
use Rattle.cn_find.proofs.Runs.{IsEnd, IsEnd-at, Passed, Passed-of, front-onto, seam-front}
use Rattle.cn_phrase.specs.Between.{part_between}
use Rattle.cn_phrase.specs.Items.{item_rest, items, items_after, items_left}
use Rattle.cn_phrase.proofs.ItemSteps.{Leaves, item-leaves, none-here, run-leaves, some-here}

-- characters with which no item begins were passed, and the text `ahead` is still to be searched
pub record Skipping (wanted : Wanted) (whole rest ahead : List ℕ) : Type 0 where
  pub ends : IsEnd whole ahead
  pub same : items_left wanted whole rest ≡ items_left wanted whole ahead

pub Skipping-none : (wanted : Wanted) (whole rest : List ℕ) → IsEnd whole rest
    → Skipping wanted whole rest rest
Skipping-none wanted whole rest ends = record { ends = ends; same = refl }

pub Skipping-more : (wanted : Wanted) (whole rest ahead after : List ℕ) (c : ℕ)
    → Skipping wanted whole rest ahead → IsUtf8 (text_before whole ahead) → IsUtf8 ahead
    → IsUtf8 after → chars ahead ≡ c ∷ chars after
    → item_rest wanted (in_front (text_before whole ahead)) (chars ahead) ≡ None
    → Skipping wanted whole rest after
Skipping-more wanted whole rest ahead after c s before_utf8 ahead_utf8 after_utf8 parts none = record {
  ends = passed.ends;
  same = s.same ∙ ap (items_after wanted 0 front) parts
      ∙ none-here wanted front c (chars after) (subst (λ l. item_rest wanted front l ≡ None) parts none)
      ∙ ap (λ l. items_after wanted 0 l (chars after)) (sym passed.front);
} where
  front : List ℕ
  front = in_front (text_before whole ahead)

  passed : Passed whole (text_before whole ahead) after c
  passed = Passed-of whole (text_before whole ahead) ahead after c (sym s.ends) before_utf8 ahead_utf8
      after_utf8 parts

-- the next item, and what is left after it
pub record IsNext (wanted : Wanted) (whole rest before text after : List ℕ) : Type 0 where
  pub parts : items_left wanted whole rest
      ≡ record { before = before; text = text; after = after } ∷ items_left wanted whole after
  pub ends : IsEnd whole after

-- the bytes of an item that has these characters
bytes-of : (ahead after passed : List ℕ) → IsUtf8 ahead → IsUtf8 after
    → chars ahead ≡ passed ++ chars after → ahead ≡ encode_utf8_all passed ++ after
bytes-of ahead after passed utf8 ended parts =
    sym (encodes-chars ahead utf8) ∙ ap encode_utf8_all parts ∙ encodes-append passed (chars after)
    ∙ ap (λ l. encode_utf8_all passed ++ l) (encodes-chars after ended)

-- an item of these characters begins at `ahead`
found-here : (wanted : Wanted) (whole rest before ahead text after : List ℕ) (c : ℕ) (passed : List ℕ)
    → Skipping wanted whole rest ahead → before ≡ text_before whole ahead → IsUtf8 before
    → IsUtf8 ahead → IsUtf8 after → text ≡ text_before ahead after → IsUtf8 text
    → chars ahead ≡ c ∷ passed ++ chars after
    → item_rest wanted (in_front before) (chars ahead) ≡ Some (chars after)
    → IsNext wanted whole rest before text after
found-here wanted whole rest before ahead text after c passed s at utf8 ahead_utf8 ended cut whole_text
    parts e = record {
      parts = s.same ∙ ap (λ l. items_after wanted 0 (in_front l) (chars ahead)) (sym at)
          ∙ ap (items_after wanted 0 front) parts
          ∙ some-here wanted front passed (chars after) c
          (subst (λ l. item_rest wanted front l ≡ Some (chars after)) parts e)
          ∙ ap (λ l. part_between front (c ∷ passed ++ chars after) (chars after)
          ∷ items_after wanted 0 l (chars after)) at_end
          ∙ ap (λ i. i ∷ items_left wanted whole after) item_is;
      ends = IsEnd-at whole (before ++ text) after at_after;
    } where
      front : List ℕ
      front = in_front before

      bytes : ahead ≡ encode_utf8_all (c ∷ passed) ++ after
      bytes = bytes-of ahead after (c ∷ passed) ahead_utf8 ended parts

      text_is : text ≡ encode_utf8_all (c ∷ passed)
      text_is = cut ∙ seam-front ahead (encode_utf8_all (c ∷ passed)) after bytes

      at_after : whole ≡ before ++ text ++ after
      at_after = sym s.ends ∙ ap (λ l. l ++ ahead) (sym at) ∙ ap (λ l. before ++ l) (bytes
          ∙ ap (λ l. l ++ after) (sym text_is))
          ∙ sym (append_assoc before text after)

      at_end : reverse_aux (c ∷ passed) front ≡ in_front (text_before whole after)
      at_end = ap (λ l. reverse_aux l front)
          (chars_from_encodes (c ∷ passed) text whole_text (sym text_is))
          ∙ front-onto front (chars text)
          ∙ sym (ap in_front (seam-front whole (before ++ text) after at_after)
          ∙ ap reverse (chars-append before text utf8)
          ∙ reverse-append (chars before) (chars text))

      taken : take (length (c ∷ passed ++ chars after) - length (chars after))
          (c ∷ passed ++ chars after) ≡ c ∷ passed
      taken = let count : length (c ∷ passed ++ chars after) - length (chars after)
          ≡ length (c ∷ passed) = omega (arith, length-append (c ∷ passed) (chars after)) in
          ap (λ n. take n (c ∷ passed ++ chars after)) count
          ∙ take-append_seam (c ∷ passed) (chars after)

      item_is : part_between front (c ∷ passed ++ chars after) (chars after)
          ≡ record { before = before; text = text; after = after }
      item_is = rw (
        taken,
        sym text_is,
        encodes-chars after ended,
        reverse-reverse (chars before),
        encodes-chars before utf8,
      ) refl

-- what is left after a part of a text is a suffix of the text before it
pub ends-at : (ahead after : List ℕ) → IsUtf8 ahead → IsUtf8 after → Leaves (chars ahead) (chars after)
    → IsEnd ahead after
ends-at ahead after utf8 ended h =
    IsEnd-at ahead (encode_utf8_all h.0.0) after (bytes-of ahead after h.0.0 utf8 ended h.0.1)

pub run-ends : (rule : Rule) (front ahead after : List ℕ) → IsUtf8 ahead → IsUtf8 after
    → run_after rule front (chars ahead) ≡ Some (chars after) → IsEnd ahead after
run-ends rule front ahead after utf8 ended e = ends-at ahead after utf8 ended
    (subst (λ o. IfSome o (Leaves (chars ahead))) e (run-leaves rule front (chars ahead)))

pub rest-ends : (wanted : Wanted) (front ahead after : List ℕ) → IsUtf8 ahead → IsUtf8 after
    → item_rest wanted front (chars ahead) ≡ Some (chars after) → IsEnd ahead after
rest-ends wanted front ahead after utf8 ended e = ends-at ahead after utf8 ended
    (subst (λ o. IfSome o (Leaves (chars ahead))) e (item-leaves wanted front (chars ahead)))

pub IsNext-found : (wanted : Wanted) (whole rest before ahead text after : List ℕ)
    → Skipping wanted whole rest ahead → before ≡ text_before whole ahead → IsUtf8 before
    → IsUtf8 ahead → IsUtf8 after → text ≡ text_before ahead after → IsUtf8 text
    → item_rest wanted (in_front (text_before whole ahead)) (chars ahead) ≡ Some (chars after)
    → IsNext wanted whole rest before text after
IsNext-found wanted whole rest before ahead text after s at utf8 ahead_utf8 ended cut whole_text is =
    by (subst (λ o. IfSome o (Leaves (chars ahead))) e (item-leaves wanted (in_front before)
    (chars ahead))) where
      e : item_rest wanted (in_front before) (chars ahead) ≡ Some (chars after)
      e = subst (λ l. item_rest wanted (in_front l) (chars ahead) ≡ Some (chars after)) (sym at) is

      by : Leaves (chars ahead) (chars after) → IsNext wanted whole rest before text after
      by h = found h.0.0 h.0.1 h.1 where
        found : (f : List ℕ) → chars ahead ≡ f ++ chars after
            → length (chars after) < length (chars ahead) → IsNext wanted whole rest before text after
        found [] parts less = absurd (omega (arith, ap length parts, less))
        found (c ∷ passed) parts less = found-here wanted whole rest before ahead text after c passed s
            at utf8 ahead_utf8 ended cut whole_text parts e

-- no item is left at the end of a text
pub no_item_left : (wanted : Wanted) (whole : List ℕ) → items_left wanted whole [] ≡ []
no_item_left wanted whole =
    ap (items_after wanted 0 (in_front (text_before whole []))) chars-nil

-- at its start all items are left
pub all-left : (wanted : Wanted) (whole : List ℕ) → items_left wanted whole whole ≡ items wanted whole
all-left wanted whole =
    ap (λ l. items_after wanted 0 l (chars whole))
    (ap in_front (seam-front whole [] whole refl) ∙ ap reverse chars-nil)
