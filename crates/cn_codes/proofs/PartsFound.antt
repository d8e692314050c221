-- The next part of a text is found, of those that a search finds.
use Rattle.std.proofs.Common.{◌≡◌, ℕ, ◌-◌, ◌<◌, List, [], ◌∷◌, ◌++◌, length, take, reverse, chars, encode_utf8_all, IsUtf8, Option, Some, None, IfSome, refl, sym, ap, ◌∙◌, subst, arith, append_assoc, length-append}
use mathlib.Core.List.{reverse_aux}
use Rattle.std.proofs.Math.Seq.{take-append_seam}
use Rattle.std.proofs.lemmas.List.{reverse-append, reverse-reverse}
use Rattle.std.proofs.lemmas.Str.{chars-nil, chars-append, chars_from_encodes, encodes-append, encodes-chars}
use Rattle.cn_find.specs.Spans.{in_front, text_before}
use Rattle.cn_find.proofs.Runs.{IsEnd, IsEnd-at, Passed, Passed-of, front-onto, seam-front}
use Rattle.cn_phrase.specs.Between.{part_between}
use Rattle.cn_phrase.proofs.ItemSteps.{Leaves}
use Rattle.cn_phrase.proofs.ItemsFound.{ends-at}
use Rattle.cn_codes.specs.Parts.{parts_after, parts_left}

-- the text after the part that begins with a text, given the characters before that
abbrev pub RestAt : Type 0
RestAt = List ℕ → List ℕ → Option (List ℕ)

-- what is left is a suffix, and shorter
abbrev pub AllLeave : RestAt → Type 0
AllLeave rest_at = (front text : List ℕ) → IfSome (rest_at front text) (Leaves text)

-- characters of a part are passed over
pass-all : (rest_at : RestAt) (passed front text : List ℕ)
    → parts_after rest_at (length passed) front (passed ++ text)
    ≡ parts_after rest_at 0 (reverse_aux passed front) text
pass-all rest_at [] front text = refl
pass-all rest_at (c ∷ passed) front text = pass-all rest_at passed (c ∷ front) text

-- no part begins here
none-here : (rest_at : RestAt) (front : List ℕ) (c : ℕ) (ahead : List ℕ)
    → rest_at front (c ∷ ahead) ≡ None
    → parts_after rest_at 0 front (c ∷ ahead) ≡ parts_after rest_at 0 (c ∷ front) ahead
none-here rest_at front c ahead e = rw e refl

-- a part begins here
some-here : (rest_at : RestAt) (front passed rest : List ℕ) (c : ℕ)
    → rest_at front (c ∷ passed ++ rest) ≡ Some rest
    → parts_after rest_at 0 front (c ∷ passed ++ rest)
    ≡ part_between front (c ∷ passed ++ rest) rest
    ∷ parts_after rest_at 0 (reverse_aux (c ∷ passed) front) rest
some-here rest_at front passed rest c e =
    let count : length (passed ++ rest) - length rest ≡ length passed =
    omega (arith, length-append passed rest) in
    rw (e, count) (ap (λ l. part_between front (c ∷ passed ++ rest) rest ∷ l)
    (pass-all rest_at passed (c ∷ front) rest))

-- characters with which no part begins were passed, and the text `ahead` is still to be searched
pub record Skipping (rest_at : RestAt) (whole rest ahead : List ℕ) : Type 0 where
  pub ends : IsEnd whole ahead
  pub same : parts_left rest_at whole rest ≡ parts_left rest_at whole ahead

pub Skipping-none : (rest_at : RestAt) (whole rest : List ℕ) → IsEnd whole rest
    → Skipping rest_at whole rest rest
Skipping-none rest_at whole rest ends = record { ends = ends; same = refl }

pub Skipping-more : (rest_at : RestAt) (whole rest ahead after : List ℕ) (c : ℕ)
    → Skipping rest_at whole rest ahead → IsUtf8 (text_before whole ahead) → IsUtf8 ahead
    → IsUtf8 after → chars ahead ≡ c ∷ chars after
    → rest_at (in_front (text_before whole ahead)) (chars ahead) ≡ None
    → Skipping rest_at whole rest after
Skipping-more rest_at whole rest ahead after c s before_utf8 ahead_utf8 after_utf8 parts none = record {
  ends = passed.ends;
  same = s.same ∙ ap (parts_after rest_at 0 front) parts
      ∙ none-here rest_at front c (chars after) (subst (λ l. rest_at front l ≡ None) parts none)
      ∙ ap (λ l. parts_after rest_at 0 l (chars after)) (sym passed.front);
} where
  front : List ℕ
  front = in_front (text_before whole ahead)

  passed : Passed whole (text_before whole ahead) after c
  passed = Passed-of whole (text_before whole ahead) ahead after c (sym s.ends) before_utf8 ahead_utf8
      after_utf8 parts

-- the next part, and what is left after it
pub record IsNext (rest_at : RestAt) (whole rest before text after : List ℕ) : Type 0 where
  pub parts : parts_left rest_at whole rest
      ≡ record { before = before; text = text; after = after } ∷ parts_left rest_at whole after
  pub ends : IsEnd whole after

-- the bytes of a part that has these characters
bytes-of : (ahead after passed : List ℕ) → IsUtf8 ahead → IsUtf8 after
    → chars ahead ≡ passed ++ chars after → ahead ≡ encode_utf8_all passed ++ after
bytes-of ahead after passed utf8 ended parts =
    sym (encodes-chars ahead utf8) ∙ ap encode_utf8_all parts ∙ encodes-append passed (chars after)
    ∙ ap (λ l. encode_utf8_all passed ++ l) (encodes-chars after ended)

-- a part of these characters begins at `ahead`
found-here : (rest_at : RestAt) (whole rest before ahead text after : List ℕ) (c : ℕ) (passed : List ℕ)
    → Skipping rest_at whole rest ahead → before ≡ text_before whole ahead → IsUtf8 before
    → IsUtf8 ahead → IsUtf8 after → text ≡ text_before ahead after → IsUtf8 text
    → chars ahead ≡ c ∷ passed ++ chars after
    → rest_at (in_front before) (chars ahead) ≡ Some (chars after)
    → IsNext rest_at whole rest before text after
found-here rest_at whole rest before ahead text after c passed s at utf8 ahead_utf8 ended cut whole_text
    parts e = record {
      parts = s.same ∙ ap (λ l. parts_after rest_at 0 (in_front l) (chars ahead)) (sym at)
          ∙ ap (parts_after rest_at 0 front) parts
          ∙ some-here rest_at front passed (chars after) c
          (subst (λ l. rest_at front l ≡ Some (chars after)) parts e)
          ∙ ap (λ l. part_between front (c ∷ passed ++ chars after) (chars after)
          ∷ parts_after rest_at 0 l (chars after)) at_end
          ∙ ap (λ i. i ∷ parts_left rest_at whole after) item_is;
      ends = IsEnd-at whole (before ++ text) after at_after;
    } where
      front : List ℕ
      front = in_front before

      bytes : ahead ≡ encode_utf8_all (c ∷ passed) ++ after
      bytes = bytes-of ahead after (c ∷ passed) ahead_utf8 ended parts

      text_is : text ≡ encode_utf8_all (c ∷ passed)
      text_is = cut ∙ seam-front ahead (encode_utf8_all (c ∷ passed)) after bytes

      at_after : whole ≡ before ++ text ++ after
      at_after = sym s.ends ∙ ap (λ l. l ++ ahead) (sym at) ∙ ap (λ l. before ++ l) (bytes
          ∙ ap (λ l. l ++ after) (sym text_is))
          ∙ sym (append_assoc before text after)

      at_end : reverse_aux (c ∷ passed) front ≡ in_front (text_before whole after)
      at_end = ap (λ l. reverse_aux l front)
          (chars_from_encodes (c ∷ passed) text whole_text (sym text_is))
          ∙ front-onto front (chars text)
          ∙ sym (ap in_front (seam-front whole (before ++ text) after at_after)
          ∙ ap reverse (chars-append before text utf8)
          ∙ reverse-append (chars before) (chars text))

      taken : take (length (c ∷ passed ++ chars after) - length (chars after))
          (c ∷ passed ++ chars after) ≡ c ∷ passed
      taken = let count : length (c ∷ passed ++ chars after) - length (chars after)
          ≡ length (c ∷ passed) = omega (arith, length-append (c ∷ passed) (chars after)) in
          ap (λ n. take n (c ∷ passed ++ chars after)) count
          ∙ take-append_seam (c ∷ passed) (chars after)

      item_is : part_between front (c ∷ passed ++ chars after) (chars after)
          ≡ record { before = before; text = text; after = after }
      item_is = rw (
        taken,
        sym text_is,
        encodes-chars after ended,
        reverse-reverse (chars before),
        encodes-chars before utf8,
      ) refl

pub IsNext-found : (rest_at : RestAt) (leaves : AllLeave rest_at) (whole rest before ahead text after : List ℕ)
    → Skipping rest_at whole rest ahead → before ≡ text_before whole ahead → IsUtf8 before
    → IsUtf8 ahead → IsUtf8 after → text ≡ text_before ahead after → IsUtf8 text
    → rest_at (in_front (text_before whole ahead)) (chars ahead) ≡ Some (chars after)
    → IsNext rest_at whole rest before text after
IsNext-found rest_at leaves whole rest before ahead text after s at utf8 ahead_utf8 ended cut whole_text is =
    by (subst (λ o. IfSome o (Leaves (chars ahead))) e (leaves (in_front before) (chars ahead))) where
      e : rest_at (in_front before) (chars ahead) ≡ Some (chars after)
      e = subst (λ l. rest_at (in_front l) (chars ahead) ≡ Some (chars after)) (sym at) is

      by : Leaves (chars ahead) (chars after) → IsNext rest_at whole rest before text after
      by h = found h.0.0 h.0.1 h.1 where
        found : (f : List ℕ) → chars ahead ≡ f ++ chars after
            → length (chars after) < length (chars ahead) → IsNext rest_at whole rest before text after
        found [] parts less = absurd (omega (arith, ap length parts, less))
        found (c ∷ passed) parts less = found-here rest_at whole rest before ahead text after c passed s
            at utf8 ahead_utf8 ended cut whole_text parts e

-- what is left after a part of a text is a suffix of the text before it
pub rest-ends : (rest_at : RestAt) (leaves : AllLeave rest_at) (front ahead after : List ℕ)
    → IsUtf8 ahead → IsUtf8 after → rest_at front (chars ahead) ≡ Some (chars after)
    → IsEnd ahead after
rest-ends rest_at leaves front ahead after utf8 ended e = ends-at ahead after utf8 ended
    (subst (λ o. IfSome o (Leaves (chars ahead))) e (leaves front (chars ahead)))

-- no part is left at the end of a text
pub no_part_left : (rest_at : RestAt) (whole : List ℕ) → parts_left rest_at whole [] ≡ []
no_part_left rest_at whole =
    ap (parts_after rest_at 0 (in_front (text_before whole []))) chars-nil

-- at its start all parts are left
pub all-left : (rest_at : RestAt) (whole : List ℕ) → parts_left rest_at whole whole ≡ parts_after rest_at 0 [] (chars whole)
all-left rest_at whole =
    ap (λ l. parts_after rest_at 0 l (chars whole))
    (ap in_front (seam-front whole [] whole refl) ∙ ap reverse chars-nil)
