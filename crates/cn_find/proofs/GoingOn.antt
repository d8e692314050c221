-- A search goes on after a run, and sees the whole text.
use Rattle.std.proofs.Common.{◌≡◌, ℕ, ◌+◌, true, false, List, ◌∷◌, ◌++◌, length, take, drop, reverse, chars, encode_utf8_all, IsUtf8, IsCharBoundary, refl, sym, ap, subst, ◌∙◌, append_assoc, length-append}
use mathlib.Core.List.{reverse_aux}
use Rattle.std.proofs.lemmas.List.{reverse-append, reverse-reverse, take-append-drop}
use Rattle.std.proofs.lemmas.Str.{chars-encodes, encodes-append, encodes-chars, scalars-chars, IsCharBoundary-at_seam, IsUtf8-drop, IsUtf8-take}
use Rattle.std.proofs.Math.Seq.{drop-append_seam}
use Rattle.std.proofs.Math.Utf8.{scalars}
use Rattle.cn_find.specs.Rule.{Rule}
use Rattle.cn_find.specs.Spans.{Span, spans_after, text_before, in_front, left_by}
use Rattle.cn_find.proofs.Parting.{Rest, RestOf, rest-of}
use Rattle.cn_find.proofs.Runs.{front-onto, seam-front}
use Rattle.cn_find.proofs.RunLaws.{scalars-both, scalars-end, scalars-start}

-- the rest of a text after these characters, the nearest first
left-behind : (rule : Rule) (text front cs : List ℕ)
    → text ≡ encode_utf8_all (reverse front) ++ encode_utf8_all cs
    → scalars (reverse front) ≡ true → scalars cs ≡ true
    → spans_after rule false front cs
    ≡ left_by rule text (drop (length (encode_utf8_all (reverse front))) text)
left-behind rule text front cs parts before ok =
    ap (λ l. spans_after rule false l cs) (sym (reverse-reverse front)
    ∙ ap reverse (sym (chars-encodes (reverse front) before))
    ∙ ap in_front (sym (seam-front text (encode_utf8_all (reverse front)) (encode_utf8_all cs) parts)))
    ∙ ap (spans_after rule false (in_front (text_before text (encode_utf8_all cs))))
    (sym (chars-encodes cs ok))
    ∙ ap (left_by rule text) (sym behind) where
      behind : drop (length (encode_utf8_all (reverse front))) text ≡ encode_utf8_all cs
      behind = ap (drop (length (encode_utf8_all (reverse front)))) parts
          ∙ drop-append_seam (encode_utf8_all (reverse front)) (encode_utf8_all cs)

-- the other runs are those that a search finds from the end of the first one on, and a search can
-- begin there
gone-on : (rule : Rule) (text before rest : List ℕ) (first : Span) (others : List Span)
    → text ≡ before ++ rest → IsUtf8 before → IsUtf8 rest
    → left_by rule text rest ≡ first ∷ others
    → (others ≡ left_by rule text (drop (length first.before + length first.text) text))
    × IsCharBoundary text (length first.before + length first.text)
gone-on rule text before rest first others cut front_utf8 rest_utf8 e = (
  r.rest_is ∙ left-behind rule text done r.behind parts (ap scalars turned ∙ passed_all) behind_all
      ∙ ap (λ n. left_by rule text (drop n text)) lengths,
  subst (IsCharBoundary text) lengths (IsCharBoundary-at_seam text (encode_utf8_all (reverse done))
      (encode_utf8_all r.behind) parts (r.behind, (behind_all, refl))),
) where
  r : Rest rule (in_front before) (chars rest) first others
  r = subst (RestOf rule (in_front before) (chars rest))
      (ap (λ l. spans_after rule false (in_front l) (chars rest)) (sym (seam-front text before rest cut))
      ∙ e) (rest-of rule (in_front before) (chars rest))

  done : List ℕ
  done = reverse_aux r.passed (in_front before)

  turned : reverse done ≡ chars before ++ r.passed
  turned = ap reverse (front-onto (in_front before) r.passed)
      ∙ reverse-append (reverse r.passed) (in_front before)
      ∙ ap (λ l. l ++ reverse (reverse r.passed)) (reverse-reverse (chars before))
      ∙ ap (λ l. chars before ++ l) (reverse-reverse r.passed)

  all : scalars (r.passed ++ r.behind) ≡ true
  all = ap scalars (sym r.parts) ∙ scalars-chars rest rest_utf8

  behind_all : scalars r.behind ≡ true
  behind_all = scalars-end r.passed r.behind all

  passed_all : scalars (chars before ++ r.passed) ≡ true
  passed_all = scalars-both (chars before) r.passed (scalars-chars before front_utf8)
      (scalars-start r.passed r.behind all)

  parts : text ≡ encode_utf8_all (reverse done) ++ encode_utf8_all r.behind
  parts =
      cut ∙ ap (λ l. before ++ l) (sym (encodes-chars rest rest_utf8) ∙ ap encode_utf8_all r.parts
      ∙ encodes-append r.passed r.behind)
      ∙ sym (append_assoc before (encode_utf8_all r.passed) (encode_utf8_all r.behind))
      ∙ ap (λ l. l ++ encode_utf8_all r.passed ++ encode_utf8_all r.behind)
      (sym (encodes-chars before front_utf8))
      ∙ ap (λ l. l ++ encode_utf8_all r.behind) (sym (encodes-append (chars before) r.passed)
      ∙ ap encode_utf8_all (sym turned))

  lengths : length (encode_utf8_all (reverse done)) ≡ length first.before + length first.text
  lengths = ap length r.before_is ∙ length-append first.before first.text

pub search-goes_on : (rule : Rule) (text : List ℕ) (from : ℕ) (first : Span) (others : List Span)
    → IsUtf8 text → IsCharBoundary text from → left_by rule text (drop from text) ≡ first ∷ others
    → (others ≡ left_by rule text (drop (length first.before + length first.text) text))
    × IsCharBoundary text (length first.before + length first.text)
search-goes_on rule text from first others whole begins e =
    gone-on rule text (take from text) (drop from text) first others
    (sym (take-append-drop from text)) (IsUtf8-take text from whole begins)
    (IsUtf8-drop text from whole begins) e
