-- A text and its suffixes.
use Rattle.std.proofs.Common.{◌≡◌, ℕ, ◌+◌, ◌-◌, ◌<◌, true, List, [], ◌∷◌, ◌++◌, length, take, drop, chars, reverse, encode_utf8_all, IsUtf8, refl, sym, ap, ◌∙◌, arith, append_assoc, length-append}
use Rattle.std.proofs.lemmas.List.{reverse-append}
use Rattle.std.proofs.Math.Seq.{drop-append_seam, take-append_seam}
use Rattle.std.proofs.Math.Utf8.{scalar, scalars}
use Rattle.std.proofs.lemmas.Str.{chars-encodes, encodes-append, encodes-chars, encodes_same, scalars-chars, IsCharBoundary-at_seam}
use Rattle.std.specs.Str.{IsCharBoundary}
use Rattle.cn_core.proofs.Fronts.{and-right}
use Rattle.cn_find.specs.Spans.{in_front}
use Rattle.cn_replace.specs.Private.{IsEnd}

pub reverse_last : (front : List ℕ) (c : ℕ) → reverse (front ++ c ∷ []) ≡ c ∷ reverse front
reverse_last front c = reverse-append front (c ∷ [])

pub IsEnd-all : (text : List ℕ) → IsEnd text text
IsEnd-all text = record { front = []; parts = refl }

pub IsEnd-more : (text rest others : List ℕ) (c : ℕ) → IsEnd text rest → chars rest ≡ c ∷ chars others
    → IsEnd text others
IsEnd-more text rest others c e parts = record {
  front = e.front ++ c ∷ [];
  parts = e.parts ∙ ap (λ l. e.front ++ l) parts ∙ sym (append_assoc e.front (c ∷ []) (chars others));
}

-- the bytes before a suffix
front-bytes : (text rest : List ℕ) (e : IsEnd text rest) → IsUtf8 text → IsUtf8 rest
    → text ≡ encode_utf8_all e.front ++ rest
front-bytes text rest e whole ended =
    sym (encodes-chars text whole) ∙ ap encode_utf8_all e.parts
    ∙ encodes-append e.front (chars rest)
    ∙ ap (λ l. encode_utf8_all e.front ++ l) (encodes-chars rest ended)

front-length : (text rest : List ℕ) (e : IsEnd text rest) → IsUtf8 text → IsUtf8 rest
    → length text - length rest ≡ length (encode_utf8_all e.front)
front-length text rest e whole ended =
    let all = ap length (front-bytes text rest e whole ended) in
    omega (arith, all, length-append (encode_utf8_all e.front) rest)

pub end-shorter : (text rest : List ℕ) → IsEnd text rest → IsUtf8 text → IsUtf8 rest
    → length rest < length text + 1
end-shorter text rest e whole ended =
    let all = ap length (front-bytes text rest e whole ended) in
    omega (arith, all, length-append (encode_utf8_all e.front) rest)

pub end-boundary : (text rest : List ℕ) → IsEnd text rest → IsUtf8 text → IsUtf8 rest
    → IsCharBoundary text (length text - length rest)
end-boundary text rest e whole ended =
    rw (front-length text rest e whole ended)
    (IsCharBoundary-at_seam text (encode_utf8_all e.front) rest
    (front-bytes text rest e whole ended) ended)

pub front-chars : (text rest before : List ℕ) → IsEnd text rest → IsUtf8 text → IsUtf8 rest
    → IsUtf8 before → before ≡ take (length text - length rest) text
    → chars text ≡ chars before ++ chars rest
front-chars text rest before e whole ended cut is =
    let same : before ≡ encode_utf8_all e.front =
    is ∙ ap (λ n. take n text) (front-length text rest e whole ended)
    ∙ ap (take (length (encode_utf8_all e.front))) (front-bytes text rest e whole ended)
    ∙ take-append_seam (encode_utf8_all e.front) rest in
    let front : chars before ≡ e.front =
    encodes_same (chars before) e.front (encodes-chars before cut ∙ same) in
    e.parts ∙ ap (λ l. l ++ chars rest) (sym front)

-- the last character of a text, and the text before it
last-cut : (text head : List ℕ) (c : ℕ) → IsUtf8 text → IsUtf8 head
    → chars text ≡ chars head ++ c ∷ [] → text ≡ head ++ encode_utf8_all (c ∷ [])
last-cut text head c whole before e =
    sym (encodes-chars text whole) ∙ ap encode_utf8_all e
    ∙ encodes-append (chars head) (c ∷ [])
    ∙ ap (λ l. l ++ encode_utf8_all (c ∷ [])) (encodes-chars head before)

last-scalar : (front : List ℕ) (c : ℕ) → scalars (front ++ c ∷ []) ≡ true
    → scalars (c ∷ []) ≡ true
last-scalar [] c e = e
last-scalar (d ∷ front) c e = last-scalar front c (and-right (scalar d) (scalars (front ++ c ∷ [])) e)

last-spelled : (text head : List ℕ) (c : ℕ) → IsUtf8 text → chars text ≡ chars head ++ c ∷ []
    → scalars (c ∷ []) ≡ true
last-spelled text head c whole e =
    last-scalar (chars head) c (ap scalars (sym e) ∙ scalars-chars text whole)

pub last_boundary : (text head : List ℕ) (c : ℕ) → IsUtf8 text → IsUtf8 head
    → chars text ≡ chars head ++ c ∷ [] → IsCharBoundary text (length head)
last_boundary text head c whole before e =
    IsCharBoundary-at_seam text head (encode_utf8_all (c ∷ []))
    (last-cut text head c whole before e) (c ∷ [], (last-spelled text head c whole e, refl))

pub last_chars : (text head last : List ℕ) (c : ℕ) → IsUtf8 text → IsUtf8 head
    → chars text ≡ chars head ++ c ∷ [] → last ≡ drop (length head) text → chars last ≡ c ∷ []
last_chars text head last c whole before e cut =
    ap chars (cut ∙ ap (drop (length head)) (last-cut text head c whole before e)
    ∙ drop-append_seam head (encode_utf8_all (c ∷ [])))
    ∙ chars-encodes (c ∷ []) (last-spelled text head c whole e)

pub last_nearest : (text head : List ℕ) (c : ℕ) → chars text ≡ chars head ++ c ∷ []
    → in_front text ≡ c ∷ in_front head
last_nearest text head c e = ap reverse e ∙ reverse_last (chars head) c
