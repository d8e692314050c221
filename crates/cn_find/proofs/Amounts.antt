-- The amount at the start or at the end of a text, while a loop passes it.
use Rattle.std.proofs.Common.{◌≡◌, ℕ, ◌-◌, true, List, [], ◌∷◌, ◌++◌, length, take, drop, reverse, chars, encode_utf8_all, IsUtf8, refl, sym, ap, ◌∙◌, append_assoc, append-nil}
use Rattle.std.proofs.Math.Seq.{take-append_seam, drop-append_seam}
use Rattle.std.proofs.Math.Utf8.{scalar, scalars}
use Rattle.std.proofs.lemmas.List.{reverse-append, reverse-reverse}
use Rattle.std.proofs.lemmas.Str.{encodes-append, encodes-chars, scalars-chars, IsCharBoundary-at_seam}
use Rattle.std.specs.Str.{IsCharBoundary}
use Rattle.cn_core.proofs.Fronts.{and-left, and-right, both}
use Rattle.cn_find.specs.Ranges.{amount_of, is_of_amount}
use Rattle.cn_find.specs.Spans.{in_front}
use Rattle.cn_find.proofs.Runs.{seam-boundary, seam-length}

-- reversing the characters before something twice gives the text
pub twice_reversed : (bytes : List ℕ) → IsUtf8 bytes
    → encode_utf8_all (reverse (reverse (chars bytes))) ≡ bytes
twice_reversed bytes utf8 =
    ap encode_utf8_all (reverse-reverse (chars bytes)) ∙ encodes-chars bytes utf8

-- a part of the amount at the start is passed, and `rest` is ahead
pub record Passed (text rest : List ℕ) : Type 0 where
  pub front : List ℕ
  pub parts : text ≡ encode_utf8_all front ++ rest
  pub amount : amount_of (chars text) ≡ front ++ amount_of (chars rest)

pub passed_first : (text : List ℕ) → Passed text text
passed_first text = record { front = []; parts = refl; amount = refl }

one-more : (rest others : List ℕ) (c : ℕ) → IsUtf8 rest → IsUtf8 others
    → chars rest ≡ c ∷ chars others → rest ≡ encode_utf8_all (c ∷ []) ++ others
one-more rest others c utf8 utf8_others e =
    sym (encodes-chars rest utf8) ∙ ap encode_utf8_all e
    ∙ encodes-append (c ∷ []) (chars others)
    ∙ ap (λ l. encode_utf8_all (c ∷ []) ++ l) (encodes-chars others utf8_others)

pub passed_more : (text rest others : List ℕ) (c : ℕ) → Passed text rest → IsUtf8 rest
    → IsUtf8 others → chars rest ≡ c ∷ chars others → is_of_amount c ≡ true → Passed text others
passed_more text rest others c p utf8 utf8_others e is_of = record {
  front = p.front ++ c ∷ [];
  parts = rw (p.parts, one-more rest others c utf8 utf8_others e, encodes-append p.front (c ∷ []))
      (sym (append_assoc (encode_utf8_all p.front) (encode_utf8_all (c ∷ [])) others));
  amount = rw (p.amount, e, taken)
      (sym (append_assoc p.front (c ∷ []) (amount_of (chars others))));
} where
  taken : amount_of (c ∷ chars others) ≡ c ∷ amount_of (chars others)
  taken = rw is_of refl

pub passed_boundary : (text rest : List ℕ) → Passed text rest → IsUtf8 rest
    → IsCharBoundary text (length text - length rest)
passed_boundary text rest p utf8 =
    seam-boundary text (encode_utf8_all p.front) rest p.parts utf8

pub passed_taken : (text rest : List ℕ) → Passed text rest → amount_of (chars rest) ≡ []
    → take (length text - length rest) text ≡ encode_utf8_all (amount_of (chars text))
passed_taken text rest p none =
    ap (λ n. take n text) (seam-length text (encode_utf8_all p.front) rest p.parts)
    ∙ ap (take (length (encode_utf8_all p.front))) p.parts
    ∙ take-append_seam (encode_utf8_all p.front) rest
    ∙ sym (ap encode_utf8_all (p.amount ∙ ap (λ l. p.front ++ l) none ∙ append-nil p.front))

-- a part of the amount at the end is passed, the last character first, and `rest` is ahead
pub record PassedBack (text rest : List ℕ) : Type 0 where
  pub passed : List ℕ
  pub parts : text ≡ rest ++ encode_utf8_all (reverse passed)
  pub spelled : scalars (reverse passed) ≡ true
  pub amount : amount_of (in_front text) ≡ passed ++ amount_of (in_front rest)

pub back_first : (text : List ℕ) → PassedBack text text
back_first text = record {
  passed = [];
  parts = sym (append-nil text);
  spelled = refl;
  amount = refl;
}

-- the characters of `rest` are those of the text before its last character, and that
turned : (rest front : List ℕ) (c : ℕ) → in_front rest ≡ c ∷ in_front front
    → chars rest ≡ chars front ++ c ∷ []
turned rest front c e =
    sym (reverse-reverse (chars rest)) ∙ ap reverse e
    ∙ reverse-append (c ∷ []) (reverse (chars front))
    ∙ ap (λ l. l ++ c ∷ []) (reverse-reverse (chars front))

back-more : (rest front : List ℕ) (c : ℕ) → IsUtf8 rest → IsUtf8 front
    → chars rest ≡ chars front ++ c ∷ [] → rest ≡ front ++ encode_utf8_all (c ∷ [])
back-more rest front c utf8 utf8_front e =
    sym (encodes-chars rest utf8) ∙ ap encode_utf8_all e
    ∙ encodes-append (chars front) (c ∷ [])
    ∙ ap (λ l. l ++ encode_utf8_all (c ∷ [])) (encodes-chars front utf8_front)

last-scalar : (front : List ℕ) (c : ℕ) → scalars (front ++ c ∷ []) ≡ true → scalar c ≡ true
last-scalar [] c e = and-left (scalar c) true e
last-scalar (d ∷ front) c e = last-scalar front c (and-right (scalar d) (scalars (front ++ c ∷ [])) e)

pub back_more : (text rest front : List ℕ) (c : ℕ) → PassedBack text rest → IsUtf8 rest
    → IsUtf8 front → in_front rest ≡ c ∷ in_front front → is_of_amount c ≡ true
    → PassedBack text front
back_more text rest front c p utf8 utf8_front e is_of = record {
  passed = p.passed ++ c ∷ [];
  parts = rw (p.parts, more, back-more rest front c utf8 utf8_front characters)
      (append_assoc front (encode_utf8_all (c ∷ [])) (encode_utf8_all (reverse p.passed))
      ∙ ap (λ l. front ++ l) (sym (encodes-append (c ∷ []) (reverse p.passed))));
  spelled = ap scalars more
      ∙ both (scalar c) (scalars (reverse p.passed))
      (last-scalar (chars front) c (ap scalars (sym characters) ∙ scalars-chars rest utf8)) p.spelled;
  amount = rw (p.amount, e, taken)
      (sym (append_assoc p.passed (c ∷ []) (amount_of (in_front front))));
} where
  characters : chars rest ≡ chars front ++ c ∷ []
  characters = turned rest front c e

  more : reverse (p.passed ++ c ∷ []) ≡ c ∷ reverse p.passed
  more = reverse-append p.passed (c ∷ [])

  taken : amount_of (c ∷ in_front front) ≡ c ∷ amount_of (in_front front)
  taken = rw is_of refl

pub back_boundary : (text rest : List ℕ) → PassedBack text rest
    → IsCharBoundary text (length rest)
back_boundary text rest p =
    IsCharBoundary-at_seam text rest (encode_utf8_all (reverse p.passed)) p.parts
    (reverse p.passed, (p.spelled, refl))

pub back_taken : (text rest : List ℕ) → PassedBack text rest → amount_of (in_front rest) ≡ []
    → drop (length rest) text ≡ encode_utf8_all (reverse (amount_of (in_front text)))
back_taken text rest p none =
    ap (drop (length rest)) p.parts ∙ drop-append_seam rest (encode_utf8_all (reverse p.passed))
    ∙ sym (ap (λ l. encode_utf8_all (reverse l))
    (p.amount ∙ ap (λ l. p.passed ++ l) none ∙ append-nil p.passed))
