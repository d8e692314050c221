-- A string and its suffixes: what is before a suffix, and the text without white space.
use Rattle.std.proofs.Common.{◌≡◌, ℕ, ◌+◌, ◌-◌, ◌<◌, false, List, [], ◌∷◌, ◌++◌, length, take, chars, encode_utf8_all, IsUtf8, refl, sym, ap, ◌∙◌, arith, append_assoc, length-append}
use Rattle.std.proofs.Math.Seq.{take-append_seam}
use Rattle.std.proofs.lemmas.Str.{encodes-append, encodes-chars, encodes_same, IsCharBoundary-at_seam}
use Rattle.std.specs.Char.{is_whitespace}
use Rattle.std.specs.Str.{IsCharBoundary}
use Rattle.cn_core.specs.Text.{text_of}
use Rattle.cn_judge.specs.Piece.{StandsAt, EndsWith}
use Rattle.cn_judge.proofs.Judgements.{text-first}
use Rattle.cn_judge.proofs.Pieces.{text-last}
use Rattle.cn_judge.proofs.Walking.{filter-append}
use Rattle.cn_quantity.specs.Private.{IsEnd, BeginsWith, FinishesWith}

pub BeginsWith-at : (bytes rest : List ℕ) (index c : ℕ) → StandsAt bytes (c ∷ chars rest) index 0
    → is_whitespace c ≡ false → BeginsWith bytes c rest
BeginsWith-at bytes rest index c at dark = record {
  text = text-first bytes rest index c at dark;
  end = record {
    front = at.front ++ c ∷ [];
    parts = at.parts ∙ sym (append_assoc at.front (c ∷ []) (chars rest));
  };
}

pub FinishesWith-at : (bytes before : List ℕ) (c : ℕ) → EndsWith bytes c before
    → FinishesWith bytes c before
FinishesWith-at bytes before c e = record {
  text = text-last bytes before c e;
  front = record { more = c ∷ e.white; parts = e.parts };
}

pub IsEnd-all : (bytes : List ℕ) → IsEnd bytes bytes
IsEnd-all bytes = record { front = []; parts = refl }

-- a suffix of a suffix
pub IsEnd-end : (bytes rest after : List ℕ) → IsEnd bytes rest → IsEnd rest after
    → IsEnd bytes after
IsEnd-end bytes rest after e f = record {
  front = e.front ++ f.front;
  parts = e.parts ∙ ap (λ l. e.front ++ l) f.parts
      ∙ sym (append_assoc e.front f.front (chars after));
}

-- the bytes before a suffix
front-bytes : (bytes rest : List ℕ) (e : IsEnd bytes rest) → IsUtf8 bytes → IsUtf8 rest
    → bytes ≡ encode_utf8_all e.front ++ rest
front-bytes bytes rest e whole ended =
    sym (encodes-chars bytes whole) ∙ ap encode_utf8_all e.parts
    ∙ encodes-append e.front (chars rest)
    ∙ ap (λ l. encode_utf8_all e.front ++ l) (encodes-chars rest ended)

front-length : (bytes rest : List ℕ) (e : IsEnd bytes rest) → IsUtf8 bytes → IsUtf8 rest
    → length bytes - length rest ≡ length (encode_utf8_all e.front)
front-length bytes rest e whole ended =
    let all = ap length (front-bytes bytes rest e whole ended) in
    omega (arith, all, length-append (encode_utf8_all e.front) rest)

pub end-shorter : (bytes rest : List ℕ) → IsEnd bytes rest → IsUtf8 bytes → IsUtf8 rest
    → length rest < length bytes + 1
end-shorter bytes rest e whole ended =
    let all = ap length (front-bytes bytes rest e whole ended) in
    omega (arith, all, length-append (encode_utf8_all e.front) rest)

pub end-boundary : (bytes rest : List ℕ) → IsEnd bytes rest → IsUtf8 bytes → IsUtf8 rest
    → IsCharBoundary bytes (length bytes - length rest)
end-boundary bytes rest e whole ended =
    rw (front-length bytes rest e whole ended)
    (IsCharBoundary-at_seam bytes (encode_utf8_all e.front) rest
    (front-bytes bytes rest e whole ended) ended)

-- and its characters
pub front-chars : (bytes rest before : List ℕ) → IsEnd bytes rest → IsUtf8 bytes → IsUtf8 rest
    → IsUtf8 before → before ≡ take (length bytes - length rest) bytes
    → chars bytes ≡ chars before ++ chars rest
front-chars bytes rest before e whole ended cut is =
    let same : before ≡ encode_utf8_all e.front =
    is ∙ ap (λ n. take n bytes) (front-length bytes rest e whole ended)
    ∙ ap (take (length (encode_utf8_all e.front))) (front-bytes bytes rest e whole ended)
    ∙ take-append_seam (encode_utf8_all e.front) rest in
    let front : chars before ≡ e.front =
    encodes_same (chars before) e.front (encodes-chars before cut ∙ same) in
    e.parts ∙ ap (λ l. l ++ chars rest) (sym front)

-- a text in two parts
pub text-parts : (bytes before rest : List ℕ) → chars bytes ≡ chars before ++ chars rest
    → text_of bytes ≡ text_of before ++ text_of rest
text-parts bytes before rest parts = rw (parts, filter-append)
