-- A string, cut before the character with a char_index.
use Rattle.std.proofs.Common.{◌≡◌, ℕ, zero, suc, Bool, true, false, List, [], ◌∷◌, ◌++◌, take, drop, filter, chars, encode_utf8, encode_utf8_all, IsUtf8, refl, sym, ap, ◌∙◌, append_assoc}
use Rattle.std.proofs.lemmas.List.{take-append-drop}
use Rattle.std.proofs.Math.Seq.{drop-append_seam}
use Rattle.std.proofs.lemmas.Str.{encodes-append, encodes-chars, encodes_same, IsCharBoundary-at_seam, IsUtf8-drop, IsUtf8-past_char}
use Rattle.std.specs.Str.{IsCharBoundary}
use Rattle.std.specs.Char.{is_whitespace, is_not_whitespace}
use Rattle.cn_core.specs.CharIndex.{char_index_among, char_index_of}
use Rattle.cn_core.specs.Text.{text_of, marks_of}
use Rattle.cn_judge.specs.ByteIndex.{byte_index}
use Rattle.cn_judge.specs.Reason.{rule_broken_at, rule_broken_first}

-- the bytes before and after the cut
bytes-cut : (bytes : List ℕ) (n : ℕ) → IsUtf8 bytes
    → bytes ≡ encode_utf8_all (take n (chars bytes)) ++ encode_utf8_all (drop n (chars bytes))
bytes-cut bytes n whole =
    sym (encodes-chars bytes whole)
    ∙ ap encode_utf8_all (sym (take-append-drop n (chars bytes)))
    ∙ encodes-append (take n (chars bytes)) (drop n (chars bytes))

-- the bytes after some characters are text
after-utf8 : (front rest bytes : List ℕ) → IsUtf8 bytes → bytes ≡ encode_utf8_all front ++ rest
    → IsUtf8 rest
after-utf8 [] rest bytes whole parts = rw parts at whole
after-utf8 (c ∷ front) rest bytes whole parts =
    after-utf8 front rest (encode_utf8_all front ++ rest)
    (IsUtf8-past_char bytes (encode_utf8_all front ++ rest) c whole
    (parts ∙ append_assoc (encode_utf8 c) (encode_utf8_all front) rest)) refl

pub boundary-cut : (bytes : List ℕ) (n : ℕ) → IsUtf8 bytes
    → IsCharBoundary bytes (byte_index bytes n)
boundary-cut bytes n whole =
    let parts = bytes-cut bytes n whole in
    IsCharBoundary-at_seam bytes (encode_utf8_all (take n (chars bytes))) _ parts
    (after-utf8 (take n (chars bytes)) _ bytes whole parts)

pub chars-cut : (bytes from : List ℕ) (n : ℕ) → IsUtf8 bytes
    → from ≡ drop (byte_index bytes n) bytes → chars from ≡ drop n (chars bytes)
chars-cut bytes from n whole is =
    let ended : IsUtf8 from = rw is (IsUtf8-drop bytes _ whole (boundary-cut bytes n whole)) in
    encodes_same (chars from) (drop n (chars bytes))
    (encodes-chars from ended ∙ is ∙ ap (drop (byte_index bytes n)) (bytes-cut bytes n whole)
    ∙ drop-append_seam (encode_utf8_all (take n (chars bytes))) _)

-- the text from the character at a place on
text-among : (characters : List ℕ) (place : ℕ)
    → filter is_not_whitespace (drop (char_index_among characters place) characters)
    ≡ drop place (filter is_not_whitespace characters)
text-among [] zero = refl
text-among [] (suc place) = refl
text-among (c ∷ rest) zero = by (is_whitespace c) refl (text-among rest 0) where
  by : (b : Bool) → is_whitespace c ≡ b
      → filter is_not_whitespace (drop (char_index_among rest 0) rest)
      ≡ filter is_not_whitespace rest
      → filter is_not_whitespace (drop (char_index_among (c ∷ rest) 0) (c ∷ rest))
      ≡ filter is_not_whitespace (c ∷ rest)
  by true white ih = rw white ih
  by false dark ih =
      let here : char_index_among (c ∷ rest) 0 ≡ 0 = rw dark refl in
      ap (λ n. filter is_not_whitespace (drop n (c ∷ rest))) here
text-among (c ∷ rest) (suc place) =
    by (is_whitespace c) refl (text-among rest (suc place)) (text-among rest place) where
      by : (b : Bool) → is_whitespace c ≡ b
          → filter is_not_whitespace (drop (char_index_among rest (suc place)) rest)
          ≡ drop (suc place) (filter is_not_whitespace rest)
          → filter is_not_whitespace (drop (char_index_among rest place) rest)
          ≡ drop place (filter is_not_whitespace rest)
          → filter is_not_whitespace (drop (char_index_among (c ∷ rest) (suc place)) (c ∷ rest))
          ≡ drop (suc place) (filter is_not_whitespace (c ∷ rest))
      by true white ih next = rw white ih
      by false dark ih next = rw dark next

pub rule-at_place : (bytes : List ℕ) (place : ℕ)
    → rule_broken_at bytes (char_index_of bytes place)
    ≡ rule_broken_first (marks_of (drop place (text_of bytes)))
rule-at_place bytes place =
    ap (λ text. rule_broken_first (marks_of text)) (text-among (chars bytes) place)
