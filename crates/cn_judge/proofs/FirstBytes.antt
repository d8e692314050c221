-- The first character of a text, by its first byte, which determines the character's number of
-- bytes.
use Rattle.std.proofs.Common.{◌≡◌, ℕ, zero, suc, ◌+◌, ◌*◌, ◌/◌, ◌<◌, ◌≤◌, map, Bool, true, false, ltb, List, [], ◌∷◌, ◌++◌, length, get_or, drop, chars, IsUtf8, refl, sym, ap, ◌∙◌, subst, arith, length-append}
use Rattle.std.specs.Str.{continuation_len}
use Rattle.std.proofs.lemmas.Bool.Decides.{nat_tests}
use Rattle.std.proofs.lemmas.Str.{IsUtf8-past_char, chars_past_char}
use Rattle.std.specs.List.{range_with_len}
use lib.Seq.{drop_at}
use lib.Utf8.{encode, encodes}
use Rattle.cn_judge.specs.declared.text.TheConstants.{CHAR_LENS}
use Rattle.cn_judge.proofs.ThreeBytes.{bytes_by, encode-by, below}

abbrev len_by : ℕ → ℕ
len_by first = continuation_len first + 1

pub len_low : (b : ℕ) → b < 128 → len_by b ≡ 1
len_low b p = grind (arith, nat_tests)

len_two : (b : ℕ) → 127 < b → b < 224 → len_by b ≡ 2
len_two b p q = grind (arith, nat_tests)

pub len_three : (b : ℕ) → 223 < b → b < 240 → len_by b ≡ 3
len_three b p q = grind (arith, nat_tests)

len_four : (b : ℕ) → 239 < b → len_by b ≡ 4
len_four b p = grind (arith, nat_tests)

abbrev lens_from : ℕ → ℕ → List ℕ
lens_from low count = map (λ bits. len_by (bits * 16)) (range_with_len low count)

-- all 16 entries of the table
lens : CHAR_LENS ≡ lens_from 0 16
lens = refl

len-at : (low count bits : ℕ) → bits < count
    → get_or (lens_from low count) bits 0 ≡ len_by ((low + bits) * 16)
len-at low zero bits h = absurd (omega (arith, h))
len-at low (suc count) zero h =
    let same : low ≡ low + 0 = omega arith in ap (λ k. len_by (k * 16)) same
len-at low (suc count) (suc bits) h =
    let same : low + 1 + bits ≡ low + suc bits = omega arith in
    len-at (low + 1) count bits (omega (arith, h)) ∙ ap (λ k. len_by (k * 16)) same

len-bits : (first : ℕ) → len_by (first / 16 * 16) ≡ len_by first
len-bits first = grind (arith, nat_tests)

-- the table's entry is the number of bytes of a character with this first byte
pub entry_is_len : (first : ℕ) → first < 256
    → get_or CHAR_LENS (first / 16) 0 ≡ continuation_len first + 1
entry_is_len first small =
    let same : 0 + first / 16 ≡ first / 16 = omega arith in
    ap (λ t. get_or t (first / 16) 0) lens ∙ len-at 0 16 (first / 16) (omega (arith, small))
    ∙ ap (λ k. len_by (k * 16)) same ∙ len-bits first

first-len : (c : ℕ) (rest : List ℕ)
    → length (encode c) ≡ len_by (get_or (encode c ++ rest) 0 0)
first-len c rest = rw (encode-by c) (by (ltb c 128) (ltb c 2048) (ltb c 65536) refl refl refl) where
  by : (x y z : Bool) → ltb c 128 ≡ x → ltb c 2048 ≡ y → ltb c 65536 ≡ z
      → length (bytes_by x y z c) ≡ len_by (get_or (bytes_by x y z c ++ rest) 0 0)
  by true y z p q r = sym (len_low _ (below c 128 p))
  by false true z p q r =
      let small = below c 2048 q in
      sym (len_two (192 + c / 64) (omega arith) (omega (arith, small)))
  by false false true p q r =
      let small = below c 65536 r in
      sym (len_three (224 + c / 4096) (omega arith) (omega (arith, small)))
  by false false false p q r = sym (len_four (240 + c / 262144) (omega arith))

-- a text that starts with a character
pub record Starts (bytes : List ℕ) (len : ℕ) : Type 0 where
  pub code : ℕ
  pub whole : bytes ≡ encode code ++ drop len bytes
  pub parts : chars bytes ≡ code ∷ chars (drop len bytes)
  pub size : length (encode code) ≡ len
  pub within : len ≤ length bytes
  pub left : IsUtf8 (drop len bytes)

pub starts : (bytes : List ℕ) (len : ℕ) → IsUtf8 bytes → 0 < length bytes
    → len ≡ continuation_len (get_or bytes 0 0) + 1 → Starts bytes len
starts bytes len whole some size = by whole.0 whole.1.1 where
  by : (cs : List ℕ) → encodes cs ≡ bytes → Starts bytes len
  by [] e = absurd (omega (arith, some, ap length e))
  by (c ∷ cs) e =
      let same : length (encode c) ≡ len =
      first-len c (encodes cs) ∙ ap (λ l. len_by (get_or l 0 0)) e ∙ sym size in
      let cut : drop len bytes ≡ encodes cs =
      ap (drop len) (sym e) ∙ drop_at (encode c) (encodes cs) len same in
      let all : bytes ≡ encode c ++ drop len bytes = sym e ∙ ap (λ l. encode c ++ l) (sym cut) in
      record {
        code = c;
        whole = all;
        parts = chars_past_char _ _ _ whole all;
        size = same;
        within = omega (arith, same, ap length e, length-append (encode c) (encodes cs));
        left = subst IsUtf8 (sym cut) (IsUtf8-past_char bytes (encodes cs) c whole (sym e));
      }
