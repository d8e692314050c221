-- The number of characters that begin in some bytes.
use Rattle.std.proofs.Common.{◌≡◌, ℕ, zero, suc, ◌+◌, ◌/◌, ◌<◌, ◌≤◌, Bool, true, false, ltb, List, ◌++◌, ◌-◌, length, get_or, take, drop, refl, sym, ap, subst, ◌∙◌, arith, length-drop, get_or-drop}
use Rattle.std.specs.Array.{IsFirstChunk}
use Rattle.std.proofs.lemmas.Bool.Decides.{nat_tests}
use Rattle.std.proofs.lemmas.List.{get_or-take, take_all}
use lib.Utf8.{encode}
use Rattle.cn_judge.specs.Private.Firsts.{first_count, firsts}
use Rattle.cn_judge.proofs.ThreeBytes.{bytes_by, encode-by, below}

pub firsts-none : (bytes : List ℕ) → firsts bytes 0 ≡ 0
unfolding firsts
firsts-none bytes = refl

firsts-suc : (bytes : List ℕ) (many : ℕ)
    → firsts bytes (suc many) ≡ firsts bytes many + first_count (get_or bytes many 0)
unfolding firsts
firsts-suc bytes many = refl

pub firsts-next : (bytes : List ℕ) (many : ℕ)
    → firsts bytes (many + 1) ≡ firsts bytes many + first_count (get_or bytes many 0)
firsts-next bytes many =
    let next : suc many ≡ many + 1 = omega arith in
    subst (λ n. firsts bytes n ≡ firsts bytes many + first_count (get_or bytes many 0)) next
    (firsts-suc bytes many)

pub first_count-most : (byte : ℕ) → first_count byte ≤ 1
first_count-most byte = grind (arith, nat_tests)

continues : (byte : ℕ) → 127 < byte → byte < 192 → first_count byte ≡ 0
continues byte low high = grind (arith, nat_tests)

begins-low : (byte : ℕ) → byte < 128 → first_count byte ≡ 1
begins-low byte high = grind (arith, nat_tests)

begins-high : (byte : ℕ) → 191 < byte → first_count byte ≡ 1
begins-high byte low = grind (arith, nat_tests)

-- bytes that are equal to a part of a text count as many first bytes as that part
pub firsts-alike : (bytes part : List ℕ) (at many : ℕ)
    → ((k : ℕ) → k < many → get_or part k 0 ≡ get_or bytes (at + k) 0)
    → firsts bytes (at + many) ≡ firsts bytes at + firsts part many
firsts-alike bytes part at zero same =
    let none : at ≡ at + 0 = omega arith in
    omega (arith, firsts-none part, ap (firsts bytes) none)
firsts-alike bytes part at (suc many) same =
    let before = firsts-alike bytes part at many (λ k less. same k (omega (arith, less))) in
    let next : suc (at + many) ≡ at + suc many = omega arith in
    omega (
      arith,
      before,
      ap (firsts bytes) next,
      firsts-suc bytes (at + many),
      firsts-suc part many,
      ap first_count (same many (omega arith)),
    )

-- the first byte of a character counts, and its other bytes do not
front : (c : ℕ) (rest : List ℕ) → first_count (get_or (encode c ++ rest) 0 0) ≡ 1
front c rest = rw (encode-by c) (by (ltb c 128) (ltb c 2048) (ltb c 65536) refl refl refl) where
  by : (x y z : Bool) → ltb c 128 ≡ x → ltb c 2048 ≡ y → ltb c 65536 ≡ z
      → first_count (get_or (bytes_by x y z c ++ rest) 0 0) ≡ 1
  by true y z p q r = begins-low c (below c 128 p)
  by false true z p q r = begins-high (192 + c / 64) (omega arith)
  by false false true p q r = begins-high (224 + c / 4096) (omega arith)
  by false false false p q r = begins-high (240 + c / 262144) (omega arith)

behind-front : (c : ℕ) (rest : List ℕ) (k : ℕ) → suc k < length (encode c)
    → first_count (get_or (encode c ++ rest) (suc k) 0) ≡ 0
behind-front c rest k = rw (encode-by c) (by (ltb c 128) (ltb c 2048) (ltb c 65536) k) where
  by : (x y z : Bool) (k : ℕ) → suc k < length (bytes_by x y z c)
      → first_count (get_or (bytes_by x y z c ++ rest) (suc k) 0) ≡ 0
  by true y z k less = absurd (omega (arith, less))
  by false true z zero less = continues _ (omega arith) (omega arith)
  by false true z (suc k) less = absurd (omega (arith, less))
  by false false true zero less = continues _ (omega arith) (omega arith)
  by false false true (suc zero) less = continues _ (omega arith) (omega arith)
  by false false true (suc (suc k)) less = absurd (omega (arith, less))
  by false false false zero less = continues _ (omega arith) (omega arith)
  by false false false (suc zero) less = continues _ (omega arith) (omega arith)
  by false false false (suc (suc zero)) less = continues _ (omega arith) (omega arith)
  by false false false (suc (suc (suc k))) less = absurd (omega (arith, less))

-- the first `len` bytes are those of one character
pub record IsCharacter (bytes : List ℕ) (len : ℕ) : Type 0 where
  pub goes_on : (k : ℕ) → 0 < k → k < len → first_count (get_or bytes k 0) ≡ 0
  pub one : firsts bytes len ≡ 1

one-first : (bytes : List ℕ) (many : ℕ) → first_count (get_or bytes 0 0) ≡ 1
    → ((k : ℕ) → 0 < k → k < suc many → first_count (get_or bytes k 0) ≡ 0)
    → firsts bytes (suc many) ≡ 1
one-first bytes zero first others = omega (arith, firsts-suc bytes 0, firsts-none bytes, first)
one-first bytes (suc many) first others =
    let before = one-first bytes many first (λ k some less. others k some (omega (arith, less))) in
    omega (arith, firsts-suc bytes (suc many), before, others (suc many) (omega arith) (omega arith))

pub is-character : (bytes rest : List ℕ) (c len : ℕ) → bytes ≡ encode c ++ rest → length (encode c) ≡ len
    → 0 < len → IsCharacter bytes len
is-character bytes rest c zero parts size some = absurd (omega (arith, some))
is-character bytes rest c (suc many) parts size some =
    let first = subst (λ l. first_count (get_or l 0 0) ≡ 1) (sym parts) (front c rest) in
    record {
      goes_on = others;
      one = one-first bytes many first others;
    } where
      others : (k : ℕ) → 0 < k → k < suc many → first_count (get_or bytes k 0) ≡ 0
      others zero more less = absurd (omega (arith, more))
      others (suc k) more less = subst (λ l. first_count (get_or l (suc k) 0) ≡ 0) (sym parts)
          (behind-front c rest k (omega (arith, size, less)))

-- the bytes of a chunk that is taken at an index
pub chunk-at : (bytes chunk : List ℕ) (at size : ℕ) → at ≤ length bytes
    → IsFirstChunk (take (length bytes - at) (drop at bytes)) chunk size
    → (at + size ≤ length bytes) × ((k : ℕ) → k < size → get_or chunk k 0 ≡ get_or bytes (at + k) 0)
chunk-at bytes chunk at size within is =
    let left = length-drop at bytes in
    let all = take_all (length bytes - at) (drop at bytes) (omega (arith, left)) in (
      omega (arith, is.enough, ap length all, left, within),
      λ k less. ap (λ l. get_or l k 0) is.same
          ∙ get_or-take size (take (length bytes - at) (drop at bytes)) k 0 less
          ∙ ap (λ l. get_or l k 0) all ∙ get_or-drop at bytes k 0,
    )

pub firsts-chunk : (bytes chunk : List ℕ) (at : ℕ) → at ≤ length bytes
    → IsFirstChunk (take (length bytes - at) (drop at bytes)) chunk 32
    → (at + 32 ≤ length bytes) × (firsts bytes (at + 32) ≡ firsts bytes at + firsts chunk 32)
firsts-chunk bytes chunk at within is =
    let next = chunk-at bytes chunk at 32 within is in (next.0, firsts-alike bytes chunk at 32 next.1)
