-- The bytes of one character, and the bytes after them.
use Rattle.std.proofs.Common.{◌≡◌, ◌<◌, ◌≤◌, ◌+◌, ◌-◌, ◌*◌, ◌/◌, ◌%◌, ℕ, zero, suc, Bool, false, true, ◌&&◌, ltb, List, [], ◌∷◌, ◌++◌, length, take, drop, get_or, refl, ap, ◌∙◌, sym, subst, arith, rules, length-drop, get_or-drop}
use Rattle.std.proofs.Math.Logic.{⊎_elim}
use Rattle.std.proofs.lemmas.Bool.{ltb-false}
use Rattle.std.proofs.lemmas.Bool.Decides.{nat_tests}
use Rattle.std.proofs.lemmas.List.{get_or-take, get_or_past, length-take-le, take-append-drop, take_all}
use Rattle.std.proofs.lemmas.Str.{IsCharBoundary-from_take, IsUtf8-append, IsUtf8-drop, IsUtf8-encode, IsUtf8-from_ascii, IsUtf8-from_is_utf8, IsUtf8-nil, is_utf8-from_IsUtf8}
use Rattle.std.specs.Array.{IsFirstChunk}
use Rattle.std.specs.Int.{IsInRange, from_le_bytes, w32}
use Rattle.std.specs.Prelude.{IsUtf8}
use Rattle.std.specs.Str.{is_utf8}
use Rattle.cn_judge.proofs.ThreeBytes.{bytes_by, below, encode-by}
use Rattle.cn_dynamic.specs.Private.CharacterBytes.{IsTwo, IsThree, IsFour}
use lib.Utf8.{encode, encodes, next, scalar, scalars, scalar_cases, low_scalar}

encoded : (c : ℕ) (x y z : Bool) → ltb c 128 ≡ x → ltb c 2048 ≡ y → ltb c 65536 ≡ z
    → encode c ≡ bytes_by x y z c
encoded c x y z p q r = rw (encode-by c, p, q, r) refl

high_scalar : (c : ℕ) → 57344 ≤ c → c < 1114112 → scalar c ≡ true
high_scalar c low high = search (rules, nat_tests)

other_scalar : (c : ℕ) → c < 65536 → (55296 ≤ c → 57344 ≤ c) → scalar c ≡ true
other_scalar c high past = by (ltb c 55296) refl where
  by : (x : Bool) → ltb c 55296 ≡ x → scalar c ≡ true
  by true s = low_scalar c (below c 55296 s)
  by false s = high_scalar c (past (ltb-false c 55296 s)) (omega (arith, high))

-- bytes in these ranges are a character of two, three or four
pub two_are_utf8 : (bytes : List ℕ) → IsTwo (get_or bytes 0 0) (get_or bytes 1 0)
    → IsUtf8 (take 2 bytes)
two_are_utf8 [] is = absurd (omega (arith, is.0))
two_are_utf8 (a ∷ []) is = absurd (omega (arith, is.1))
two_are_utf8 (a ∷ b ∷ rest) is =
    let c = (a - 192) * 64 + (b - 128) in
    let p : 192 + c / 64 ≡ a = omega (arith, is.0, is.1) in
    let q : next c ≡ b = omega (arith, is.0, is.1) in
    let e : ltb c 128 ≡ false = grind (arith, nat_tests, is.0, is.1) in
    let f : ltb c 2048 ≡ true = grind (arith, nat_tests, is.0, is.1) in
    subst IsUtf8 (encoded c false true _ e f refl ∙ (λ k. p k ∷ q k ∷ []))
    (IsUtf8-encode c (low_scalar c (omega (arith, is.0, is.1))))

pub three_are_utf8 : (bytes : List ℕ)
    → IsThree (get_or bytes 0 0) (get_or bytes 1 0) (get_or bytes 2 0) → IsUtf8 (take 3 bytes)
three_are_utf8 [] is = absurd (omega (arith, is.0))
three_are_utf8 (a ∷ []) is = absurd (omega (arith, is.1))
three_are_utf8 (a ∷ b ∷ []) is = absurd (omega (arith, is.2))
three_are_utf8 (a ∷ b ∷ d ∷ rest) is =
    let c = (a - 224) * 4096 + (b - 128) * 64 + (d - 128) in
    let p : 224 + c / 4096 ≡ a = omega (arith, is.0, is.1, is.2) in
    let q : next (c / 64) ≡ b = omega (arith, is.0, is.1, is.2) in
    let r : next c ≡ d = omega (arith, is.0, is.1, is.2) in
    let low : 2048 ≤ c = omega (arith, is.0, is.1, is.2, is.3) in
    let high : c < 65536 = omega (arith, is.0, is.1, is.2) in
    let e : ltb c 128 ≡ false = search (rules, nat_tests) in
    let f : ltb c 2048 ≡ false = search (rules, nat_tests) in
    let g : ltb c 65536 ≡ true = search (rules, nat_tests) in
    let past : 55296 ≤ c → 57344 ≤ c = λ far.
    let behind = is.4 (omega (arith, far, is.0, is.1, is.2)) in
    omega (arith, behind, is.0, is.1, is.2) in
    subst IsUtf8 (encoded c false false true e f g ∙ (λ k. p k ∷ q k ∷ r k ∷ []))
    (IsUtf8-encode c (other_scalar c high past))

pub four_are_utf8 : (bytes : List ℕ)
    → IsFour (get_or bytes 0 0) (get_or bytes 1 0) (get_or bytes 2 0) (get_or bytes 3 0)
    → IsUtf8 (take 4 bytes)
four_are_utf8 [] is = absurd (omega (arith, is.0))
four_are_utf8 (a ∷ []) is = absurd (omega (arith, is.0))
four_are_utf8 (a ∷ b ∷ []) is = absurd (omega (arith, is.1))
four_are_utf8 (a ∷ b ∷ d ∷ []) is = absurd (omega (arith, is.2))
four_are_utf8 (a ∷ b ∷ d ∷ h ∷ rest) is =
    let c = (a - 240) * 262144 + (b - 128) * 4096 + (d - 128) * 64 + (h - 128) in
    let p : 240 + c / 262144 ≡ a = omega (arith, is.0, is.1, is.2, is.3) in
    let q : next (c / 4096) ≡ b = omega (arith, is.0, is.1, is.2, is.3) in
    let r : next (c / 64) ≡ d = omega (arith, is.0, is.1, is.2, is.3) in
    let s : next c ≡ h = omega (arith, is.0, is.1, is.2, is.3) in
    let low : 65536 ≤ c = omega (arith, is.0, is.1, is.2, is.3) in
    let high : c < 1114112 = omega (arith, is.0, is.1, is.2, is.3) in
    let e : ltb c 128 ≡ false = search (rules, nat_tests) in
    let f : ltb c 2048 ≡ false = search (rules, nat_tests) in
    let g : ltb c 65536 ≡ false = search (rules, nat_tests) in
    subst IsUtf8 (encoded c false false false e f g ∙ (λ k. p k ∷ q k ∷ r k ∷ s k ∷ []))
    (IsUtf8-encode c (high_scalar c (omega (arith, low)) high))

and-left : (x y : Bool) → (x && y) ≡ true → x ≡ true
and-left true y e = refl
and-left false y e = e

-- and no other bytes are
one-of-these : (c : ℕ) (rest : List ℕ) → scalar c ≡ true → 128 ≤ get_or (encode c ++ rest) 0 0
    → ¬ (IsTwo (get_or (encode c ++ rest) 0 0) (get_or (encode c ++ rest) 1 0))
    → ¬ (IsThree (get_or (encode c ++ rest) 0 0) (get_or (encode c ++ rest) 1 0)
    (get_or (encode c ++ rest) 2 0))
    → ¬ (IsFour (get_or (encode c ++ rest) 0 0) (get_or (encode c ++ rest) 1 0)
    (get_or (encode c ++ rest) 2 0) (get_or (encode c ++ rest) 3 0))
    → ⊥
one-of-these c rest valid =
    rw (encode-by c) (by (ltb c 128) (ltb c 2048) (ltb c 65536) refl refl refl) where
      by : (x y z : Bool) → ltb c 128 ≡ x → ltb c 2048 ≡ y → ltb c 65536 ≡ z
          → 128 ≤ get_or (bytes_by x y z c ++ rest) 0 0
          → ¬ (IsTwo (get_or (bytes_by x y z c ++ rest) 0 0) (get_or (bytes_by x y z c ++ rest) 1 0))
          → ¬ (IsThree (get_or (bytes_by x y z c ++ rest) 0 0)
          (get_or (bytes_by x y z c ++ rest) 1 0) (get_or (bytes_by x y z c ++ rest) 2 0))
          → ¬ (IsFour (get_or (bytes_by x y z c ++ rest) 0 0)
          (get_or (bytes_by x y z c ++ rest) 1 0) (get_or (bytes_by x y z c ++ rest) 2 0)
          (get_or (bytes_by x y z c ++ rest) 3 0))
          → ⊥
      by true y z p q r low two three four = omega (arith, below c 128 p, low)
      by false true z p q r low two three four =
          let great = ltb-false c 128 p in
          let small = below c 2048 q in
          two ((omega (arith, great), omega (arith, small)), (omega arith, omega arith))
      by false false true p q r low two three four =
          let great = ltb-false c 2048 q in
          let small = below c 65536 r in
          three (
            (omega arith, omega (arith, small)),
            (omega arith, omega arith),
            (omega arith, omega arith),
            omega (arith, great),
            λ far. ⊎_elim (λ h. absurd (omega (arith, h, far))) (λ h. omega (arith, h.0))
                (scalar_cases c valid),
          )
      by false false false p q r low two three four =
          let great = ltb-false c 65536 r in
          let small : c < 1114112 = ⊎_elim (λ h. omega (arith, h)) (λ h. h.1) (scalar_cases c valid) in
          four (
            (omega arith, omega arith),
            (omega arith, omega arith),
            (omega arith, omega arith),
            (omega (arith, great), omega (arith, small)),
          )

pub others_are_not : (bytes : List ℕ) → 0 < length bytes → 128 ≤ get_or bytes 0 0
    → ¬ (IsTwo (get_or bytes 0 0) (get_or bytes 1 0))
    → ¬ (IsThree (get_or bytes 0 0) (get_or bytes 1 0) (get_or bytes 2 0))
    → ¬ (IsFour (get_or bytes 0 0) (get_or bytes 1 0) (get_or bytes 2 0) (get_or bytes 3 0))
    → is_utf8 bytes ≡ false
others_are_not bytes some low two three four = by (is_utf8 bytes) refl where
  from : (cs : List ℕ) → scalars cs ≡ true → encodes cs ≡ bytes → ⊥
  from [] valid e = omega (arith, some, ap length e)
  from (c ∷ cs) valid e =
      one-of-these c (encodes cs) (and-left (scalar c) (scalars cs) valid)
      (subst (λ l. 128 ≤ get_or l 0 0) (sym e) low)
      (subst (λ l. ¬ (IsTwo (get_or l 0 0) (get_or l 1 0))) (sym e) two)
      (subst (λ l. ¬ (IsThree (get_or l 0 0) (get_or l 1 0) (get_or l 2 0))) (sym e) three)
      (subst (λ l. ¬ (IsFour (get_or l 0 0) (get_or l 1 0) (get_or l 2 0) (get_or l 3 0))) (sym e) four)

  by : (all : Bool) → is_utf8 bytes ≡ all → all ≡ false
  by false e = refl
  by true e = let whole = IsUtf8-from_is_utf8 bytes e in absurd (from whole.0 whole.1.0 whole.1.1)

pub none_are_utf8 : (bytes : List ℕ) → length bytes ≡ 0 → is_utf8 bytes ≡ true
none_are_utf8 [] none = is_utf8-from_IsUtf8 [] IsUtf8-nil
none_are_utf8 (byte ∷ bytes) none = absurd (omega (arith, none))

-- if bytes begin with whole characters, the bytes after those are UTF-8 exactly if all bytes are
behind_utf8 : (bytes : List ℕ) (len : ℕ) → len ≤ length bytes → IsUtf8 (take len bytes)
    → is_utf8 (drop len bytes) ≡ is_utf8 bytes
behind_utf8 bytes len within front = by (is_utf8 (drop len bytes)) (is_utf8 bytes) refl refl where
  by : (rest all : Bool) → is_utf8 (drop len bytes) ≡ rest → is_utf8 bytes ≡ all → rest ≡ all
  by true true e f = refl
  by false false e f = refl
  by true false e f =
      let whole = subst IsUtf8 (take-append-drop len bytes)
      (IsUtf8-append (take len bytes) (drop len bytes) front (IsUtf8-from_is_utf8 _ e)) in
      absurd (let is = is_utf8-from_IsUtf8 bytes whole in cc)
  by false true e f =
      let whole = IsUtf8-from_is_utf8 bytes f in
      let seam = IsCharBoundary-from_take bytes len whole within front in
      absurd (let is = is_utf8-from_IsUtf8 _ (IsUtf8-drop bytes len whole seam) in cc)

all-behind : (bytes : List ℕ) (len : ℕ) → take (length bytes - len) (drop len bytes) ≡ drop len bytes
all-behind bytes len =
    let left = length-drop len bytes in take_all (length bytes - len) (drop len bytes) (omega (arith, left))

pub past_utf8 : (bytes : List ℕ) (len : ℕ) → len ≤ length bytes → IsUtf8 (take len bytes)
    → is_utf8 (take (length bytes - len) (drop len bytes)) ≡ is_utf8 bytes
past_utf8 bytes len within front =
    ap is_utf8 (all-behind bytes len) ∙ behind_utf8 bytes len within front

-- a suffix of some bytes that is UTF-8 exactly if they are
abbrev pub IsBehind : List ℕ → List ℕ → Type 0
IsBehind bytes rest = (is_utf8 rest ≡ is_utf8 bytes) × (length rest ≤ length bytes)
    × ((i : ℕ) → get_or rest i 0 < 256)

pub past_character : (bytes rest : List ℕ) (len : ℕ) → IsBehind bytes rest → len ≤ length rest
    → IsUtf8 (take len rest) → IsBehind bytes (take (length rest - len) (drop len rest))
past_character bytes rest len behind within front =
    let left = length-drop len rest in
    subst (IsBehind bytes) (sym (all-behind rest len)) (
      behind_utf8 rest len within front ∙ behind.0,
      omega (arith, left, behind.1),
      λ i. subst (λ n. n < 256) (sym (get_or-drop len rest i 0)) (behind.2 (len + i)),
    )

-- the first four bytes are this word
pub record StartsWithWord (bytes : List ℕ) (word : ℕ) : Type 0 where
  pub within : 4 ≤ length bytes
  pub first : word % 256 ≡ get_or bytes 0 0
  pub second : word / 256 % 256 ≡ get_or bytes 1 0
  pub third : word / 65536 % 256 ≡ get_or bytes 2 0

pub starts-with-word : (bytes four : List ℕ) (word : ℕ) → ((i : ℕ) → get_or bytes i 0 < 256)
    → IsFirstChunk bytes four 4 → word ≡ from_le_bytes w32 four → StartsWithWord bytes word
starts-with-word bytes four word fits chunk is =
    let e = at 0 (omega arith) in
    let f = at 1 (omega arith) in
    let g = at 2 (omega arith) in
    let h = at 3 (omega arith) in
    let p = fits 0 in
    let q = fits 1 in
    let r = fits 2 in
    let s = fits 3 in
    record {
      within = chunk.enough;
      first = omega (arith, is, e, f, g, h, p, q, r, s);
      second = omega (arith, is, e, f, g, h, p, q, r, s);
      third = omega (arith, is, e, f, g, h, p, q, r, s);
    } where
      at : (i : ℕ) → i < 4 → get_or four i 0 ≡ get_or bytes i 0
      at i low = ap (λ l. get_or l i 0) chunk.same ∙ get_or-take 4 bytes i 0 low

-- three bytes in these ranges are a character
pub common_is_utf8 : (bytes : List ℕ) (first second third : ℕ) → first ≡ get_or bytes 0 0
    → second ≡ get_or bytes 1 0 → third ≡ get_or bytes 2 0 → IsInRange 0xE2 0xE9 first
    → IsInRange 0x80 0xBF second → IsInRange 0x80 0xBF third → IsUtf8 (take 3 bytes)
common_is_utf8 bytes first second third e f g p q r =
    three_are_utf8 bytes (
      (omega (arith, e, p), omega (arith, e, p)),
      (omega (arith, f, q), omega (arith, f, q)),
      (omega (arith, g, r), omega (arith, g, r)),
      omega (arith, e, p, f, q),
      λ far. absurd (omega (arith, e, p, f, q, far)),
    )

-- ASCII bytes are UTF-8
pub all_ascii_are_utf8 : (bytes : List ℕ) (n : ℕ) → n ≤ length bytes
    → ((k : ℕ) → k < n → get_or bytes k 0 < 128) → IsUtf8 (take n bytes)
all_ascii_are_utf8 bytes n within at = IsUtf8-from_ascii (take n bytes) low where
  low : (k : ℕ) → get_or (take n bytes) k 0 < 128
  low k = by (ltb k n) refl where
    by : (x : Bool) → ltb k n ≡ x → get_or (take n bytes) k 0 < 128
    by true e = subst (λ b. b < 128) (sym (get_or-take n bytes k 0 (below k n e))) (at k (below k n e))
    by false e =
        let past : length (take n bytes) ≤ k =
        omega (arith, length-take-le n bytes within, ltb-false k n e) in
        subst (λ b. b < 128) (sym (get_or_past (take n bytes) k 0 past)) (omega arith)

-- more ASCII bytes after ASCII bytes
pub more-ascii : (bytes : List ℕ) (n m : ℕ) → ((k : ℕ) → k < n → get_or bytes k 0 < 128)
    → ((k : ℕ) → k < m → get_or bytes (n + k) 0 < 128)
    → (k : ℕ) → k < n + m → get_or bytes k 0 < 128
more-ascii bytes n m front behind k less = by (ltb k n) refl where
  by : (x : Bool) → ltb k n ≡ x → get_or bytes k 0 < 128
  by true e = front k (below k n e)
  by false e =
      let far = ltb-false k n e in
      subst (λ i. get_or bytes i 0 < 128) (omega (arith, far)) (behind (k - n) (omega (arith, far, less)))

-- at most four ASCII bytes, by the bytes of a word
pub ascii_are_utf8 : (bytes : List ℕ) (n : ℕ) → n ≤ length bytes → n ≤ 4
    → (0 < n → get_or bytes 0 0 < 128) → (1 < n → get_or bytes 1 0 < 128)
    → (2 < n → get_or bytes 2 0 < 128) → (3 < n → get_or bytes 3 0 < 128) → IsUtf8 (take n bytes)
ascii_are_utf8 bytes n within most p q r s = all_ascii_are_utf8 bytes n within at where
  at : (k : ℕ) → k < n → get_or bytes k 0 < 128
  at zero less = p less
  at (suc zero) less = q less
  at (suc (suc zero)) less = r less
  at (suc (suc (suc zero))) less = s less
  at (suc (suc (suc (suc k)))) less = absurd (omega (arith, less, most))

pub all_is_utf8 : (bytes rest : List ℕ) → IsBehind bytes rest → is_utf8 rest ≡ true → IsUtf8 bytes
all_is_utf8 bytes rest behind is = IsUtf8-from_is_utf8 bytes (sym behind.0 ∙ is)

pub three_alone : (bytes : List ℕ) → length bytes ≡ 3 → IsUtf8 (take 3 bytes) → is_utf8 bytes ≡ true
three_alone bytes long is =
    is_utf8-from_IsUtf8 bytes (subst IsUtf8 (take_all 3 bytes (omega (arith, long))) is)
