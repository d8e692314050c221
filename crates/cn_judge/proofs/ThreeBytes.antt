-- Characters of three bytes, by a sum of their bytes.
use Rattle.std.proofs.Common.{◌≡◌, ℕ, ◌+◌, ◌-◌, ◌*◌, ◌/◌, ◌%◌, ◌<◌, ◌≤◌, Bool, true, false, cond, ltb, List, [], ◌∷◌, ◌++◌, length, get_or, take, drop, chars, encode_utf8, IsUtf8, refl, sym, ap, ◌∙◌, subst, arith, append-nil, add-zero, length-drop}
use Rattle.std.specs.Int.{w32, from_le_bytes}
use Rattle.std.specs.Str.{IsCharBoundary}
use Rattle.std.proofs.lemmas.Str.{IsUtf8-take, IsUtf8-drop, IsUtf8-past_char, IsCharBoundary-from_drop, chars_past_char}
use Rattle.std.proofs.lemmas.List.{take-append-drop, nil_from_length}
use lib.Dec.{T, ltb→lt}
use lib.Seq.{drop_at, get_or-drop}
use lib.Utf8.{next, encode, encodes, scalar, scalars}
use Rattle.std.specs.Char.{IsScalar}
use Rattle.std.proofs.lemmas.Bool.{ltb-false}
use Rattle.cn_core.proofs.Fronts.{and-left}
use Rattle.cn_judge.specs.Marked.{key_of}
use Rattle.cn_judge.specs.Private.FirstKey.{EndsWithKey, StartsWithKey}
use Rattle.cn_judge.proofs.Walking.{chars-back}

-- the bytes of a character, given which of the three bounds it is below
abbrev pub bytes_by : Bool → Bool → Bool → ℕ → List ℕ
bytes_by x y z c =
    cond x (c ∷ []) (cond y ((192 + c / 64) ∷ next c ∷ [])
    (cond z ((224 + c / 4096) ∷ next (c / 64) ∷ next c ∷ [])
    ((240 + c / 262144) ∷ next (c / 4096) ∷ next (c / 64) ∷ next c ∷ [])))

pub encode-by : (c : ℕ) → encode c ≡ bytes_by (ltb c 128) (ltb c 2048) (ltb c 65536) c
unfolding encode
encode-by c = refl

pub below : (m n : ℕ) → ltb m n ≡ true → m < n
below m n e = ltb→lt m n (subst T (sym e) tt)

abbrev IsThree : ℕ → List ℕ → List ℕ → Type 0
IsThree c bytes all = (length bytes ≡ 3)
    × (c + 925824 ≡ get_or all 0 0 * 4096 + get_or all 1 0 * 64 + get_or all 2 0)
    × (key_of c ≡ get_or all 0 0 + get_or all 1 0 * 256 + get_or all 2 0 * 65536)
    × (2048 ≤ c) × (c < 65536)

is_three : (c : ℕ) (rest : List ℕ) → 224 ≤ get_or (encode c ++ rest) 0 0
    → (240 ≤ get_or (encode c ++ rest) 0 0 → length (encode c ++ rest) < 4)
    → IsThree c (encode c) (encode c ++ rest)
is_three c rest = rw (encode-by c) (by (ltb c 128) (ltb c 2048) (ltb c 65536) refl refl refl) where
  by : (x y z : Bool) → ltb c 128 ≡ x → ltb c 2048 ≡ y → ltb c 65536 ≡ z
      → 224 ≤ get_or (bytes_by x y z c ++ rest) 0 0
      → (240 ≤ get_or (bytes_by x y z c ++ rest) 0 0 → length (bytes_by x y z c ++ rest) < 4)
      → IsThree c (bytes_by x y z c) (bytes_by x y z c ++ rest)
  by true y z p q r low short = absurd (let small = below c 128 p in omega (arith, small, low))
  by false true z p q r low short = absurd (let small = below c 2048 q in omega (arith, small, low))
  by false false true p q r low short =
      (refl, omega arith, omega arith, ltb-false c 2048 q, below c 65536 r)
  by false false false p q r low short =
      absurd (let few = short (omega arith) in omega (arith, few))

-- a text that starts with a character of three bytes
pub record StartsWithThree (bytes : List ℕ) : Type 0 where
  pub code : ℕ
  pub sum : code + 925824 ≡ get_or bytes 0 0 * 4096 + get_or bytes 1 0 * 64 + get_or bytes 2 0
  pub key : key_of code ≡ get_or bytes 0 0 + get_or bytes 1 0 * 256 + get_or bytes 2 0 * 65536
  pub low : 2048 ≤ code
  pub high : code < 65536
  pub scalar : IsScalar code
  pub parts : bytes ≡ encode_utf8 code ++ drop 3 bytes
  pub rest : IsUtf8 (drop 3 bytes)

starts-three : (bytes : List ℕ) → IsUtf8 bytes → 0 < length bytes → 224 ≤ get_or bytes 0 0
    → (240 ≤ get_or bytes 0 0 → length bytes < 4) → StartsWithThree bytes
starts-three bytes whole some low short = by whole.0 whole.1.0 whole.1.1 where
  by : (cs : List ℕ) → scalars cs ≡ true → encodes cs ≡ bytes → StartsWithThree bytes
  by [] valid e = absurd (omega (arith, some, ap length e))
  by (c ∷ cs) valid e =
      let three = is_three c (encodes cs) (subst (λ l. 224 ≤ get_or l 0 0) (sym e) low)
      (subst (λ l. 240 ≤ get_or l 0 0 → length l < 4) (sym e) short) in
      let cut : drop 3 bytes ≡ encodes cs =
      ap (drop 3) (sym e) ∙ drop_at (encode c) (encodes cs) 3 three.0 in
      record {
        code = c;
        sum = three.1 ∙ ap (λ l. get_or l 0 0 * 4096 + get_or l 1 0 * 64 + get_or l 2 0) e;
        key = three.2 ∙ ap (λ l. get_or l 0 0 + get_or l 1 0 * 256 + get_or l 2 0 * 65536) e;
        low = three.3;
        high = three.4;
        scalar = and-left (scalar c) (scalars cs) valid;
        parts = sym e ∙ ap (λ l. encode c ++ l) (sym cut);
        rest = subst IsUtf8 (sym cut) (IsUtf8-past_char bytes (encodes cs) c whole (sym e));
      }

-- the first character of a text
pub first-starts : (bytes : List ℕ) (a : ℕ) → IsUtf8 bytes → 3 ≤ length bytes → a ≡ get_or bytes 0 0
    → 224 ≤ a → a < 240 → StartsWithThree bytes
first-starts bytes a whole long p low high =
    starts-three bytes whole (omega (arith, long)) (omega (arith, p, low))
    (λ great. absurd (omega (arith, p, high, great)))

pub first-three : (bytes after : List ℕ) (a b d code : ℕ) → IsUtf8 bytes → 3 ≤ length bytes
    → after ≡ drop 3 bytes
    → a ≡ get_or bytes 0 0 → b ≡ get_or bytes 1 0 → d ≡ get_or bytes 2 0 → 224 ≤ a → a < 240
    → code + 925824 ≡ a * 4096 + b * 64 + d
    → chars bytes ≡ code ∷ chars after
first-three bytes after a b d code whole long cut p q r low high sum =
    let three = first-starts bytes a whole long p low high in
    let same : three.code ≡ code = omega (arith, three.sum, sum, p, q, r) in
    chars_past_char _ _ _ whole (three.parts ∙ ap (λ c. encode_utf8 c ++ drop 3 bytes) same
    ∙ ap (λ l. encode_utf8 code ++ l) (sym cut))

pub first-boundary : (bytes : List ℕ) (a : ℕ) → IsUtf8 bytes → 3 ≤ length bytes
    → a ≡ get_or bytes 0 0 → 224 ≤ a → a < 240 → IsCharBoundary bytes 3
first-boundary bytes a whole long p low high = let three =
    first-starts bytes a whole long p low high in IsCharBoundary-from_drop bytes 3 long three.rest

-- the first character and its key
pub first-key : (bytes text : List ℕ) → bytes ≡ text → IsUtf8 text → 3 ≤ length bytes
    → get_or bytes 1 0 < 256 → get_or bytes 0 0 < 256 → (key : ℕ)
    → key ≡ get_or bytes 0 0 + get_or bytes 1 0 * 256 + get_or bytes 2 0 * 65536
    → key % 256 / 16 ≡ 14 → StartsWithKey text key
first-key bytes text same utf8 long p q key is kind =
    let whole : IsUtf8 bytes = subst IsUtf8 (sym same) utf8 in
    let low : 224 ≤ get_or bytes 0 0 = omega (arith, is, kind, p, q) in
    let high : get_or bytes 0 0 < 240 = omega (arith, is, kind, p, q) in
    let three = first-starts bytes (get_or bytes 0 0) whole long refl low high in
    let starts : StartsWithKey bytes key =
    record {
      code = three.code;
      key_is = three.key ∙ sym is;
      sum = omega (arith, three.sum, is, p, q);
      low = three.low;
      high = three.high;
      scalar = three.scalar;
      long = long;
      boundary = first-boundary bytes (get_or bytes 0 0) whole long refl low high;
      parts = chars_past_char _ _ _ whole three.parts;
    } in
    subst (λ l. StartsWithKey l key) same starts

-- the last character of a text
at-start : (bytes : List ℕ) (start : ℕ) → get_or (drop start bytes) 0 0 ≡ get_or bytes start 0
at-start bytes start = get_or-drop start bytes 0 0 ∙ ap (λ n. get_or bytes n 0) (add-zero start)

last-starts : (bytes : List ℕ) (start a : ℕ) → IsUtf8 bytes → IsCharBoundary bytes start
    → length bytes ≡ start + 3 → a ≡ get_or bytes start 0 → 224 ≤ a
    → StartsWithThree (drop start bytes)
last-starts bytes start a whole boundary long p low =
    let size = length-drop start bytes in
    let at = at-start bytes start in
    starts-three (drop start bytes) (IsUtf8-drop bytes start whole boundary)
    (omega (arith, size, long)) (omega (arith, at, p, low)) (λ _. omega (arith, size, long))

pub last-three : (bytes before : List ℕ) (start a b d code : ℕ) → IsUtf8 bytes
    → IsCharBoundary bytes start → length bytes ≡ start + 3 → before ≡ take start bytes
    → a ≡ get_or bytes start 0 → b ≡ get_or bytes (start + 1) 0 → d ≡ get_or bytes (start + 2) 0
    → 224 ≤ a → code + 925824 ≡ a * 4096 + b * 64 + d
    → chars bytes ≡ chars before ++ code ∷ []
last-three bytes before start a b d code whole boundary long cut p q r low sum =
    let three = last-starts bytes start a whole boundary long p low in
    let same : three.code ≡ code = omega (
      arith,
      three.sum,
      sum,
      p,
      q,
      r,
      at-start bytes start,
      get_or-drop start bytes 1 0,
      get_or-drop start bytes 2 0,
    ) in
    let none : drop 3 (drop start bytes) ≡ [] =
    nil_from_length _ (omega (arith, length-drop 3 (drop start bytes), length-drop start bytes, long)) in
    let last : drop start bytes ≡ encode_utf8 code =
    three.parts ∙ ap (λ c. encode_utf8 c ++ drop 3 (drop start bytes)) same
    ∙ ap (λ l. encode_utf8 code ++ l) none ∙ append-nil (encode_utf8 code) in
    chars-back bytes before code whole
    (subst IsUtf8 (sym cut) (IsUtf8-take bytes start whole boundary))
    (sym (take-append-drop start bytes) ∙ ap (λ l. l ++ drop start bytes) (sym cut)
    ∙ ap (λ l. before ++ l) last)

pub boundary-at : (bytes : List ℕ) (start : ℕ) → start ≤ length bytes → 224 ≤ get_or bytes start 0
    → IsCharBoundary bytes start
boundary-at bytes start le low = (le, λ _ _. omega (arith, low))

-- the last character and its key
pub last-key : (bytes text : List ℕ) (start : ℕ) → bytes ≡ text → IsUtf8 text
    → length bytes ≡ start + 3 → get_or bytes start 0 < 256 → get_or bytes (start + 1) 0 < 256
    → (key : ℕ)
    → key ≡ get_or bytes start 0 + get_or bytes (start + 1) 0 * 256
    + get_or bytes (start + 2) 0 * 65536
    → key % 256 / 16 ≡ 14 → EndsWithKey text key
last-key bytes text start same utf8 long p q key is kind =
    let whole : IsUtf8 bytes = subst IsUtf8 (sym same) utf8 in
    let low : 224 ≤ get_or bytes start 0 = omega (arith, is, kind, p, q) in
    let boundary : IsCharBoundary bytes start =
    boundary-at bytes start (omega (arith, long)) low in
    let three = last-starts bytes start _ whole boundary long refl low in
    let one = at-start bytes start in
    let two = get_or-drop start bytes 1 0 in
    let third = get_or-drop start bytes 2 0 in
    let from : length bytes - 3 ≡ start = omega (arith, long) in
    let sum : three.code + 925824 ≡ get_or bytes start 0 * 4096 + get_or bytes (start + 1) 0 * 64
    + get_or bytes (start + 2) 0 = omega (arith, three.sum, one, two, third) in
    let ends : EndsWithKey bytes key =
    record {
      code = three.code;
      key_is = omega (arith, three.key, is, one, two, third);
      sum = omega (arith, sum, is, p, q);
      low = three.low;
      high = three.high;
      scalar = three.scalar;
      long = omega (arith, long);
      boundary = subst (λ n. IsCharBoundary bytes n) (sym from) boundary;
      parts = subst (λ n. chars bytes ≡ chars (take n bytes) ++ three.code ∷ []) (sym from)
          (last-three bytes (take start bytes) start _ _ _ three.code whole boundary long refl refl
          refl refl low sum);
    } in
    subst (λ l. EndsWithKey l key) same ends

-- the bytes of a key, with the first byte lowest
pub record HasBytes (key a b d : ℕ) : Type 0 where
  pub one : key % 256 ≡ a
  pub two : key / 256 % 256 ≡ b
  pub three : key / 65536 ≡ d

pub key-bytes : (a b d : ℕ) → a < 256 → b < 256 → HasBytes (a + b * 256 + d * 65536) a b d
key-bytes a b d p q = record {
  one = omega (arith, p, q);
  two = omega (arith, p, q);
  three =
      omega (arith, p, q);
}

-- the last three of the last four bytes
pub word-bytes : (bytes four : List ℕ) (front start word : ℕ) → ((i : ℕ) → get_or bytes i 0 < 256)
    → start ≡ front + 1 → four ≡ drop front bytes → word ≡ from_le_bytes w32 four
    → HasBytes (word / 256) (get_or bytes start 0) (get_or bytes (start + 1) 0)
    (get_or bytes (start + 2) 0)
word-bytes bytes four front start word below next last is =
    let e = at 0 front (omega arith) in
    let f = at 1 start (omega (arith, next)) in
    let g = at 2 (start + 1) (omega (arith, next)) in
    let h = at 3 (start + 2) (omega (arith, next)) in
    let p = below front in
    let q = below start in
    let r = below (start + 1) in
    record {
      one = omega (arith, is, e, f, g, h, p, q, r);
      two = omega (arith, is, e, f, g, h, p, q, r);
      three = omega (arith, is, e, f, g, h, p, q, r);
    } where
      at : (i j : ℕ) → front + i ≡ j → get_or four i 0 ≡ get_or bytes j 0
      at i j e = ap (λ l. get_or l i 0) last ∙ get_or-drop front bytes i 0
          ∙ ap (λ n. get_or bytes n 0) e
