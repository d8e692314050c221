-- White space at either end of a text, by its bytes.
use Rattle.std.proofs.Common.{◌≡◌, ◌≢◌, ◌==◌, ◌&&◌, ◌||◌, nat_lt, ℕ, ◌+◌, ◌-◌, ◌*◌, ◌/◌, ◌<◌, ◌≤◌, Bool, true, false, cond, ltb, List, [], ◌∷◌, ◌++◌, length, get_or, take, drop, chars, encode_utf8_all, IsUtf8, refl, sym, ap, ◌∙◌, subst, arith, length-append, append-nil}
use Rattle.std.specs.Char.{is_whitespace}
use Rattle.std.specs.Str.{IsCharBoundary}
use Rattle.std.proofs.lemmas.Bool.{ltb-false}
use Rattle.std.proofs.lemmas.Bool.Decides.{nat_tests}
use Rattle.std.proofs.lemmas.List.{get_or-append-add, append_assoc}
use Rattle.std.proofs.lemmas.Str.{IsUtf8-append, IsUtf8-encode, IsUtf8-nil, IsUtf8-past_char, IsCharBoundary-at_seam, chars_past_char, encodes-append, encodes-chars}
use lib.Seq.{drop_at, take_at}
use lib.Utf8.{next, encode, encodes, scalar, scalars}
use Rattle.cn_core.proofs.Fronts.{and-left, and-right}
use Rattle.cn_judge.specs.Private.Spaces.{BeginsDark, EndsDark, is_three_byte_space, is_two_byte_space, first_space_len, is_ascii_space, last_space_len}
use Rattle.cn_judge.proofs.Faults.{or_cases}
use Rattle.cn_judge.proofs.ThreeBytes.{below, bytes_by, encode-by}
use Rattle.cn_judge.proofs.Walking.{chars-back}

-- white space characters below U+0800
abbrev is_small : ℕ → Bool
is_small c = (((nat_lt 8 c && nat_lt c 14) || c == 32) || c == 133) || c == 160

abbrev is_continuation : ℕ → Bool
is_continuation b = nat_lt 127 b && nat_lt b 192

-- a white space character of three bytes, by its code, of which these are the bytes
three-white : (a b d c : ℕ) → 128 ≤ b → b < 192 → 128 ≤ d → d < 192
    → c + 925824 ≡ a * 4096 + b * 64 + d → 2048 ≤ c → is_whitespace c ≡ true
    → is_three_byte_space a b d ≡ true
three-white a b d c p q r t sum large white =
    or_cases _ _ (c == 12288) white (λ h. or_cases _ _ (c == 8287) h (λ h. or_cases _ _ (c == 8239) h
    (λ h. or_cases _ _ (c == 8233) h (λ h. or_cases _ _ (c == 8232) h
    (λ h. or_cases _ _ (nat_lt 8191 c && nat_lt c 8203) h (λ h. or_cases _ _ (c == 5760) h small
    (one 5760 225 154 128 refl refl refl)) row) (one 8232 226 128 168 refl refl refl))
    (one 8233 226 128 169 refl refl refl)) (one 8239 226 128 175 refl refl refl))
    (one 8287 226 129 159 refl refl refl)) (one 12288 227 128 128 refl refl refl) where
      one : (k x y z : ℕ) → k + 925824 ≡ x * 4096 + y * 64 + z → is_three_byte_space x y z ≡ true
          → (is_continuation y && is_continuation z) ≡ true → (c == k) ≡ true
          → is_three_byte_space a b d ≡ true
      one k x y z total is others e =
          let same : c ≡ k = grind (arith, nat_tests, e) in
          let l : 128 ≤ y = grind (arith, nat_tests, others) in
          let m : y < 192 = grind (arith, nat_tests, others) in
          let n : 128 ≤ z = grind (arith, nat_tests, others) in
          let o : z < 192 = grind (arith, nat_tests, others) in
          let first : a ≡ x = omega (arith, same, total, sum, p, q, r, t, l, m, n, o) in
          let second : b ≡ y = omega (arith, first, same, total, sum, p, q, r, t, l, m, n, o) in
          let third : d ≡ z = omega (arith, first, second, same, total, sum) in
          rw (first, second, third) is

      row : (nat_lt 8191 c && nat_lt c 8203) ≡ true → is_three_byte_space a b d ≡ true
      row e =
          let low : 8191 < c = grind (arith, nat_tests, e) in
          let high : c < 8203 = grind (arith, nat_tests, e) in
          let first : a ≡ 226 = omega (arith, low, high, sum, p, q, r, t) in
          let second : b ≡ 128 = omega (arith, first, low, high, sum, p, q, r, t) in
          let third : d < 139 = omega (arith, first, second, high, sum) in
          rw (first, second) (grind (arith, nat_tests, r, third))

      small : is_small c ≡ true → is_three_byte_space a b d ≡ true
      small e = absurd (let low : c < 2048 = grind (arith, nat_tests, e) in omega (arith, low, large))

white-three : (a b d c : ℕ) → c + 925824 ≡ a * 4096 + b * 64 + d
    → is_three_byte_space a b d ≡ true → is_whitespace c ≡ true
white-three a b d c sum is = grind (arith, nat_tests, sum, is)

three-same : (a b d c : ℕ) → 128 ≤ b → b < 192 → 128 ≤ d → d < 192
    → c + 925824 ≡ a * 4096 + b * 64 + d → 2048 ≤ c → is_three_byte_space a b d ≡ is_whitespace c
three-same a b d c p q r t sum large = by (is_three_byte_space a b d) (is_whitespace c) refl refl where
  by : (x y : Bool) → is_three_byte_space a b d ≡ x → is_whitespace c ≡ y → x ≡ y
  by true y is white = sym (white-three a b d c sum is) ∙ white
  by false false is white = refl
  by false true is white = sym is ∙ three-white a b d c p q r t sum large white

-- one byte can show that the bytes are not white space
not-ascii : (b : ℕ) → 128 ≤ b → is_ascii_space b ≡ false
not-ascii b high = grind (arith, nat_tests, high)

not-two : (a b : ℕ) → a < 192 → is_two_byte_space a b ≡ false
not-two a b low = grind (arith, nat_tests, low)

not-first : (a b : ℕ) → 224 ≤ a → is_two_byte_space a b ≡ false
not-first a b high = grind (arith, nat_tests, high)

not-middle : (a b d : ℕ) → 192 ≤ b → is_three_byte_space a b d ≡ false
not-middle a b d high = grind (arith, nat_tests, high)

not-behind : (a b d : ℕ) → d < 128 → (is_two_byte_space b d ≡ false) × (is_three_byte_space a b d ≡ false)
not-behind a b d low = (grind (arith, nat_tests, low), grind (arith, nat_tests, low))

-- a character is white space exactly if its bytes are
ascii-same : (c : ℕ) → c < 128 → is_ascii_space c ≡ is_whitespace c
ascii-same c small = grind (arith, nat_tests, small)

two-same : (c : ℕ) → 128 ≤ c → c < 2048 → is_two_byte_space (192 + c / 64) (next c) ≡ is_whitespace c
two-same c large small = grind (arith, nat_tests, large, small)

abbrev first_of : ℕ → ℕ
first_of c = 224 + c / 4096

three-of : (c : ℕ) → 2048 ≤ c → c < 65536
    → is_three_byte_space (first_of c) (next (c / 64)) (next c) ≡ is_whitespace c
three-of c large small =
    three-same (first_of c) (next (c / 64)) (next c) c (omega arith) (omega arith) (omega arith) (omega arith)
    (omega (arith, small)) large

first-space : (c : ℕ) (rest : List ℕ)
    → first_space_len (encode c ++ rest) ≡ cond (is_whitespace c) (length (encode c)) 0
first-space c rest = rw (encode-by c) (by (ltb c 128) (ltb c 2048) (ltb c 65536) refl refl refl) where
  by : (x y z : Bool) → ltb c 128 ≡ x → ltb c 2048 ≡ y → ltb c 65536 ≡ z
      → first_space_len (bytes_by x y z c ++ rest) ≡ cond (is_whitespace c) (length (bytes_by x y z c)) 0
  by true y z p q r = let small = below c 128 p in grind (arith, nat_tests, small)
  by false true z p q r =
      let small = below c 2048 q in
      let large = ltb-false c 128 p in grind (arith, nat_tests, small, large)
  by false false true p q r =
      let small = below c 65536 r in
      let large = ltb-false c 2048 q in
      rw (
        not-ascii (first_of c) (omega arith),
        not-first (first_of c) (next (c / 64)) (omega arith),
        three-of c large small,
      ) refl
  by false false false p q r =
      let large = ltb-false c 65536 r in grind (arith, nat_tests, large)

-- the first character is white space and has `len` bytes
pub record BeginsSpace (text : List ℕ) (len : ℕ) : Type 0 where
  pub code : ℕ
  pub white : is_whitespace code ≡ true
  pub parts : chars text ≡ code ∷ chars (drop len text)
  pub within : len ≤ length text
  pub left : IsUtf8 (drop len text)

begins-bytes : (text : List ℕ) (len : ℕ) → IsUtf8 text → len ≡ first_space_len text → 0 < len
    → BeginsSpace text len
begins-bytes text len whole is some = by whole.0 whole.1.1 where
  by : (cs : List ℕ) → encodes cs ≡ text → BeginsSpace text len
  by [] e = absurd (let none = is ∙ ap first_space_len (sym e) in omega (arith, some, none))
  by (c ∷ cs) e = white (is_whitespace c) refl where
    size : len ≡ cond (is_whitespace c) (length (encode c)) 0
    size = is ∙ ap first_space_len (sym e) ∙ first-space c (encodes cs)

    white : (b : Bool) → is_whitespace c ≡ b → BeginsSpace text len
    white false w = absurd (let none = rw w at size in omega (arith, some, none))
    white true w =
        let same : length (encode c) ≡ len = sym (rw w at size) in
        let cut : drop len text ≡ encodes cs =
        ap (drop len) (sym e) ∙ drop_at (encode c) (encodes cs) len same in
        record {
          code = c;
          white = w;
          parts = chars_past_char _ _ _ whole (sym e ∙ ap (λ l. encode c ++ l) (sym cut));
          within = omega (arith, same, ap length e, length-append (encode c) (encodes cs));
          left = subst IsUtf8 (sym cut) (IsUtf8-past_char text (encodes cs) c whole (sym e));
        }

pub begins-space : (bytes text : List ℕ) (len : ℕ) → bytes ≡ text → IsUtf8 bytes
    → len ≡ first_space_len bytes → len ≢ 0 → BeginsSpace text len
begins-space bytes text len same whole is some =
    subst (λ l. BeginsSpace l len) same (begins-bytes bytes len whole is (omega (arith, some)))

encoded-long : (c : ℕ) → 0 < length (encode c)
encoded-long c = rw (encode-by c) (by (ltb c 128) (ltb c 2048) (ltb c 65536)) where
  by : (x y z : Bool) → 0 < length (bytes_by x y z c)
  by true y z = omega arith
  by false true z = omega arith
  by false false true = omega arith
  by false false false = omega arith

dark-by : (b : Bool) (c : ℕ) → cond b (length (encode c)) 0 ≡ 0 → b ≡ false
dark-by false c none = refl
dark-by true c none = absurd (let some = encoded-long c in omega (arith, some, none))

pub begins-dark : (text : List ℕ) → IsUtf8 text → first_space_len text ≡ 0 → BeginsDark text
begins-dark text whole none c rest parts =
    let front : text ≡ encode c ++ encode_utf8_all rest =
    sym (encodes-chars text whole) ∙ ap encode_utf8_all parts in
    dark-by (is_whitespace c) c
    (sym (first-space c (encode_utf8_all rest)) ∙ ap first_space_len (sym front) ∙ none)

-- the last character of a text
record LastChar (text : List ℕ) : Type 0 where
  pub code : ℕ
  pub front : List ℕ
  pub utf8 : IsUtf8 front
  pub last : IsUtf8 (encode code)
  pub parts : text ≡ front ++ encode code

last-char : (c : ℕ) (cs : List ℕ) → scalars (c ∷ cs) ≡ true → LastChar (encodes (c ∷ cs))
last-char c [] valid = record {
  code = c;
  front = [];
  utf8 = IsUtf8-nil;
  last = IsUtf8-encode c (and-left (scalar c) (scalars []) valid);
  parts = append-nil (encode c);
}
last-char c (d ∷ ds) valid =
    let before = last-char d ds (and-right (scalar c) (scalars (d ∷ ds)) valid) in
    record {
      code = before.code;
      front = encode c ++ before.front;
      utf8 = IsUtf8-append (encode c) before.front
          (IsUtf8-encode c (and-left (scalar c) (scalars (d ∷ ds)) valid)) before.utf8;
      last = before.last;
      parts = ap (λ l. encode c ++ l) before.parts
          ∙ sym (append_assoc (encode c) before.front (encode before.code));
    }

only-one : (p q r white : Bool) → p ≡ white → q ≡ false → r ≡ false
    → cond {A = ℕ} p 1 (cond q 2 (cond r 3 0)) ≡ cond white 1 0
only-one p q r white a b d = rw (a, b, d) refl

last-space : (front : List ℕ) (c : ℕ)
    → last_space_len (front ++ encode c) ≡ cond (is_whitespace c) (length (encode c)) 0
last-space front c = rw (encode-by c) (by (ltb c 128) (ltb c 2048) (ltb c 65536) refl refl refl) where
  at : (xs : List ℕ) (i k : ℕ) → length xs ≡ i + k
      → get_or (front ++ xs) (length (front ++ xs) - k) 0 ≡ get_or xs i 0
  at xs i k long =
      ap (λ n. get_or (front ++ xs) n 0) (let all = length-append front xs in omega (arith, all, long))
      ∙ get_or-append-add front xs i 0

  by : (x y z : Bool) → ltb c 128 ≡ x → ltb c 2048 ≡ y → ltb c 65536 ≡ z
      → last_space_len (front ++ bytes_by x y z c) ≡ cond (is_whitespace c) (length (bytes_by x y z c)) 0
  by true y z p q r =
      let small = below c 128 p in
      let third = at (bytes_by true y z c) 0 1 refl in
      let all = front ++ bytes_by true y z c in
      let u = get_or all (length all - 3) 0 in
      let v = get_or all (length all - 2) 0 in
      let behind = not-behind u v c small in
      only-one _ _ _ _ (ap is_ascii_space third ∙ ascii-same c small)
      (ap (is_two_byte_space v) third ∙ behind.0) (ap (is_three_byte_space u v) third ∙ behind.1)
  by false true z p q r =
      let small = below c 2048 q in
      let large = ltb-false c 128 p in
      let second = at (bytes_by false true z c) 0 2 refl in
      let third = at (bytes_by false true z c) 1 1 refl in
      rw (
        second,
        third,
        not-ascii (next c) (omega arith),
        not-middle _ (192 + c / 64) (next c) (omega arith),
        two-same c large small,
      ) refl
  by false false true p q r =
      let small = below c 65536 r in
      let large = ltb-false c 2048 q in
      let first = at (bytes_by false false true c) 0 3 refl in
      let second = at (bytes_by false false true c) 1 2 refl in
      let third = at (bytes_by false false true c) 2 1 refl in
      rw (
        first,
        second,
        third,
        not-ascii (next c) (omega arith),
        not-two (next (c / 64)) (next c) (omega arith),
        three-of c large small,
      ) refl
  by false false false p q r =
      let large = ltb-false c 65536 r in
      let first = at (bytes_by false false false c) 1 3 refl in
      let second = at (bytes_by false false false c) 2 2 refl in
      let third = at (bytes_by false false false c) 3 1 refl in
      grind (arith, nat_tests, large, first, second, third)

-- the last character is white space and has `len` bytes
pub record EndsSpace (text : List ℕ) (len : ℕ) : Type 0 where
  pub code : ℕ
  pub white : is_whitespace code ≡ true
  pub within : len ≤ length text
  pub boundary : IsCharBoundary text (length text - len)
  pub parts : chars text ≡ chars (take (length text - len) text) ++ code ∷ []

ends-bytes : (text : List ℕ) (len : ℕ) → IsUtf8 text → len ≡ last_space_len text → 0 < len
    → EndsSpace text len
ends-bytes text len whole is some = by whole.0 whole.1.0 whole.1.1 where
  last : LastChar text → EndsSpace text len
  last l = white (is_whitespace l.code) refl where
    size : len ≡ cond (is_whitespace l.code) (length (encode l.code)) 0
    size = is ∙ ap last_space_len l.parts ∙ last-space l.front l.code

    white : (b : Bool) → is_whitespace l.code ≡ b → EndsSpace text len
    white false w = absurd (let none = rw w at size in omega (arith, some, none))
    white true w =
        let same : length (encode l.code) ≡ len = sym (rw w at size) in
        let all = ap length l.parts ∙ length-append l.front (encode l.code) in
        let front : length l.front ≡ length text - len = omega (arith, same, all) in
        let cut : take (length text - len) text ≡ l.front =
        ap (take (length text - len)) l.parts ∙ take_at l.front (encode l.code) _ front in
        record {
          code = l.code;
          white = w;
          within = omega (arith, same, all);
          boundary = subst (IsCharBoundary text) front
              (IsCharBoundary-at_seam text l.front (encode l.code) l.parts l.last);
          parts = chars-back text (take (length text - len) text) l.code whole (subst IsUtf8 (sym cut) l.utf8)
              (l.parts ∙ ap (λ f. f ++ encode l.code) (sym cut));
        }

  by : (cs : List ℕ) → scalars cs ≡ true → encodes cs ≡ text → EndsSpace text len
  by [] valid e = absurd (let none = is ∙ ap last_space_len (sym e) in omega (arith, some, none))
  by (c ∷ cs) valid e = last (subst LastChar e (last-char c cs valid))

pub ends-space : (bytes text : List ℕ) (len : ℕ) → bytes ≡ text → IsUtf8 bytes
    → len ≡ last_space_len bytes → len ≢ 0 → EndsSpace text len
ends-space bytes text len same whole is some =
    subst (λ l. EndsSpace l len) same (ends-bytes bytes len whole is (omega (arith, some)))

pub ends-dark : (text : List ℕ) → IsUtf8 text → last_space_len text ≡ 0 → EndsDark text
ends-dark text whole none c before parts =
    let last : text ≡ encode_utf8_all before ++ encode c =
    sym (encodes-chars text whole) ∙ ap encode_utf8_all parts ∙ encodes-append before (c ∷ [])
    ∙ ap (λ l. encode_utf8_all before ++ l) (append-nil (encode c)) in
    dark-by (is_whitespace c) c
    (sym (last-space (encode_utf8_all before) c) ∙ ap last_space_len (sym last) ∙ none)
