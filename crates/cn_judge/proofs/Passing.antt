-- Passing over characters, each by its first byte.
use Rattle.std.proofs.Common.{◌≡◌, Bool, true, false, ltb, ◌-◌, ◌%◌, ℕ, zero, suc, ◌+◌, ◌/◌, ◌<◌, ◌≤◌, List, [], ◌∷◌, ◌++◌, length, get_or, take, drop, chars, encode_utf8_all, IsUtf8, refl, sym, ap, subst, ◌∙◌, arith, length-append, length-drop, get_or-drop, drop-drop}
use Rattle.std.specs.Array.{IsFirstChunk}
use Rattle.std.specs.Int.{w64, from_le_bytes}
use Rattle.std.specs.Str.{IsCharBoundary, continuation_len}
use Rattle.std.proofs.lemmas.Bool.{ltb-false}
use Rattle.std.proofs.lemmas.List.{take_all}
use Rattle.std.proofs.lemmas.Str.{IsCharBoundary-after_ascii, chars_past_char, encode_ascii, encodes-append, encodes-chars}
use lib.Utf8.{encode}
use Rattle.cn_core.proofs.Chars.{chars-from_empty}
use Rattle.cn_judge.specs.ByteIndex.{byte_index}
use Rattle.cn_judge.specs.Private.FirstKey.{BeginsThreeThrees}
use Rattle.cn_judge.specs.Private.Firsts.{PassesFirsts, first_count, firsts}
use Rattle.cn_judge.proofs.FirstBytes.{len_low, len_three, starts}
use Rattle.cn_judge.proofs.Firsts.{chunk-at, firsts-none, firsts-alike, is-character}
use Rattle.cn_judge.proofs.ThreeBytes.{below}

-- the byte at this index follows exactly `count` characters
pub record Passed (text : List ℕ) (count at : ℕ) : Type 0 where
  pub within : at ≤ length text
  pub few : count ≤ at
  pub begun : firsts text at ≡ count
  pub utf8 : IsUtf8 (drop at text)
  pub bytes : at ≡ byte_index text count
  pub ahead : drop count (chars text) ≡ chars (drop at text)
  pub counted : count + length (chars (drop at text)) ≡ length (chars text)

take-none : (cs : List ℕ) → take 0 cs ≡ []
take-none [] = refl
take-none (c ∷ cs) = refl

drop-none : (xs : List ℕ) → drop 0 xs ≡ xs
drop-none [] = refl
drop-none (x ∷ xs) = refl

Passed-none : (text : List ℕ) → IsUtf8 text → Passed text 0 0
Passed-none text whole =
    let all = drop-none text in
    record {
      within = omega arith;
      few = omega arith;
      begun = firsts-none text;
      utf8 = subst IsUtf8 (sym all) whole;
      bytes = omega (arith, ap (λ l. length (encode_utf8_all l)) (take-none (chars text)));
      ahead = drop-none (chars text) ∙ ap chars (sym all);
      counted = omega (arith, ap (λ l. length (chars l)) all);
    }

drop-next : (cs : List ℕ) (count c : ℕ) (after : List ℕ) → drop count cs ≡ c ∷ after
    → (drop (suc count) cs ≡ after) × (take (suc count) cs ≡ take count cs ++ c ∷ [])
drop-next [] zero c after h = cc
drop-next [] (suc count) c after h = cc
drop-next (d ∷ cs) zero c after h = (cc, cc)
drop-next (d ∷ cs) (suc count) c after h =
    let next = drop-next cs count c after h in (next.0, ap (λ l. d ∷ l) next.1)

pub Passed-next : (text : List ℕ) (count at len : ℕ) → Passed text count at → at < length text
    → len ≡ continuation_len (get_or text at 0) + 1 → Passed text (count + 1) (at + len)
Passed-next text count at len before more size =
    let left = length-drop at text in
    let zero-more : at + 0 ≡ at = omega arith in
    let first = starts (drop at text) len before.utf8 (omega (arith, left, more))
    (size
    ∙ ap (λ b. continuation_len b + 1) (sym (get_or-drop at text 0 0
    ∙ ap (λ i. get_or text i 0) zero-more))) in
    let is = is-character (drop at text) _ first.code len first.whole first.size (omega (arith, size)) in
    let begun = firsts-alike text (drop at text) at len (λ k _. get_or-drop at text k 0) in
    let cut : drop len (drop at text) ≡ drop (at + len) text = drop-drop len at text in
    let next = drop-next (chars text) count first.code (chars (drop len (drop at text)))
    (before.ahead ∙ first.parts) in
    let one : length (encode_utf8_all (first.code ∷ [])) ≡ length (encode first.code) =
    length-append (encode first.code) [] ∙ omega arith in
    let grown : byte_index text (suc count) ≡ byte_index text count + length (encode first.code) =
    ap (λ l. length (encode_utf8_all l)) next.1
    ∙ ap length (encodes-append (take count (chars text)) (first.code ∷ []))
    ∙ length-append (encode_utf8_all (take count (chars text))) (encode_utf8_all (first.code ∷ []))
    ∙ ap (λ n. byte_index text count + n) one in
    let passed : Passed text (suc count) (at + len) =
    record {
      within = omega (arith, before.within, left, first.within);
      few = omega (arith, before.few, size);
      begun = omega (arith, begun, is.one, before.begun);
      utf8 = subst IsUtf8 cut first.left;
      bytes = omega (arith, before.bytes, grown, first.size);
      ahead = next.0 ∙ ap chars cut;
      counted = omega (arith, before.counted, ap length first.parts, ap (λ l. length (chars l)) cut);
    } in
    subst (λ n. Passed text n (at + len)) (omega arith) passed

-- the eight bytes from an index on, with the first byte lowest, are this number
pub record IsWordAt (bytes : List ℕ) (at word : ℕ) : Type 0 where
  pub within : at + 8 ≤ length bytes
  pub first : get_or bytes (at + 0) 0 ≡ word % 256
  pub second : get_or bytes (at + 1) 0 ≡ word / 256 % 256
  pub third : get_or bytes (at + 2) 0 ≡ word / 65536 % 256
  pub fourth : get_or bytes (at + 3) 0 ≡ word / 16777216 % 256
  pub fifth : get_or bytes (at + 4) 0 ≡ word / 4294967296 % 256
  pub sixth : get_or bytes (at + 5) 0 ≡ word / 1099511627776 % 256
  pub seventh : get_or bytes (at + 6) 0 ≡ word / 281474976710656 % 256
  pub eighth : get_or bytes (at + 7) 0 ≡ word / 72057594037927936

pub word-at : (bytes eight : List ℕ) (at word : ℕ) → ((i : ℕ) → get_or bytes i 0 < 256)
    → at ≤ length bytes → IsFirstChunk (take (length bytes - at) (drop at bytes)) eight 8
    → word ≡ from_le_bytes w64 eight → IsWordAt bytes at word
word-at bytes eight at word below inside chunk is =
    let next = chunk-at bytes eight at 8 inside chunk in
    let by = next.1 in
    let b0 = by 0 (omega arith) in
    let b1 = by 1 (omega arith) in
    let b2 = by 2 (omega arith) in
    let b3 = by 3 (omega arith) in
    let b4 = by 4 (omega arith) in
    let b5 = by 5 (omega arith) in
    let b6 = by 6 (omega arith) in
    let b7 = by 7 (omega arith) in
    let l0 = below (at + 0) in
    let l1 = below (at + 1) in
    let l2 = below (at + 2) in
    let l3 = below (at + 3) in
    let l4 = below (at + 4) in
    let l5 = below (at + 5) in
    let l6 = below (at + 6) in
    let l7 = below (at + 7) in
    record {
      within = next.0;
      first = omega (arith, is, b0, b1, b2, b3, b4, b5, b6, b7, l0, l1, l2, l3, l4, l5, l6, l7);
      second = omega (arith, is, b0, b1, b2, b3, b4, b5, b6, b7, l0, l1, l2, l3, l4, l5, l6, l7);
      third = omega (arith, is, b0, b1, b2, b3, b4, b5, b6, b7, l0, l1, l2, l3, l4, l5, l6, l7);
      fourth = omega (arith, is, b0, b1, b2, b3, b4, b5, b6, b7, l0, l1, l2, l3, l4, l5, l6, l7);
      fifth = omega (arith, is, b0, b1, b2, b3, b4, b5, b6, b7, l0, l1, l2, l3, l4, l5, l6, l7);
      sixth = omega (arith, is, b0, b1, b2, b3, b4, b5, b6, b7, l0, l1, l2, l3, l4, l5, l6, l7);
      seventh = omega (arith, is, b0, b1, b2, b3, b4, b5, b6, b7, l0, l1, l2, l3, l4, l5, l6, l7);
      eighth = omega (arith, is, b0, b1, b2, b3, b4, b5, b6, b7, l0, l1, l2, l3, l4, l5, l6, l7);
    }

pub word-threes : (bytes : List ℕ) (at word : ℕ) → IsWordAt bytes at word → word % 256 / 16 ≡ 14
    → word / 16777216 % 256 / 16 ≡ 14 → word / 281474976710656 % 256 / 16 ≡ 14
    → BeginsThreeThrees bytes at
word-threes bytes at word is first fourth seventh =
    let none : at + 0 ≡ at = omega arith in
    record {
      within = is.within;
      first = ap (λ i. get_or bytes i 0 / 16) (sym none) ∙ ap (λ b. b / 16) is.first ∙ first;
      second = ap (λ b. b / 16) is.fourth ∙ fourth;
      third = ap (λ b. b / 16) is.seventh ∙ seventh;
    }

-- if each byte of a word is ASCII, then so is each of the bytes that the word was loaded from
pub ascii-at : (bytes : List ℕ) (at word : ℕ) → IsWordAt bytes at word → word % 256 < 128 → word / 256 % 256 < 128
    → word / 65536 % 256 < 128 → word / 16777216 % 256 < 128 → word / 4294967296 % 256 < 128
    → word / 1099511627776 % 256 < 128 → word / 281474976710656 % 256 < 128 → word / 72057594037927936 < 128
    → (k : ℕ) → k < 8 → get_or bytes (at + k) 0 < 128
ascii-at bytes at word is a0 a1 a2 a3 a4 a5 a6 a7 zero less = omega (arith, is.first, a0)
ascii-at bytes at word is a0 a1 a2 a3 a4 a5 a6 a7 (suc zero) less = omega (arith, is.second, a1)
ascii-at bytes at word is a0 a1 a2 a3 a4 a5 a6 a7 (suc (suc zero)) less = omega (arith, is.third, a2)
ascii-at bytes at word is a0 a1 a2 a3 a4 a5 a6 a7 (suc (suc (suc zero))) less = omega (arith, is.fourth, a3)
ascii-at bytes at word is a0 a1 a2 a3 a4 a5 a6 a7 (suc (suc (suc (suc zero)))) less = omega (arith, is.fifth, a4)
ascii-at bytes at word is a0 a1 a2 a3 a4 a5 a6 a7 (suc (suc (suc (suc (suc zero))))) less = omega (arith, is.sixth, a5)
ascii-at bytes at word is a0 a1 a2 a3 a4 a5 a6 a7 (suc (suc (suc (suc (suc (suc zero)))))) less = omega (arith, is.seventh, a6)
ascii-at bytes at word is a0 a1 a2 a3 a4 a5 a6 a7 (suc (suc (suc (suc (suc (suc (suc zero))))))) less = omega (arith, is.eighth, a7)
ascii-at bytes at word is a0 a1 a2 a3 a4 a5 a6 a7 (suc (suc (suc (suc (suc (suc (suc (suc i)))))))) less = absurd (omega (arith, less))

three-long : (first : ℕ) → first / 16 ≡ 14 → 3 ≡ continuation_len first + 1
three-long first is = sym (len_three first (omega (arith, is)) (omega (arith, is)))

pub Passed-threes : (text : List ℕ) (count at : ℕ) → Passed text count at
    → BeginsThreeThrees text at → Passed text (count + 3) (at + 9)
Passed-threes text count at before three =
    let long = three.within in
    let six : at + 6 ≡ at + 3 + 3 = omega arith in
    let one = Passed-next text count at 3 before (omega (arith, long)) (three-long _ three.first) in
    let two = Passed-next text (count + 1) (at + 3) 3 one (omega (arith, long))
    (three-long _ three.second) in
    let all = Passed-next text (count + 1 + 1) (at + 3 + 3) 3 two (omega (arith, long))
    (three-long _ (subst (λ i. get_or text i 0 / 16 ≡ 14) six three.third)) in
    let chars : count + 1 + 1 + 1 ≡ count + 3 = omega arith in
    let bytes : at + 3 + 3 + 3 ≡ at + 9 = omega arith in
    subst (λ n. Passed text n (at + 9)) chars
    (subst (λ n. Passed text (count + 1 + 1 + 1) n) bytes all)

-- ASCII bytes are as many characters as bytes
pub Passed-ascii : (text : List ℕ) (count at many : ℕ) → Passed text count at → at + many ≤ length text
    → ((k : ℕ) → k < many → get_or text (at + k) 0 < 128) → Passed text (count + many) (at + many)
Passed-ascii text count at zero before within low =
    let none : at ≡ at + 0 = omega arith in
    subst (λ n. Passed text n (at + 0)) (omega arith) (subst (λ n. Passed text count n) none before)
Passed-ascii text count at (suc many) before within low =
    let first : at + 0 ≡ at = omega arith in
    let one = Passed-next text count at 1 before (omega (arith, within))
    (sym (len_low (get_or text at 0) (subst (λ i. get_or text i 0 < 128) first (low 0 (omega arith))))) in
    let all = Passed-ascii text (count + 1) (at + 1) many one (omega (arith, within))
    (λ k less. let same : at + suc k ≡ at + 1 + k = omega arith in
    subst (λ i. get_or text i 0 < 128) same (low (suc k) (omega (arith, less)))) in
    let chars : count + 1 + many ≡ count + suc many = omega arith in
    let bytes : at + 1 + many ≡ at + suc many = omega arith in
    subst (λ n. Passed text n (at + suc many)) chars (subst (λ n. Passed text (count + 1 + many) n) bytes all)

none-left : (text : List ℕ) (at : ℕ) → length text ≤ at → length (chars (drop at text)) ≡ 0
none-left text at end =
    ap length (chars-from_empty (drop at text) (omega (arith, length-drop at text, end)))

pub Passed-all : (text : List ℕ) (count at : ℕ) → Passed text count at → length text ≤ at
    → count ≡ length (chars text)
Passed-all text count at passed end =
    omega (arith, passed.counted, none-left text at end)

pub Passed-end : (text : List ℕ) (count at index : ℕ) → Passed text count at → IsUtf8 text
    → length text ≤ at → count ≤ index → at ≡ byte_index text index
Passed-end text count at index passed whole end far =
    let all = Passed-all text count at passed end in
    let whole-text : byte_index text index ≡ length text =
    ap (λ l. length (encode_utf8_all l)) (take_all index (chars text) (omega (arith, all, far)))
    ∙ ap length (encodes-chars text whole) in
    omega (arith, passed.within, end, whole-text)

-- no character begins inside another
begins-behind : (text : List ℕ) (count at place : ℕ) → Passed text count at → at < place → place ≤ length text
    → (place < length text → first_count (get_or text place 0) ≡ 1)
    → at + (continuation_len (get_or text at 0) + 1) ≤ place
begins-behind text count at place passed more within begins = by (ltb place (at + len)) refl where
  len : ℕ
  len = continuation_len (get_or text at 0) + 1

  by : (inside : Bool) → ltb place (at + len) ≡ inside → at + len ≤ place
  by false e = ltb-false place (at + len) e
  by true e =
      let less = below place (at + len) e in
      let left = length-drop at text in
      let none : at + 0 ≡ at = omega arith in
      let first = starts (drop at text) len passed.utf8 (omega (arith, left, more, within))
      (ap (λ b. continuation_len b + 1) (sym (get_or-drop at text 0 0 ∙ ap (λ i. get_or text i 0) none))) in
      let is = is-character (drop at text) _ first.code len first.whole first.size (omega arith) in
      let there : at + (place - at) ≡ place = omega (arith, more) in
      let same = get_or-drop at text (place - at) 0 ∙ ap (λ i. get_or text i 0) there in
      absurd (omega (
        arith,
        ap first_count same,
        is.goes_on (place - at) (omega (arith, more)) (omega (arith, less, more)),
        begins (omega (arith, less, left, first.within, more)),
      ))

passed-here : (text : List ℕ) (count at place : ℕ) → Passed text count at → at ≡ place
    → Passed text (firsts text place) place
passed-here text count at place passed here =
    subst (λ n. Passed text (firsts text n) n) here (subst (λ n. Passed text n at) (sym passed.begun) passed)

-- the characters before an index at which one begins are as many as the first bytes before it
passed-on : (text : List ℕ) (steps count at place : ℕ) → Passed text count at → at ≤ place
    → place ≤ at + steps → place ≤ length text → (place < length text → first_count (get_or text place 0) ≡ 1)
    → Passed text (firsts text place) place
passed-on text zero count at place passed past near within begins =
    passed-here text count at place passed (omega (arith, past, near))
passed-on text (suc steps) count at place passed past near within begins =
    by (ltb at place) refl (λ more.
    let len = continuation_len (get_or text at 0) + 1 in
    let next = Passed-next text count at len passed (omega (arith, more, within)) refl in
    passed-on text steps (count + 1) (at + len) place next
    (begins-behind text count at place passed more within begins) (omega (arith, near)) within begins) where
      by : (more : Bool) → ltb at place ≡ more → (at < place → Passed text (firsts text place) place)
          → Passed text (firsts text place) place
      by true e on = on (below at place e)
      by false e on = passed-here text count at place passed (omega (arith, past, ltb-false at place e))

pub Passed-at : (text : List ℕ) (place : ℕ) → IsUtf8 text → place ≤ length text
    → (place < length text → first_count (get_or text place 0) ≡ 1) → Passed text (firsts text place) place
Passed-at text place whole within begins =
    passed-on text place 0 0 place (Passed-none text whole) (omega arith) (omega arith) within begins

pub Passed-start : (text : List ℕ) (count at : ℕ) → IsUtf8 text → count ≡ 0 → at ≡ 0 → Passed text count at
Passed-start text count at whole none here =
    subst (λ n. Passed text n at) (sym none) (subst (λ n. Passed text 0 n) (sym here) (Passed-none text whole))

-- characters that are counted by their first bytes are passed
pub Passed-by : (bytes text : List ℕ) (many place left passed count : ℕ) → bytes ≡ text → IsUtf8 text
    → PassesFirsts bytes many place left → (place < length bytes → first_count (get_or bytes place 0) ≡ 1)
    → passed ≡ place → count ≡ many - left → Passed text count passed
Passed-by bytes text many place left passed count same whole next begins here counted =
    let within = subst (λ l. place ≤ length l) same next.within in
    let there = Passed-at text place whole within
    (subst (λ l. place < length l → first_count (get_or l place 0) ≡ 1) same begins) in
    let all : firsts text place ≡ count = omega (arith, counted, next.counted, ap (λ l. firsts l place) same) in
    subst (λ n. Passed text count n) (sym here) (subst (λ n. Passed text n place) all there)

-- a text that begins with an ASCII byte
front-ascii : (bytes : List ℕ) → 0 < length bytes → get_or bytes 0 0 < 128
    → bytes ≡ encode (get_or bytes 0 0) ++ drop 1 bytes
front-ascii [] some low = absurd (omega (arith, some))
front-ascii (a ∷ rest) some low =
    ap (λ l. a ∷ l) (sym (drop-none rest)) ∙ ap (λ l. l ++ drop 0 rest) (sym (encode_ascii a low))

pub ascii-first : (bytes text : List ℕ) → bytes ≡ text → IsUtf8 text → 0 < length bytes
    → get_or bytes 0 0 < 128
    → (chars text ≡ get_or bytes 0 0 ∷ chars (drop 1 text)) × IsCharBoundary text 1
ascii-first bytes text same utf8 some low =
    let whole : IsUtf8 bytes = subst IsUtf8 (sym same) utf8 in
    subst (λ l. (chars l ≡ get_or bytes 0 0 ∷ chars (drop 1 l)) × IsCharBoundary l 1) same (
      chars_past_char bytes (drop 1 bytes) _ whole (front-ascii bytes some low),
      IsCharBoundary-after_ascii bytes 0 whole some low,
    )
