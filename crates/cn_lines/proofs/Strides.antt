-- The position of a byte, searched one stride of bytes at a time.
use Rattle.std.proofs.Common.{◌≡◌, ◌≢◌, ◌+◌, ◌-◌, ◌<◌, ◌≤◌, ◌++◌, ℕ, suc, Bool, true, false, not, cond, eqb, ltb, List, [], ◌∷◌, refl, map, length, position, unwrap_or, take, drop, get_or, rules, sym, ap, ◌∙◌, arith}
use Rattle.std.proofs.lemmas.Simd.{chunk-drop, first_set_mask_l}
use Rattle.std.proofs.lemmas.List.Folds.{prefix_len-append}
use Rattle.std.proofs.lemmas.List.Sums.{prefix_len-le-length, prefix_len_stops}
use Rattle.std.proofs.lemmas.Bool.Decides.{nat_tests}
use Rattle.std.proofs.lemmas.Bool.{eq-eqb, ne_eqb}
use Rattle.std.proofs.lemmas.Grind.{common_steps}
use Rattle.std.specs.Array.{IsFirstChunk}
use Rattle.std.specs.List.{position_or_len}
use Rattle.cn_lines.specs.Lines.{HasNoFeed}
use Rattle.std.proofs.lemmas.Bool.{false≢true}
use lib.Count.{count_trailing_zeros}
use lib.Lanes.{mask_l}

-- the first position that passes the test, else the length
pub first_or_length : (p : ℕ → Bool) (bytes : List ℕ)
    → unwrap_or (position p bytes) (length bytes) ≡ position_or_len p bytes
first_or_length p bytes =
    let most : position_or_len p bytes ≤ length bytes =
    prefix_len-le-length (λ b. not (p b)) bytes in
    let go : (t : Bool) → ltb (position_or_len p bytes) (length bytes) ≡ t
    → unwrap_or (position p bytes) (length bytes) ≡ position_or_len p bytes =
    elim [ true ↦ λ e. rw e refl | false ↦ λ e. rw e (search (rules, nat_tests, e, most)) ] in
    go (ltb (position_or_len p bytes) (length bytes)) refl

-- if no bit of the mask is set, the position is the length
pub position_of_none : (p : ℕ → Bool) (xs : List ℕ) (n mask : ℕ) → length xs ≡ n → n ≤ 64
    → mask ≡ mask_l (map p xs) → mask ≡ 0
    → n ≡ position_or_len p xs
position_of_none p xs n mask long short is none =
    let e : eqb (mask_l (map p xs)) 0 ≡ true = eq-eqb _ _ (sym is ∙ none) in
    sym (ap (λ b. cond b n (count_trailing_zeros 64 (mask_l (map p xs)))) e)
    ∙ first_set_mask_l p xs n long short

-- else the position is that of the lowest set bit
pub position_of_some : (p : ℕ → Bool) (xs : List ℕ) (n mask : ℕ) → length xs ≡ n → n ≤ 64
    → mask ≡ mask_l (map p xs) → mask ≢ 0
    → count_trailing_zeros 64 mask ≡ position_or_len p xs
position_of_some p xs n mask long short is some =
    let e : eqb (mask_l (map p xs)) 0 ≡ false = ne_eqb _ _ (λ h. some (is ∙ h)) in
    ap (count_trailing_zeros 64) is ∙ sym (ap (λ b. cond b n (count_trailing_zeros 64
    (mask_l (map p xs)))) e) ∙ first_set_mask_l p xs n long short

-- a stride of `n` bytes at an index
record Stride (bytes : List ℕ) (start n : ℕ) (stride : List ℕ) : Type 0 where
  room : start + n ≤ length bytes
  long : length stride ≡ n
  parts : drop start bytes ≡ stride ++ drop (start + n) bytes

stride_is : (bytes : List ℕ) (start n : ℕ) (stride : List ℕ) → start ≤ length bytes
    → IsFirstChunk (take (length bytes - start) (drop start bytes)) stride n
    → Stride bytes start n stride
stride_is bytes start n stride within chunk =
    let whole : take (length bytes - start) (drop start bytes) ≡ drop start bytes =
    grind (arith, common_steps) in
    let enough : n ≤ length (drop start bytes) = rw whole at chunk.enough in
    let same : stride ≡ take n (drop start bytes) = rw whole at chunk.same in
    let all : length (drop start bytes) ≡ length bytes - start = grind (arith, common_steps) in
    let front : length (take n (drop start bytes)) ≡ n = grind (arith, common_steps) in
    record {
      room = omega arith;
      long = ap length same ∙ front;
      parts = chunk-drop start n bytes ∙ ap (λ l. l ++ drop (start + n) bytes) (sym same);
    }

module _ (p : ℕ → Bool) (bytes : List ℕ) (start n found : ℕ) (stride : List ℕ)
    (within : start ≤ length bytes)
    (chunk : IsFirstChunk (take (length bytes - start) (drop start bytes)) stride n) (is : found
    ≡ position_or_len p stride)
    (so_far : position_or_len p bytes ≡ start + position_or_len p (drop start bytes)) where
  split : position_or_len p (drop start bytes)
      ≡ cond (eqb (position_or_len p stride) (length stride))
      (length stride + position_or_len p (drop (start + n) bytes)) (position_or_len p stride)
  split =
      ap (position_or_len p) (stride_is bytes start n stride within chunk).parts
      ∙ prefix_len-append (λ b. not (p b)) stride (drop (start + n) bytes)

  -- the byte is in the stride
  pub position_found : found < n → start + found ≡ position_or_len p bytes
  position_found inside =
      let long = (stride_is bytes start n stride within chunk).long in
      let e : eqb (position_or_len p stride) (length stride) ≡ false =
      ne_eqb _ _ (λ h. omega (arith, h, is, long)) in
      omega (
        arith,
        so_far,
        split ∙ ap (λ b. cond b (length stride
            + position_or_len p (drop (start + n) bytes)) (position_or_len p stride)) e,
      )

  -- the byte is after the stride
  pub position_further : n ≤ found
      → (start + n ≤ length bytes) × (position_or_len p bytes
      ≡ start + n + position_or_len p (drop (start + n) bytes))
  position_further outside =
      let s = stride_is bytes start n stride within chunk in
      let long = s.long in
      let most : position_or_len p stride ≤ length stride =
      prefix_len-le-length (λ b. not (p b)) stride in
      let e : eqb (position_or_len p stride) (length stride) ≡ true =
      eq-eqb _ _ (omega (arith, is, long, most)) in (
        s.room,
        omega (
          arith,
          long,
          so_far,
          split
              ∙ ap (λ b. cond b (length stride + position_or_len p (drop (start + n) bytes))
              (position_or_len p stride)) e,
        ),
      )

-- before the first line feed there is no line feed
pub HasNoFeed-before : (bytes : List ℕ)
    → HasNoFeed (take (position_or_len (λ b. eqb b 10) bytes) bytes)
HasNoFeed-before [] = tt
HasNoFeed-before (x ∷ bytes) =
    let one : 1 + position_or_len (λ b. eqb b 10) bytes
    ≡ suc (position_or_len (λ b. eqb b 10) bytes) = omega arith in
    let go : (t : Bool) → eqb x 10 ≡ t
    → HasNoFeed (take (position_or_len (λ b. eqb b 10) (x ∷ bytes)) (x ∷ bytes)) =
    elim [
      | true ↦ λ e. rw e tt
      | false ↦ λ e. rw (e, one) (
        λ s. absurd (false≢true (sym e ∙ eq-eqb x 10 s)),
        HasNoFeed-before bytes,
      )
    ] in
    go (eqb x 10) refl

true_from_not : (t : Bool) → not t ≡ false → t ≡ true
true_from_not true e = refl
true_from_not false e = sym e

-- and at its position there is one, if that is not the end
pub feed_there : (bytes : List ℕ) → position_or_len (λ b. eqb b 10) bytes < length bytes
    → get_or bytes (position_or_len (λ b. eqb b 10) bytes) 0 ≡ 10
feed_there bytes within =
    let e : eqb (get_or bytes (position_or_len (λ b. eqb b 10) bytes) 0) 10 ≡ true =
    true_from_not _ (prefix_len_stops (λ b. not (eqb b 10)) bytes 0 within) in
    search (rules, nat_tests, e)
