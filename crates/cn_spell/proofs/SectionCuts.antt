-- Splitting the sections off a number, from the lowest up.
use Rattle.std.proofs.Common.{◌≡◌, ℕ, ◌+◌, ◌*◌, ◌/◌, ◌%◌, ◌^◌, ◌<◌, ◌≤◌, List, set, length, slice_index, ap, sym, ◌∙◌, arith}
use Rattle.std.proofs.Math.Decide.{dec_lt}
use Rattle.std.proofs.Math.Nat.{mul-le-mul_right, div-div-eq-div-mul, div-mul-le_self, pow-le-pow_right}
use Rattle.std.proofs.lemmas.Nat.{pow-add}
use Rattle.std.proofs.lemmas.List.{get_or-set_same, get_or-set_other}

-- the rest after more sections are split off
pub cut-more : (number count more above : ℕ) → above ≡ number / 10 ^ (4 * count)
    → above / 10 ^ (4 * more) ≡ number / 10 ^ (4 * (count + more))
cut-more number count more above split =
    let powers : 4 * (count + more) ≡ 4 * count + 4 * more = omega arith in
    let raised : 10 ^ (4 * (count + more)) ≡ 10 ^ (4 * count) * 10 ^ (4 * more) =
    ap (λ n. 10 ^ n) powers ∙ pow-add 10 (4 * count) (4 * more) in
    ap (λ n. n / 10 ^ (4 * more)) split
    ∙ div-div-eq-div-mul number (10 ^ (4 * count)) (10 ^ (4 * more))
    ∙ ap (λ n. number / n) (sym raised)

-- in a number of at most 39 digits, at most nine sections have digits above them
pub cut-few : (number count more above : ℕ) → number < 10 ^ 39 → above ≡ number / 10 ^ (4 * count)
    → 10 ^ (4 * more) ≤ above → count + more ≤ 9
cut-few number count more above small split reach =
    let same : above * 10 ^ (4 * count) ≡ number / 10 ^ (4 * count) * 10 ^ (4 * count) =
    ap (λ n. n * 10 ^ (4 * count)) split in
    let least : 10 ^ (4 * more) * 10 ^ (4 * count) ≤ above * 10 ^ (4 * count) =
    mul-le-mul_right (10 ^ (4 * count)) reach in
    let raised : 10 ^ (4 * more + 4 * count) ≡ 10 ^ (4 * more) * 10 ^ (4 * count) =
    pow-add 10 (4 * more) (4 * count) in
    elim (dec_lt (count + more) 10) [
      | yes p ↦ omega (arith, p)
      | no p ↦ absurd (
          let past : 39 ≤ 4 * more + 4 * count = omega (arith, p) in
          let q : 10 ^ 39 ≤ 10 ^ (4 * more + 4 * count) = pow-le-pow_right (omega arith) past in
          omega (arith, q, raised, least, same, div-mul-le_self number (10 ^ (4 * count)), small))
    ]

-- the sections after one more is split off
pub each-more : (number count above value : ℕ) (sections : List ℕ) → count < length sections
    → above ≡ number / 10 ^ (4 * count) → value ≡ above % 10 ^ 4
    → ((index : ℕ) → index < count
    → slice_index sections index ≡ number / 10 ^ (4 * index) % 10 ^ 4)
    → (index : ℕ) → index < count + 1 → slice_index (set sections count value) index
    ≡ number / 10 ^ (4 * index) % 10 ^ 4
each-more number count above value sections within split is_value each index less =
    elim (dec_lt index count) [
      | yes lower ↦ get_or-set_other sections count index value 0 (omega (arith, lower))
          ∙ each index lower
      | no last ↦
          let same : index ≡ count = omega (arith, last, less) in
          rw same (get_or-set_same sections count value 0 within ∙ is_value
          ∙ ap (λ n. n % 10 ^ 4) split)
    ]

-- the sections after four more are split off
pub each-part : (number count above : ℕ) (sections more : List ℕ)
    → above ≡ number / 10 ^ (4 * count)
    → ((index : ℕ) → index < count
    → slice_index sections index ≡ number / 10 ^ (4 * index) % 10 ^ 4)
    → ((index : ℕ) → index < count → slice_index more index ≡ slice_index sections index)
    → slice_index more count ≡ above % 10 ^ 16 % 10 ^ 4
    → slice_index more (count + 1) ≡ above % 10 ^ 16 / 10 ^ 4 % 10 ^ 4
    → slice_index more (count + 2) ≡ above % 10 ^ 16 / 10 ^ 8 % 10 ^ 4
    → slice_index more (count + 3) ≡ above % 10 ^ 16 / 10 ^ 12
    → (index : ℕ) → index < count + 4 → slice_index more index ≡ number / 10 ^ (4 * index) % 10 ^ 4
each-part number count above sections more split each lower first second third fourth index less =
    by (dec_lt index count) (dec_lt index (count + 1)) (dec_lt index (count + 2))
    (dec_lt index (count + 3)) where
      by : Dec (index < count) → Dec (index < count + 1) → Dec (index < count + 2)
          → Dec (index < count + 3) → slice_index more index ≡ number / 10 ^ (4 * index) % 10 ^ 4
      by (yes p) a b d = lower index p ∙ each index p
      by (no p) (yes a) b d =
          let same : index ≡ count = omega (arith, p, a) in
          let low : above % 10 ^ 16 % 10 ^ 4 ≡ above % 10 ^ 4 = omega arith in
          rw same (first ∙ low ∙ ap (λ n. n % 10 ^ 4) split)
      by (no p) (no a) (yes b) d =
          let same : index ≡ count + 1 = omega (arith, a, b) in
          let low : above % 10 ^ 16 / 10 ^ 4 % 10 ^ 4 ≡ above / 10 ^ 4 % 10 ^ 4 = omega arith in
          rw same (second ∙ low ∙ ap (λ n. n % 10 ^ 4) (cut-more number count 1 above split))
      by (no p) (no a) (no b) (yes d) =
          let same : index ≡ count + 2 = omega (arith, b, d) in
          let low : above % 10 ^ 16 / 10 ^ 8 % 10 ^ 4 ≡ above / 10 ^ 8 % 10 ^ 4 = omega arith in
          rw same (third ∙ low ∙ ap (λ n. n % 10 ^ 4) (cut-more number count 2 above split))
      by (no p) (no a) (no b) (no d) =
          let same : index ≡ count + 3 = omega (arith, d, less) in
          let low : above % 10 ^ 16 / 10 ^ 12 ≡ above / 10 ^ 12 % 10 ^ 4 = omega arith in
          rw same (fourth ∙ low ∙ ap (λ n. n % 10 ^ 4) (cut-more number count 3 above split))
