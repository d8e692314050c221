-- The values of the fields of a line.
use Rattle.std.proofs.Math.Nat.{pow-le-pow_right}
use Rattle.std.proofs.lemmas.List.Sums.{fold_more, fold-append}
use Rattle.std.proofs.Common.{◌≡◌, ◌<◌, ◌≤◌, ◌+◌, ◌-◌, ◌*◌, ◌^◌, length, take, drop, get_or, take-append-drop, sym, ap, ◌∙◌, arith, lit<, ℕ, List}
use Rattle.cn_dynamic.specs.Decimal.{value_after}
use Rattle.cn_dynamic.proofs.Decimal.{value_after-grows}

-- a number of fewer than 19 decimal digits with one more digit fits
pub one_more_fits : (value i n digit : ℕ) → value < 10 ^ i → i < n → n ≤ 19 → digit ≤ 9
    → value * 10 + digit < 2 ^ 64
one_more_fits value i n digit small before few single =
    let e : 10 ^ i ≤ 10 ^ 18 = pow-le-pow_right {n = 10} (lit< tt) {i = i} {j = 18} (omega arith) in
    omega (arith, e)

-- a number that is too great after one more digit stays too great
pub value_after-beyond : (start : ℕ) (digits : List ℕ) (i value most : ℕ) → i < length digits
    → value ≡ value_after start (take i digits)
    → most ≤ value * 10 + (get_or digits i 0 - 48) → most ≤ value_after start digits
value_after-beyond start digits i value most within so_far beyond =
    let step : ℕ → ℕ → ℕ = λ number digit. number * 10 + (digit - 48) in
    let next : value_after start (take (i + 1) digits)
    ≡ value_after start (take i digits) * 10 + (get_or digits i 0 - 48) =
    fold_more step start digits i 0 within in
    let whole : value_after start digits
    ≡ value_after (value_after start (take (i + 1) digits)) (drop (i + 1) digits) =
    ap (value_after start) (sym (take-append-drop (i + 1) digits))
    ∙ fold-append step start (take (i + 1) digits) (drop (i + 1) digits) in
    omega (
      arith,
      next,
      whole,
      so_far,
      value_after-grows (value_after start (take (i + 1) digits))
          (drop (i + 1) digits),
    )
