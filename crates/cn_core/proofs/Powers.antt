-- The table of powers of ten has each power at the index that is its exponent.
use Rattle.std.proofs.Common.{◌≡◌, ℕ, zero, suc, ◌+◌, ◌^◌, ◌<◌, ◌≤◌, List, Option, Some, None, Bor, map, get_or, ap, ◌∙◌, refl, arith}
use Rattle.std.specs.Option.{SomeIff, option_copied}
use Rattle.std.specs.Slice.{IsItemAt}
use Rattle.std.specs.List.{range_with_len}
use Rattle.cn_core.specs.declared.scales.TheConstants.{POWERS_OF_TEN}

abbrev powers_from : ℕ → ℕ → List ℕ
powers_from low count = map (λ e. 10 ^ e) (range_with_len low count)

-- all 39 powers, from 10^0 to 10^38
powers : POWERS_OF_TEN ≡ powers_from 0 39
powers = refl

power-at : (low count e d : ℕ) → e < count → get_or (powers_from low count) e d ≡ 10 ^ (low + e)
power-at low zero e d h = absurd (omega (arith, h))
power-at low (suc count) zero d h = let same : low ≡ low + 0 = omega arith in ap (λ k. 10 ^ k) same
power-at low (suc count) (suc e) d h =
    let same : low + 1 + e ≡ low + suc e =
    omega arith in power-at (low + 1) count e d (omega (arith, h)) ∙ ap (λ k. 10 ^ k) same

pub entry_is_power : (e : ℕ) (entry : Option (Bor ℕ)) → IsItemAt POWERS_OF_TEN e entry
    → SomeIff (option_copied entry) (e ≤ 38) (10 ^ e)
entry_is_power e None item = λ fits. absurd (omega (arith, item.3, fits))
entry_is_power e (Some x) item =
    let same : 0 + e ≡ e = omega arith in (
      omega (arith, item.3.0),
      item.1 ∙ ap (λ t. get_or t e x.now) powers
          ∙ power-at 0 39 e x.now item.3.0 ∙ ap (λ k. 10 ^ k) same,
    )
