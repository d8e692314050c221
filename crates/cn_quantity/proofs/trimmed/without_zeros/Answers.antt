use Rattle.std.proofs.Common.{◌≡◌, ℕ, ◌^◌, ◌<◌, ◌≤◌, refl, sym, subst, ◌∙◌, arith, rules, FitsSigned, int_div, pos, ◌<ℤ◌}
use mir.Syntax.{w128}
use mir.Val.{to_z as cast_signed, of_z as cast_unsigned}
use Rattle.std.proofs.lemmas.Int.{quot_is, quot_fits, to_z-of_z}
use Rattle.cn_quantity.proofs.Trims.{divided, ten-up, ten-above}
use Rattle.cn_quantity.proofs.trimmed.without_zeros.Goals as goal

pos-above : (n : ℕ) → 0 < n → pos 0 <ℤ pos n
pos-above n h = search (rules, h)

pub pow-power-requires : goal.pow-power-requires
pow-power-requires c =
    let up = ten-up c.args.zeros 38 (omega arith) in
    omega (arith, up)

-- the power as a signed number
signed-power : (zeros power : ℕ) → zeros ≤ 38 → power ≡ 10 ^ zeros
    → (0 < power) × FitsSigned w128 (pos power)
signed-power zeros power few is =
    let some = ten-above zeros in
    let up = ten-up zeros 38 few in
    (omega (arith, some, is), record { sfits = omega (arith, up, is) })

pub overflow_cast-result : goal.overflow_cast-result
overflow_cast-result c =
    (signed-power c.args.zeros c.pow-power.result (omega arith) c.pow-power.ensures).1

pub nonzero_div-result : goal.nonzero_div-result
nonzero_div-result c =
    let z = c.args.quantity.numerator in
    let power = c.pow-power.result in
    let fits : FitsSigned w128 z = search rules in
    let is = signed-power c.args.zeros power (omega arith) c.pow-power.ensures in (
      is.0,
      subst (λ m. FitsSigned w128 (int_div (cast_signed w128 (cast_unsigned w128 z)) m))
          (sym (to_z-of_z w128 (pos power) is.1))
          (subst (λ n. FitsSigned w128 (int_div n (pos power))) (sym (to_z-of_z w128 z fits))
          (quot_fits w128 z (pos power) fits (pos-above power is.0))),
    )

pub nonzero_div-result-2 : goal.nonzero_div-result-2
nonzero_div-result-2 c =
    let some = ten-above c.args.zeros in
    omega (arith, some, c.pow-power.ensures)

pub returns : goal.returns
returns c =
    let z = c.args.quantity.numerator in
    let power = c.pow-power.result in
    let fits : FitsSigned w128 z = search rules in
    let is = signed-power c.args.zeros power (omega arith) c.pow-power.ensures in
    let number = quot_is w128 z (pos power) fits is.1
    (quot_fits w128 z (pos power) fits (pos-above power is.0))
    ∙ divided z power in
    rw (number, c.pow-power.ensures, c.form_with.ensures) refl
