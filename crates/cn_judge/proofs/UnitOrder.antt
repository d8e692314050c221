-- Units are ordered as their ranks are.
use Rattle.std.proofs.Common.{◌≡◌, ℕ, ◌<◌, false, nat_le, Some, refl, ap, ◌∙◌, arith}
use Rattle.std.proofs.lemmas.Bool.Decides.{nat_tests}
use Rattle.std.specs.Ordering.{nat_cmp, partial_ge, is_some_and, is_ge}
use Rattle.cn_core.specs.contracts.unit.UnitPartialOrd.TheImpl.{partial_cmp-value}
use Rattle.cn_core.specs.declared.unit.Unit.{Unit as NumeralUnit}
use Rattle.cn_core.specs.declared.unit.Unit.TheVariants.{Ge, Shi, Bai, Qian, Wan, Yi, Zhao, Jing, Gai, Zi, Rang, Gou, Jian, Zheng, Zai, Ji}
use Rattle.cn_core.specs.Characters.{rank}

each : (P : NumeralUnit → Type 0) → P Ge → P Shi → P Bai → P Qian → P Wan → P Yi → P Zhao → P Jing
    → P Gai → P Zi → P Rang → P Gou → P Jian → P Zheng → P Zai → P Ji → (unit : NumeralUnit)
    → P unit
each P a b c d e f g h i j k l m n o p =
    elim [
      | Ge ↦ a
      | Shi ↦ b
      | Bai ↦ c
      | Qian ↦ d
      | Wan ↦ e
      | Yi ↦ f
      | Zhao ↦ g
      | Jing ↦ h
      | Gai ↦
          i
      | Zi ↦ j
      | Rang ↦ k
      | Gou ↦ l
      | Jian ↦ m
      | Zheng ↦ n
      | Zai ↦ o
      | Ji ↦ p
    ]

compared : (a b : NumeralUnit) → partial_cmp-value.it a b ≡ Some (nat_cmp (rank a) (rank b))
compared =
    each _
    (each _ refl refl refl refl refl refl refl refl refl refl refl refl refl refl refl refl)
    (each _ refl refl refl refl refl refl refl refl refl refl refl refl refl refl refl refl)
    (each _ refl refl refl refl refl refl refl refl refl refl refl refl refl refl refl refl)
    (each _ refl refl refl refl refl refl refl refl refl refl refl refl refl refl refl refl)
    (each _ refl refl refl refl refl refl refl refl refl refl refl refl refl refl refl refl)
    (each _ refl refl refl refl refl refl refl refl refl refl refl refl refl refl refl refl)
    (each _ refl refl refl refl refl refl refl refl refl refl refl refl refl refl refl refl)
    (each _ refl refl refl refl refl refl refl refl refl refl refl refl refl refl refl refl)
    (each _ refl refl refl refl refl refl refl refl refl refl refl refl refl refl refl refl)
    (each _ refl refl refl refl refl refl refl refl refl refl refl refl refl refl refl refl)
    (each _ refl refl refl refl refl refl refl refl refl refl refl refl refl refl refl refl)
    (each _ refl refl refl refl refl refl refl refl refl refl refl refl refl refl refl refl)
    (each _ refl refl refl refl refl refl refl refl refl refl refl refl refl refl refl refl)
    (each _ refl refl refl refl refl refl refl refl refl refl refl refl refl refl refl refl)
    (each _ refl refl refl refl refl refl refl refl refl refl refl refl refl refl refl refl)
    (each _ refl refl refl refl refl refl refl refl refl refl refl refl refl refl refl refl)

is_not_lower : (a b : NumeralUnit) → partial_ge partial_cmp-value.it a b ≡ nat_le (rank b) (rank a)
is_not_lower a b = ap (is_some_and is_ge) (compared a b) ∙ by (rank a) (rank b) where
  by : (x y : ℕ) → is_ge (nat_cmp x y) ≡ nat_le y x
  by x y = grind (arith, nat_tests)

pub below : (a b : NumeralUnit) → false ≡ partial_ge partial_cmp-value.it a b → rank a < rank b
below a b h = let e = h ∙ is_not_lower a b in grind (arith, nat_tests, e)
