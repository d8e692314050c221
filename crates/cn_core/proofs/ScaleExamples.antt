-- Worked examples of scales: the powers of ten of all sixteen units under each method.
use Rattle.std.proofs.Common.{◌≡◌, ◌^◌, ℕ, List, [], ◌∷◌, ◌++◌, Option, Some, None, if◌then◌else◌, map, refl}
use Rattle.std.specs.List.{repeat}
use Rattle.cn_core.specs.declared.method.ChineseCountMethod.{ChineseCountMethod}
use Rattle.cn_core.specs.declared.method.ChineseCountMethod.TheVariants.{Low, TenThousand, Middle, High}
use Rattle.cn_core.specs.Scale.{exponent, scale, scale_fits}

-- the exponents of the units from rank 0 to rank 15, and `None` for a scale that does not fit 128
-- bits
abbrev powers : ChineseCountMethod → List (Option ℕ)
powers method = map (λ rank. if scale_fits method rank then Some (exponent method rank) else None)
    (0 ∷ 1 ∷ 2 ∷ 3 ∷ 4 ∷ 5 ∷ 6 ∷ 7 ∷ 8 ∷ 9 ∷ 10 ∷ 11 ∷ 12 ∷ 13 ∷ 14 ∷ 15 ∷ [])

low : powers Low ≡ map Some (0 ∷ 1 ∷ 2 ∷ 3 ∷ 4 ∷ 5 ∷ 6 ∷ 7 ∷ 8 ∷ 9 ∷ 10 ∷ 11 ∷ 12 ∷ 13 ∷ 14 ∷ 15
    ∷ [])
low = refl

-- 正, 載 and 極 do not fit
ten_thousand : powers TenThousand ≡ map Some
    (0 ∷ 1 ∷ 2 ∷ 3 ∷ 4 ∷ 8 ∷ 12 ∷ 16 ∷ 20 ∷ 24 ∷ 28 ∷ 32 ∷ 36 ∷ []) ++ None ∷ None ∷ None ∷ []
ten_thousand = refl

-- 垓 is the last unit that fits
middle : powers Middle ≡ map Some (0 ∷ 1 ∷ 2 ∷ 3 ∷ 4 ∷ 8 ∷ 16 ∷ 24 ∷ 32 ∷ [])
    ++ repeat 7 (None ∷ [])
middle = refl

-- 京 is the last unit that fits
high : powers High ≡ map Some (0 ∷ 1 ∷ 2 ∷ 3 ∷ 4 ∷ 8 ∷ 16 ∷ 32 ∷ []) ++ repeat 8 (None ∷ [])
high = refl

-- the scale of 極 under `Low`, and those of 澗, 垓 and 京, the greatest units that fit under the other
-- methods
greatest_of_low : scale Low 15 ≡ 1000000000000000
greatest_of_low = refl

greatest_of_ten_thousand : scale TenThousand 12 ≡ 10 ^ 36
greatest_of_ten_thousand = refl

greatest_of_middle : scale Middle 8 ≡ 10 ^ 32
greatest_of_middle = refl

greatest_of_high : scale High 7 ≡ 10 ^ 32
greatest_of_high = refl
