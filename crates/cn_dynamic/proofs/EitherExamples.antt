-- Worked examples, each proved by computing the definitions. RULES shows them.
use Rattle.std.proofs.Common.{◌≡◌, [], ◌∷◌, map, refl}
use Rattle.chinese_number.specs.declared.ChineseCountMethod.TheVariants.{Middle, TenThousand}
use Rattle.chinese_number.specs.declared.ChineseVariant.TheVariants.{Traditional, Simple}
use Rattle.cn_dynamic.specs.Either.{written_method}

simple : map (written_method Simple) (0 ∷ 1000000000000 ∷ 9999999999999999
    ∷ 10000000000000000 ∷ [])
    ≡ Middle ∷ Middle ∷ Middle ∷ TenThousand ∷ []
simple = refl

traditional : map (written_method Traditional) (0 ∷ 1000000000000 ∷ 10000000000000000 ∷ [])
    ≡ TenThousand ∷ TenThousand ∷ TenThousand ∷ []
traditional = refl
