-- Worked examples: what the words of a command line ask for.
use Rattle.std.proofs.Common.{◌≡◌, true, false, [], ◌∷◌, Some, None, codes, refl}
use Rattle.chinese_number.specs.declared.ChineseCountMethod.TheVariants.{TenThousand, High}
use Rattle.cn_find.specs.declared.wanted.TheConstants.Wanted.{ALL, EVERYDAY}
use Rattle.numbers.specs.Request.{asked}
use Rattle.numbers.specs.declared.options.Request.TheVariants as asks

no_words : asked []
    ≡ Some (asks.Search (record { exact = false; wanted = EVERYDAY; method = TenThousand }))
no_words = refl

last_method : asked (codes "low" ∷ codes "--all" ∷ codes "high" ∷ codes "--exact" ∷ [])
    ≡ Some (asks.Search (record { exact = true; wanted = ALL; method = High }))
last_method = refl

help_among_others : asked (codes "--exact" ∷ codes "--help" ∷ codes "low" ∷ []) ≡ Some asks.Help
help_among_others = refl

unknown_behind_help : asked (codes "--help" ∷ codes "naive" ∷ []) ≡ None
unknown_behind_help = refl
