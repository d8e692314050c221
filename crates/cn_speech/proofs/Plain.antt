-- Figures without their commas.
use Rattle.std.proofs.Common.{◌≡◌, ℕ, List, [], ◌∷◌, ◌++◌, ◌^◌, ◌≤◌, None, arith}
use Rattle.cn_codes.specs.Digits.{number_from, number_of}
use Rattle.cn_codes.proofs.Sums.{number-above}
use Rattle.cn_speech.specs.declared.voice.Voice.{Voice}
use Rattle.cn_speech.specs.Numbers.{one_by_one, plain, small_number}
use Rattle.cn_speech.specs.Private.{next_value}

-- a character, and the others
pub commas-apart : (voice : Voice) (c : ℕ) (rest : List ℕ)
    → one_by_one voice (plain (c ∷ rest))
    ≡ one_by_one voice (plain (c ∷ [])) ++ one_by_one voice (plain rest)
commas-apart voice c rest = grind (arith)

-- the number of a character and the others
pub number-next : (value c : ℕ) (rest : List ℕ)
    → number_from value (plain (c ∷ rest)) ≡ number_from (next_value value c) (plain rest)
number-next value c rest = grind (arith)

-- figures whose number is 10^16 or more
pub too-large : (value : ℕ) (figures rest : List ℕ)
    → number_of (plain figures) ≡ number_from value (plain rest) → 10 ^ 16 ≤ value
    → None ≡ small_number figures
too-large value figures rest same great =
    let above : 10 ^ 16 ≤ number_of (plain figures) =
    omega (arith, number-above value (plain rest), same, great) in
    grind (arith, above)
