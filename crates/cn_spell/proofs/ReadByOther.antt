-- Below 10^16, `Middle` spells with units up to 億 only, which `TenThousand` reads as the same
-- number.
use Rattle.std.proofs.Common.{◌≡◌, ℕ, ◌*◌, ◌^◌, ◌<◌, true, false, nat_lt, List, Ok, sym, ap, ◌∙◌, arith}
use Rattle.std.specs.List.{list_all}
use Rattle.std.proofs.lemmas.Bool.Decides.{nat_tests}
use Rattle.cn_core.specs.declared.method.ChineseCountMethod.{ChineseCountMethod}
use Rattle.cn_core.specs.declared.method.ChineseCountMethod.TheVariants.{TenThousand, Middle}
use Rattle.cn_core.specs.Judge.{Judges}
use Rattle.cn_core.specs.Numeral.{IsNumeral}
use Rattle.cn_core.specs.Place.{some_unfit}
use Rattle.cn_core.specs.Scale.{scale, exponent}
use Rattle.cn_core.specs.Spelling.{spelling, spelling_within}
use Rattle.cn_core.specs.Value.{numeral_value}
use Rattle.cn_core.proofs.ReadBack.{spelling-is_numeral}
use Rattle.cn_core.proofs.SmallUnits.{numeral_value-same, unfit-same}
use Rattle.cn_core.proofs.Spellings.{Spells-spelling_within, short_spelling-by}
use Rattle.cn_core.proofs.Sums.{all_below}
use Rattle.cn_spell.proofs.SpelledMarks.{Judges-numeral, spelling-fits}

-- the spelling of a number under one method is read under another as the same number
pub record IsReadBy (write read : ChineseCountMethod) (number : ℕ) : Type 0 where
  pub square : number < scale write 15 * scale write 15
  pub fits : some_unfit read (spelling write number) ≡ false
  pub value : numeral_value read (spelling write number) ≡ number

pub IsReadBy-own : (method : ChineseCountMethod) (number : ℕ) → number < 2 ^ 128
    → number < scale method 15 * scale method 15 → IsReadBy method method number
IsReadBy-own method number small square = record {
  square = square;
  fits = spelling-fits method number small square;
  value = (spelling-is_numeral method number square).1;
}

-- up to 億 the units are the same
same-units : (rank : ℕ) → nat_lt rank 6 ≡ true
    → exponent Middle rank ≡ exponent TenThousand rank
same-units rank h = grind (arith, nat_tests)

small-units : (number : ℕ) → number < 10 ^ 16 → all_below 6 (spelling Middle number) ≡ true
small-units number low =
    let h : all_below 6 (spelling_within number Middle number) ≡ true =
    (Spells-spelling_within Middle number number (omega arith) (omega (arith, low))).below 6 low in
    short_spelling-by (λ marks. all_below 6 marks ≡ true) (spelling_within number Middle number) h
    (λ rest ten. ap (all_below 6) (sym ten) ∙ h)

pub IsReadBy-middle : (number : ℕ) → number < 10 ^ 16 → IsReadBy Middle TenThousand number
IsReadBy-middle number low =
    let square : number < scale Middle 15 * scale Middle 15 = omega (arith, low) in
    let units = small-units number low in
    let marks = spelling Middle number in
    record {
      square = square;
      fits = sym (unfit-same Middle TenThousand 6 same-units marks units)
          ∙ spelling-fits Middle number (omega (arith, low)) square;
      value = sym (numeral_value-same Middle TenThousand 6 same-units marks units)
          ∙ (spelling-is_numeral Middle number square).1;
    }

-- so the judgement of that spelling is the number
pub Judges-read : (write read : ChineseCountMethod) (number : ℕ) → number < 2 ^ 128
    → IsReadBy write read number → Judges read (spelling write number) (Ok number)
Judges-read write read number small is =
    Judges-numeral read (spelling write number) number
    (spelling-is_numeral write number is.square).0 is.fits is.value small
