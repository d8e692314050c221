-- Characters and capitals: the character written for a capital is read as that capital.
use Rattle.std.proofs.Common.{◌≡◌, ℕ, ◌<◌, Bool, true, nat_lt, List, map, Some, refl, arith}
use Rattle.std.specs.Char.{encode_utf8}
use Rattle.std.specs.List.{list_all}
use Rattle.std.specs.Str.{all_scalars}
use Rattle.std.proofs.lemmas.Bool.Decides.{nat_tests}
use Rattle.cn_core.specs.Characters.{digit_char, unit_char}
use Rattle.cn_core.specs.declared.script.ChineseVariant.{ChineseVariant}
use Rattle.cn_core.specs.declared.script.ChineseVariant.TheVariants.{Traditional, Simple}
use Rattle.cn_grammar.proofs.Characters.{AllBelow, all-at, read-passes, IsWrittenBack}
use Rattle.cn_grammar.proofs.Characters as every
use Rattle.cn_date.specs.declared.capital.Capital.{Capital}
use Rattle.cn_date.specs.declared.capital.Capital.TheVariants.{Digit}
use Rattle.cn_date.specs.Reading.{capital_rows, capital_of, capitals_of}
use Rattle.cn_date.specs.Working.Putting.{IsWritten}
use Rattle.cn_date.specs.Writes.{capital_char}

-- a digit has one place
abbrev pub is_proper : Capital → Bool
is_proper (Digit value) = nat_lt value 10
is_proper capital = true

digit-low : (value : ℕ) → nat_lt value 10 ≡ true → value < 10
digit-low value h = grind (arith, nat_tests)

abbrev WrittenBack : ChineseVariant → Capital → Type 0
WrittenBack variant capital = IsWrittenBack capital_of (capital_char variant) capital

digits-back : (variant : ChineseVariant) → AllBelow (λ value. WrittenBack variant (Digit value)) 10
unfolding capital_of digit_char encode_utf8
digits-back Simple = ((refl, refl, refl), ((refl, refl, refl), ((refl, refl, refl), ((refl, refl, refl), ((refl, refl, refl), ((refl, refl, refl), ((refl, refl, refl), ((refl, refl, refl), ((refl, refl, refl), ((refl, refl, refl), tt))))))))))
digits-back Traditional = ((refl, refl, refl), ((refl, refl, refl), ((refl, refl, refl), ((refl, refl, refl), ((refl, refl, refl), ((refl, refl, refl), ((refl, refl, refl), ((refl, refl, refl), ((refl, refl, refl), ((refl, refl, refl), tt))))))))))

words-back : (variant : ChineseVariant) (capital : Capital)
    → ((value : ℕ) → capital ≡ Digit value → WrittenBack variant (Digit value))
    → WrittenBack variant capital
unfolding capital_of unit_char encode_utf8
words-back variant (Digit value) digit = digit value refl
words-back Simple capital digit = (refl, refl, refl)
words-back Traditional capital digit = (refl, refl, refl)

pub capital-back : (variant : ChineseVariant) (capital : Capital) → is_proper capital ≡ true
    → WrittenBack variant capital
capital-back variant (Digit value) h = all-at (λ value. WrittenBack variant (Digit value)) 10 value
    (digits-back variant) (digit-low value h)
capital-back variant capital h = words-back variant capital (λ value e. absurd (cc))

pub capitals-read : (variant : ChineseVariant) (capitals : List Capital)
    → list_all is_proper capitals ≡ true
    → capitals_of (map (capital_char variant) capitals) ≡ map Some capitals
capitals-read variant =
    every.capitals-read capital_of (capital_char variant) is_proper (capital-back variant)

pub capitals-scalar : (variant : ChineseVariant) (capitals : List Capital)
    → list_all is_proper capitals ≡ true → all_scalars (map (capital_char variant) capitals) ≡ true
capitals-scalar variant =
    every.capitals-scalar capital_of (capital_char variant) is_proper (capital-back variant)

proper-written : (capital : Capital) → is_proper capital ≡ true → IsWritten capital
proper-written (Digit value) h = digit-low value h
proper-written capital h = tt

-- each character that is read is a digit below 10, or not a digit
pub written-of : (c : ℕ) (capital : Capital) → capital_of c ≡ Some capital → IsWritten capital
unfolding capital_of
written-of c capital e =
    proper-written capital (read-passes is_proper capital_rows c capital refl e)
