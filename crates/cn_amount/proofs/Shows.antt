-- Characters and capitals: the character written for a capital is read as that capital.
use Rattle.std.proofs.Common.{◌≡◌, ℕ, zero, suc, Bool, true, false, nat_lt, List, map, Some, refl, arith}
use Rattle.std.specs.Char.{encode_utf8}
use Rattle.std.specs.List.{list_all}
use Rattle.std.specs.Str.{all_scalars}
use Rattle.std.proofs.lemmas.Bool.Decides.{nat_tests}
use Rattle.cn_core.specs.Characters.{digit_char, unit_char}
use Rattle.cn_core.specs.declared.script.ChineseVariant.{ChineseVariant}
use Rattle.cn_core.specs.declared.script.ChineseVariant.TheVariants.{Traditional, Simple}
use Rattle.cn_core.proofs.Fronts.{and-right}
use Rattle.cn_grammar.proofs.Characters.{AllBelow, all-at, read-passes, IsWrittenBack}
use Rattle.cn_grammar.proofs.Characters as every
use Rattle.cn_amount.specs.declared.capital.Capital.{Capital}
use Rattle.cn_amount.specs.declared.capital.Capital.TheVariants.{Digit, Yuan, Zheng, Fu, Open, Shu, Close}
use Rattle.cn_amount.specs.declared.form.AmountForm.{AmountForm}
use Rattle.cn_amount.specs.Reading.{capital_rows, capital_of, capitals_of}
use Rattle.cn_amount.specs.Writes.{capital_char}
use Rattle.cn_amount.proofs.States.{is_proper}

abbrev WrittenBack : ChineseVariant → AmountForm → Capital → Type 0
WrittenBack variant form capital = IsWrittenBack capital_of (capital_char variant form) capital

digits-back : (variant : ChineseVariant) (form : AmountForm)
    → AllBelow (λ n. WrittenBack variant form (Digit (suc n))) 9
unfolding capital_of digit_char encode_utf8
digits-back Simple form = ((refl, refl, refl), ((refl, refl, refl), ((refl, refl, refl), ((refl, refl, refl), ((refl, refl, refl), ((refl, refl, refl), ((refl, refl, refl), ((refl, refl, refl), ((refl, refl, refl), tt)))))))))
digits-back Traditional form = ((refl, refl, refl), ((refl, refl, refl), ((refl, refl, refl), ((refl, refl, refl), ((refl, refl, refl), ((refl, refl, refl), ((refl, refl, refl), ((refl, refl, refl), ((refl, refl, refl), tt)))))))))

yuan-back : (variant : ChineseVariant) (form : AmountForm) (round : Bool)
    → form.round_yuan ≡ round → WrittenBack variant form Yuan
unfolding capital_of encode_utf8
yuan-back variant form false e = rw e (refl, refl, refl)
yuan-back Simple form true e = rw e (refl, refl, refl)
yuan-back Traditional form true e = rw e (refl, refl, refl)

closing-back : (variant : ChineseVariant) (form : AmountForm) (upright : Bool)
    → form.upright_closing ≡ upright → WrittenBack variant form Zheng
unfolding capital_of encode_utf8
closing-back variant form false e = rw e (refl, refl, refl)
closing-back variant form true e = rw e (refl, refl, refl)

words-back : (variant : ChineseVariant) (form : AmountForm) (capital : Capital)
    → is_proper capital ≡ true
    → ((value : ℕ) → capital ≡ Digit value → WrittenBack variant form (Digit value))
    → WrittenBack variant form capital
unfolding capital_of digit_char unit_char encode_utf8
words-back variant form (Digit value) h digit = digit value refl
words-back variant form Fu h digit = absurd (cc)
words-back variant form Open h digit = absurd (cc)
words-back variant form Shu h digit = absurd (cc)
words-back variant form Close h digit = absurd (cc)
words-back variant form Yuan h digit = yuan-back variant form form.round_yuan refl
words-back variant form Zheng h digit = closing-back variant form form.upright_closing refl
words-back Simple form capital h digit = (refl, refl, refl)
words-back Traditional form capital h digit = (refl, refl, refl)

pub capital-back : (variant : ChineseVariant) (form : AmountForm) (capital : Capital)
    → is_proper capital ≡ true → WrittenBack variant form capital
capital-back variant form (Digit zero) h = cc
capital-back variant form (Digit (suc n)) h =
    let less : nat_lt (suc n) 10 ≡ true = and-right (nat_lt 0 (suc n)) _ h in
    all-at (λ n. WrittenBack variant form (Digit (suc n))) 9 n (digits-back variant form)
    (grind (arith, nat_tests))
capital-back variant form capital h = words-back variant form capital h (λ value e. absurd (cc))

pub capitals-read : (variant : ChineseVariant) (form : AmountForm) (capitals : List Capital)
    → list_all is_proper capitals ≡ true
    → capitals_of (map (capital_char variant form) capitals) ≡ map Some capitals
capitals-read variant form =
    every.capitals-read capital_of (capital_char variant form) is_proper (capital-back variant form)

pub capitals-scalar : (variant : ChineseVariant) (form : AmountForm) (capitals : List Capital)
    → list_all is_proper capitals ≡ true
    → all_scalars (map (capital_char variant form) capitals) ≡ true
capitals-scalar variant form =
    every.capitals-scalar capital_of (capital_char variant form) is_proper (capital-back variant form)

-- each character that is read is a digit from 1 to 9, or not a digit
pub proper-of : (c : ℕ) (capital : Capital) → capital_of c ≡ Some capital
    → is_proper capital ≡ true
unfolding capital_of
proper-of c capital e = read-passes is_proper capital_rows c capital refl e
