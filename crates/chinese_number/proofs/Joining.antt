-- What a caller who prints and then reads concludes of the reader's result.
use Rattle.std.proofs.Common.{◌≡◌, ◌↔◌, ℕ, ℤ, List, Result, Ok, Err, ap, subst, ◌∙◌}
use Rattle.cn_core.specs.declared.method.ChineseCountMethod.{ChineseCountMethod}
use Rattle.cn_judge.specs.declared.error.ChineseToNumberError.{ChineseToNumberError}
use Rattle.cn_judge.specs.Answer.{answer_of}
use Rattle.cn_core.specs.Reading.{Reads, naive_reading}
use Rattle.cn_core.specs.Refusal.{Refusal}
use Rattle.cn_core.specs.Whole.{Kind}

-- a result whose answer is the number of a value is that value
module _ {T : Type 0} (number : T → ℤ) (same : (x y : T) → number x ≡ number y → x ≡ y)
    (result : Result T ChineseToNumberError) (value : T) where
  result_is : (r : Result T ChineseToNumberError) → answer_of number r ≡ Ok (number value)
      → r ≡ Ok value
  result_is (Ok x) h = let e : number x ≡ number value = cc in ap Ok (same x value e)
  result_is (Err error) h = cc

  -- so it is where the string that was read, with units, is one that is answered by that number
  pub unit_result_is : (kind : Kind) (method : ChineseCountMethod) (bytes text written : List ℕ)
      → Reads kind method bytes (answer_of number result) → bytes ≡ text → text ≡ written
      → ((answer : Result ℤ Refusal)
      → Reads kind method written answer ↔ (answer ≡ Ok (number value)))
      → result ≡ Ok value
  unit_result_is kind method bytes text written read lent printed law =
      let answer = answer_of number result in
      let of_written = subst (λ t. Reads kind method t answer) (lent ∙ printed) read in
      result_is result ((law answer).0 of_written)

  -- and the same of plain digits
  pub naive_result_is : (kind : Kind) (bytes text written : List ℕ)
      → answer_of number result ≡ naive_reading kind bytes → bytes ≡ text → text ≡ written
      → naive_reading kind written ≡ Ok (number value) → result ≡ Ok value
  naive_result_is kind bytes text written read lent printed law =
      result_is result (read ∙ ap (naive_reading kind) (lent ∙ printed) ∙ law)
