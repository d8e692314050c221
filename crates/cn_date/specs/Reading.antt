-- What is read as a date, and what the answer to a text is.
use Rattle.std.specs.Prelude.{◌≡◌, ℕ, Bool, List, [], ◌∷◌, map, Option, Some, Result, codes, chars}
pub use Rattle.cn_grammar.specs.declared.refusal.Refusal.{Refusal as DateRefusal}
pub use Rattle.cn_grammar.specs.declared.refusal.Refusal.TheVariants.{Unfinished as unfinished, Incorrect as incorrect_at}
use Rattle.cn_grammar.specs.Answers.{Answers}
use Rattle.cn_grammar.specs.Characters.{first_with}
use Rattle.cn_date.specs.declared.capital.Capital.{Capital}
use Rattle.cn_date.specs.declared.capital.Capital.TheVariants.{Digit, Shi, Nian, Yue, Ri}
use Rattle.cn_date.specs.declared.date.BillDate.{BillDate}
use Rattle.cn_date.specs.Calendar.{IsDate}
use Rattle.cn_date.specs.Form.{date_form}

-- the characters that are read as each capital: those of both scripts, and none of the lower case
abbrev pub capital_rows : List (List ℕ × Capital)
capital_rows =
    (codes "零", Digit 0) ∷ (codes "壹", Digit 1) ∷ (codes "贰貳", Digit 2)
    ∷ (codes "叁參叄", Digit 3) ∷ (codes "肆", Digit 4) ∷ (codes "伍", Digit 5)
    ∷ (codes "陆陸", Digit 6) ∷ (codes "柒", Digit 7) ∷ (codes "捌", Digit 8)
    ∷ (codes "玖", Digit 9) ∷ (codes "拾", Shi) ∷ (codes "年", Nian) ∷ (codes "月", Yue)
    ∷ (codes "日", Ri) ∷ []

-- what a character is read as; none if it is not read
unfoldable pub capital_of : ℕ → Option Capital
capital_of c = first_with capital_rows c

-- what each character of a text is read as
abbrev pub capitals_of : List ℕ → List (Option Capital)
capitals_of text = map capital_of text

-- the characters are a form of the date
pub record IsDateText (text : List ℕ) (date : BillDate) : Type 0 where
  pub choice : Bool
  pub is_date : IsDate date
  pub form : capitals_of text ≡ map Some (date_form choice date)

-- `answer` is the answer to a string, given by its bytes
abbrev pub ReadsDate : List ℕ → Result BillDate DateRefusal → Type 0
ReadsDate bytes answer = Answers IsDateText (chars bytes) answer
