-- What is read as an amount, and what the answer to a text is.
use Rattle.std.specs.Prelude.{◌≡◌, ℕ, List, [], ◌∷◌, map, Option, Some, Result, codes, chars}
pub use Rattle.cn_grammar.specs.declared.refusal.Refusal.{Refusal as AmountRefusal}
pub use Rattle.cn_grammar.specs.declared.refusal.Refusal.TheVariants.{Unfinished as unfinished, Incorrect as incorrect_at}
use Rattle.cn_grammar.specs.Answers.{Answers}
use Rattle.cn_grammar.specs.Characters.{first_with}
use Rattle.cn_amount.specs.declared.capital.Capital.{Capital}
use Rattle.cn_amount.specs.declared.capital.Capital.TheVariants.{Ling, Digit, Shi, Bai, Qian, Wan, Yi, Yuan, Jiao, Fen, Zheng, Ren, Min, Bi}
use Rattle.cn_amount.specs.declared.places.Places.{Places}
use Rattle.cn_amount.specs.Form.{Choices, amount_form}
use Rattle.cn_amount.specs.Places.{ArePlaces, amount_value}

-- the characters that are read as each capital: those of both scripts, and none of the lower case
abbrev pub capital_rows : List (List ℕ × Capital)
capital_rows =
    (codes "零", Ling) ∷ (codes "壹", Digit 1) ∷ (codes "贰貳", Digit 2) ∷ (codes "叁參叄", Digit 3)
    ∷ (codes "肆", Digit 4) ∷ (codes "伍", Digit 5) ∷ (codes "陆陸", Digit 6) ∷ (codes "柒", Digit 7)
    ∷ (codes "捌", Digit 8) ∷ (codes "玖", Digit 9) ∷ (codes "拾", Shi) ∷ (codes "佰", Bai)
    ∷ (codes "仟", Qian) ∷ (codes "万萬", Wan) ∷ (codes "亿億", Yi) ∷ (codes "元圆圓", Yuan)
    ∷ (codes "角", Jiao) ∷ (codes "分", Fen) ∷ (codes "整正", Zheng) ∷ (codes "人", Ren)
    ∷ (codes "民", Min) ∷ (codes "币幣", Bi) ∷ []

-- what a character is read as; none if it is not read
unfoldable pub capital_of : ℕ → Option Capital
capital_of c = first_with capital_rows c

-- what each character of a text is read as
abbrev pub capitals_of : List ℕ → List (Option Capital)
capitals_of text = map capital_of text

-- the characters are a form of the amount
pub record IsAmount (text : List ℕ) (fen : ℕ) : Type 0 where
  pub choices : Choices
  pub places : Places
  pub digits : ArePlaces places
  pub form : capitals_of text ≡ map Some (amount_form choices places)
  pub value : fen ≡ amount_value places

-- `answer` is the answer to a string, given by its bytes
abbrev pub ReadsAmount : List ℕ → Result ℕ AmountRefusal → Type 0
ReadsAmount bytes answer = Answers IsAmount (chars bytes) answer
