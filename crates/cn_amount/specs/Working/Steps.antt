-- Reading from left to right: the state after each character, and the sum so far.
use Rattle.std.specs.Prelude.{ℕ, ◌+◌, ◌*◌, Bool, true, false, List, [], ◌∷◌, Option, Some, None, if◌then◌else◌}
use Rattle.cn_amount.specs.declared.capital.Capital.{Capital}
use Rattle.cn_amount.specs.declared.capital.Capital.TheVariants.{Ling, Digit, Shi, Bai, Qian, Wan, Yi, Yuan, Jiao, Fen, Zheng, Ren, Min, Bi}
use Rattle.cn_amount.specs.declared.progress.Progress.{Progress}
use Rattle.cn_amount.specs.declared.sum.Sum.{Sum}
use Rattle.cn_amount.specs.Reading.{capital_of}
use Rattle.cn_grammar.specs.Machine as machine
use Rattle.cn_amount.specs.declared.state.Place.{Place}
use Rattle.cn_amount.specs.declared.state.Place.TheVariants.{Ones, Tens, Hundreds, Thousands}
use Rattle.cn_amount.specs.declared.state.Stage.{Stage}
use Rattle.cn_amount.specs.declared.state.Stage.TheVariants.{Top, BelowWan, BelowYi, BelowYiGap, OnlyWan, Last}
use Rattle.cn_amount.specs.declared.state.State.{State}
use Rattle.cn_amount.specs.declared.state.State.TheVariants.{Beginning, AfterRen, AfterMin, AfterCurrency, NoYuan, FirstDigit, AfterFirstWan, AfterYi, AfterLastWan, AfterLing, DigitAt, DigitBelow, AfterUnit, AfterYuan, AfterYuanLing, SmallDigit, JiaoDigit, AfterJiao, FenDigit, Complete}

-- the stage of a section that has 仟
abbrev pub behind_thousands : Stage → Stage
behind_thousands BelowYiGap = Last
behind_thousands stage = stage

-- the stage of a section that begins with 仟 directly after 万 or 亿
abbrev pub bare : Stage → Stage
bare BelowYi = OnlyWan
bare stage = stage

-- the state after a section and the capital that closes it, by whether the last digit of the
-- section is 0
abbrev pub close : Stage → Bool → Capital → Option State
close Top is_round Wan = Some (AfterFirstWan is_round)
close BelowYi is_round Wan = Some (AfterLastWan is_round)
close BelowYiGap is_round Wan = Some (AfterLastWan is_round)
close OnlyWan is_round Wan = Some (AfterLastWan is_round)
close Top is_round Yi = Some (AfterYi is_round)
close BelowWan is_round Yi = Some (AfterYi is_round)
close OnlyWan is_round Yuan = None
close stage is_round Yuan = Some (AfterYuan is_round)
close stage is_round capital = None

-- the state after a digit at a place and one more capital
abbrev pub digit_at : Stage → Place → Capital → Option State
digit_at stage Thousands Qian = Some (AfterUnit stage Thousands)
digit_at stage Hundreds Bai = Some (AfterUnit stage Hundreds)
digit_at stage Tens Shi = Some (AfterUnit stage Tens)
digit_at stage Ones capital = close stage false capital
digit_at stage place capital = None

-- the state after a digit at a place or a lower one and one more capital
abbrev pub digit_below : Stage → Place → Capital → Option State
digit_below stage Thousands Qian = Some (AfterUnit (behind_thousands stage) Thousands)
digit_below stage Thousands Bai = Some (AfterUnit stage Hundreds)
digit_below stage Hundreds Bai = Some (AfterUnit stage Hundreds)
digit_below stage Thousands Shi = Some (AfterUnit stage Tens)
digit_below stage Hundreds Shi = Some (AfterUnit stage Tens)
digit_below stage Tens Shi = Some (AfterUnit stage Tens)
digit_below stage place capital = close stage false capital

-- the state after the unit of a place and one more capital
abbrev pub after_unit : Stage → Place → Capital → Option State
after_unit stage Thousands (Digit value) = Some (DigitAt stage Hundreds)
after_unit stage Thousands Ling = Some (AfterLing stage Tens)
after_unit stage Hundreds (Digit value) = Some (DigitAt stage Tens)
after_unit stage Hundreds Ling = Some (AfterLing stage Ones)
after_unit stage Tens (Digit value) = Some (DigitAt stage Ones)
after_unit stage place capital = close stage true capital

-- the state after a 零 directly after 万 or 亿, by whether the digit at its place is 0
abbrev pub after_ling : Stage → Bool → State
after_ling stage true = AfterLing stage Thousands
after_ling BelowYi false = AfterLing BelowYiGap Thousands
after_ling stage false = AfterLing stage Hundreds

-- the state after a capital directly after 万 or 亿
abbrev pub after_great : Stage → Bool → Capital → Option State
after_great stage is_round Ling = Some (after_ling stage is_round)
after_great stage is_round (Digit value) = Some (DigitAt (bare stage) Thousands)
after_great stage is_round Wan = None
after_great stage is_round capital = close stage true capital

-- the state after the first digit and one more capital
abbrev pub first_digit : Capital → Option State
first_digit Jiao = Some AfterJiao
first_digit Fen = Some Complete
first_digit capital = digit_below Top Thousands capital

-- the state after one more capital; none if no amount continues with it
abbrev pub step : State → Capital → Option State
step FirstDigit capital = first_digit capital
step (AfterFirstWan is_round) capital = after_great BelowWan is_round capital
step (AfterYi is_round) capital = after_great BelowYi is_round capital
step (AfterLastWan is_round) capital = after_great Last is_round capital
step (AfterLing stage place) (Digit value) = Some (DigitBelow stage place)
step (DigitAt stage place) capital = digit_at stage place capital
step (DigitBelow stage place) capital = digit_below stage place capital
step (AfterUnit stage place) capital = after_unit stage place capital
step Beginning Ren = Some AfterRen
step AfterRen Min = Some AfterMin
step AfterMin Bi = Some AfterCurrency
step Beginning Ling = Some NoYuan
step AfterCurrency Ling = Some NoYuan
step Beginning (Digit value) = Some FirstDigit
step AfterCurrency (Digit value) = Some FirstDigit
step NoYuan Yuan = Some (AfterYuan true)
step (AfterYuan is_round) Zheng = Some Complete
step AfterJiao Zheng = Some Complete
step (AfterYuan is_round) Ling = Some (AfterYuanLing is_round)
step (AfterYuan is_round) (Digit value) = Some JiaoDigit
step (AfterYuanLing is_round) (Digit value) = Some (SmallDigit is_round)
step JiaoDigit Jiao = Some AfterJiao
step (SmallDigit true) Jiao = Some AfterJiao
step FenDigit Fen = Some Complete
step (SmallDigit is_round) Fen = Some Complete
step AfterJiao (Digit value) = Some FenDigit
step state capital = None

-- an amount may end at this state
abbrev pub is_end : State → Bool
is_end AfterJiao = true
is_end Complete = true
is_end state = false

-- the state after a text
abbrev pub run : State → List Capital → Option State
run state capitals = machine.run step state capitals

-- the text makes an amount from this state on
abbrev pub accepts : State → List Capital → Bool
accepts state [] = is_end state
accepts state (capital ∷ rest) = elim (step state capital) [
  | None ↦ false
  | Some next ↦ accepts next rest
]

-- the sum with more in the open section, and no digit whose unit is not yet read
abbrev pub with_section : Sum → ℕ → Sum
with_section sum more = record sum { section = sum.section + more; digit = 0 }

-- the sum with this closed, and no open section
abbrev pub of_closed : ℕ → Sum
of_closed closed = record { closed = closed; section = 0; digit = 0 }

-- the sum with more fen, and no digit whose unit is not yet read
abbrev pub with_fen : Sum → ℕ → Sum
with_fen sum more = record sum { closed = sum.closed + more; digit = 0 }

-- the sum with one more capital
abbrev pub add : Sum → Capital → Sum
add sum (Digit value) = record sum { digit = value }
add sum Shi = with_section sum (10 * sum.digit)
add sum Bai = with_section sum (100 * sum.digit)
add sum Qian = with_section sum (1000 * sum.digit)
add sum Wan = of_closed (sum.closed + 10000 * (sum.section + sum.digit))
add sum Yi = of_closed (100000000 * (sum.closed + sum.section + sum.digit))
add sum Yuan = of_closed (100 * (sum.closed + sum.section + sum.digit))
add sum Jiao = with_fen sum (10 * sum.digit)
add sum Fen = with_fen sum sum.digit
add sum capital = sum

-- the sum of a text
abbrev pub sum_of : Sum → List Capital → Sum
sum_of sum [] = sum
sum_of sum (capital ∷ rest) = sum_of (add sum capital) rest

-- what is summed without the last digit, in yuan up to 元 and in fen after it; no character makes
-- it less
abbrev pub summed : Sum → ℕ
summed sum = sum.closed + sum.section

-- the sum of no characters
abbrev pub no_sum : Sum
no_sum = of_closed 0

-- the state, if there is one, with its sum
abbrev pub with_sum : Sum → Option State → Option Progress
with_sum sum None = None
with_sum sum (Some state) = Some (record { state = state; sum = sum })

-- the state and the sum after one more capital
abbrev pub advance : Progress → Capital → Option Progress
advance progress capital = with_sum (add progress.sum capital) (step progress.state capital)

-- the amount in fen if an amount may end here
abbrev pub end : Progress → Option ℕ
end progress = if is_end progress.state then Some progress.sum.closed else None

-- the state before an amount without 人民币, which is the state after 人民币
abbrev pub bare_progress : Progress
bare_progress = record { state = AfterCurrency; sum = no_sum }

-- the machine that reads amounts, character by character
abbrev pub amount_machine : machine.Machine Progress ℕ
amount_machine = record {
  begin = record { state = Beginning; sum = no_sum };
  step = λ progress c. machine.step_as advance progress (capital_of c);
  end = end;
}
