-- Sums of money as they are spoken.
use Rattle.std.specs.Prelude.{ℕ, Bool, true, false, not, ◌&&◌, ◌||◌, List, [], ◌++◌, map, codes, chars, if◌then◌else◌}
use Rattle.cn_core.specs.FigureCharacters.{is_figure}
use Rattle.cn_find.specs.Belongs.{begins_with}
use Rattle.cn_find.specs.Words.{is_exactly}
use Rattle.cn_phrase.specs.declared.money.MoneyForm.{MoneyForm}
use Rattle.cn_phrase.specs.declared.money.MoneyForm.TheVariants as form
use Rattle.cn_phrase.specs.Money.{Money}
use Rattle.cn_speech.specs.declared.voice.Voice.{Voice}
use Rattle.cn_speech.specs.Joined.{has_figure, is_joined_before, is_joined_after}
use Rattle.cn_speech.specs.Numbers.{digit_said, is_number, number_said, trimmed}
use Rattle.cn_speech.specs.Voice.{two, word as said}

abbrev pub is_small : MoneyForm → Bool
is_small form.Small = true
is_small other = false

abbrev pub is_signed : MoneyForm → Bool
is_signed form.Signed = true
is_signed other = false

abbrev pub is_two : List ℕ → Bool
is_two number = is_exactly (codes "2") number || is_exactly (codes "２") number

-- a number in figures: 两 for 2, but 二 for 2 jiao or fen
abbrev pub figures_said : Voice → MoneyForm → List ℕ → List ℕ
figures_said voice form number =
    if is_two number && not (is_small form) then two voice else number_said voice [] number

-- the number of a sum, without the zeros at the end of its decimals; Chinese characters stay
abbrev pub amount_said : Voice → MoneyForm → List ℕ → List ℕ
amount_said voice form number =
    if has_figure number then figures_said voice form (trimmed number) else number

-- 元 after a sum with a sign, unless its unit is there
abbrev pub yuan_after : Voice → MoneyForm → List ℕ → List ℕ
yuan_after voice form rest =
    if is_signed form && not (begins_with (codes "元圆圓块塊") rest) then said voice (codes "元") else []

-- the characters of 元, 角 and 分 stay, their figures become digits
abbrev pub part_said : Voice → ℕ → ℕ
part_said voice c = if is_figure c then digit_said voice c else c

-- a sum of money; its sign and the blanks after it are left out
abbrev pub money_said : Voice → Money → List ℕ
money_said voice m =
    amount_said voice m.form (chars m.number.text)
    ++ (yuan_after voice m.form m.rest ++ map (part_said voice) (chars m.tail))

-- its number is one in Chinese characters, or is read without such zeros
abbrev pub has_amount : List ℕ → Bool
has_amount number = not (has_figure number) || is_number (trimmed number)

-- another currency is before a sum, as in $5元
abbrev pub follows_currency : List ℕ → Bool
follows_currency front = begins_with (codes "$＄€£") front

-- a sum after these characters is spoken, unless it goes on before or after it
abbrev pub is_money_said : List ℕ → Money → Bool
is_money_said front m =
    has_amount (chars m.number.text)
    && (not (follows_currency front)
    && (not (is_joined_before front (chars m.number.text) m.rest)
    && not (is_joined_after (chars m.number.text) m.rest)))
