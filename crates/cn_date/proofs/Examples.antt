-- Worked examples: the values that the definitions compute. The month and the day of the marked
-- ones are from the rules of the banks.
use Rattle.std.proofs.Common.{◌≡◌, ℕ, true, List, ◌∷◌, ◌++◌, length, map, Some, None, Err, codes, refl, ◌∙◌, arith}
use Rattle.cn_grammar.specs.Machine.{Leads}
use Rattle.cn_grammar.specs.Machine as machine
use Rattle.cn_grammar.specs.Answers.{Answers}
use Rattle.cn_grammar.proofs.Reading.{unfinished-read, place-refused}
use Rattle.cn_grammar.proofs.Runs.{run-map}
use Rattle.cn_core.specs.Characters.{digit_char, unit_char}
use Rattle.cn_core.specs.declared.script.ChineseVariant.TheVariants.{Traditional, Simple}
use Rattle.cn_date.specs.declared.date.BillDate.{BillDate}
use Rattle.cn_date.specs.declared.part.Part.TheVariants.{Nothing, Ling, LingOne, LingTens, One, Tens, Both}
use Rattle.cn_date.specs.declared.state.State.{State}
use Rattle.cn_date.specs.declared.state.State.TheVariants.{Year, Month, Day, Complete}
use Rattle.cn_date.specs.Calendar.{IsDate, days_of}
use Rattle.cn_date.specs.Form.{date_form}
use Rattle.cn_date.specs.Reading.{unfinished, incorrect_at, capital_of, capitals_of, IsDateText}
use Rattle.cn_date.specs.Working.Steps.{step, end, date_machine}
use Rattle.cn_date.specs.Writes.{date_text}
use Rattle.cn_date.proofs.ReadText.{date_reads}

abbrev on : ℕ → ℕ → ℕ → BillDate
on year month day = record { year = year; month = month; day = day }

-- each month

-- from the rules
january : date_text Simple (on 2026 1 15) ≡ codes "贰零贰陆年零壹月壹拾伍日"
unfolding digit_char unit_char
january = refl

february : date_text Simple (on 2026 2 15) ≡ codes "贰零贰陆年零贰月壹拾伍日"
unfolding digit_char unit_char
february = refl

march : date_text Simple (on 2026 3 15) ≡ codes "贰零贰陆年叁月壹拾伍日"
unfolding digit_char unit_char
march = refl

april : date_text Simple (on 2026 4 15) ≡ codes "贰零贰陆年肆月壹拾伍日"
unfolding digit_char unit_char
april = refl

may : date_text Simple (on 2026 5 15) ≡ codes "贰零贰陆年伍月壹拾伍日"
unfolding digit_char unit_char
may = refl

june : date_text Simple (on 2026 6 15) ≡ codes "贰零贰陆年陆月壹拾伍日"
unfolding digit_char unit_char
june = refl

july : date_text Simple (on 2026 7 15) ≡ codes "贰零贰陆年柒月壹拾伍日"
unfolding digit_char unit_char
july = refl

august : date_text Simple (on 2026 8 15) ≡ codes "贰零贰陆年捌月壹拾伍日"
unfolding digit_char unit_char
august = refl

september : date_text Simple (on 2026 9 15) ≡ codes "贰零贰陆年玖月壹拾伍日"
unfolding digit_char unit_char
september = refl

october : date_text Simple (on 2026 10 15) ≡ codes "贰零贰陆年零壹拾月壹拾伍日"
unfolding digit_char unit_char
october = refl

november : date_text Simple (on 2026 11 15) ≡ codes "贰零贰陆年壹拾壹月壹拾伍日"
unfolding digit_char unit_char
november = refl

december : date_text Simple (on 2026 12 15) ≡ codes "贰零贰陆年壹拾贰月壹拾伍日"
unfolding digit_char unit_char
december = refl

-- from the rules
october_twenty : date_text Simple (on 2026 10 20) ≡ codes "贰零贰陆年零壹拾月零贰拾日"
unfolding digit_char unit_char
october_twenty = refl

-- each kind of day

first : date_text Simple (on 2026 1 1) ≡ codes "贰零贰陆年零壹月零壹日"
unfolding digit_char unit_char
first = refl

second : date_text Simple (on 2026 1 2) ≡ codes "贰零贰陆年零壹月零贰日"
unfolding digit_char unit_char
second = refl

ninth : date_text Simple (on 2026 1 9) ≡ codes "贰零贰陆年零壹月零玖日"
unfolding digit_char unit_char
ninth = refl

tenth : date_text Simple (on 2026 1 10) ≡ codes "贰零贰陆年零壹月零壹拾日"
unfolding digit_char unit_char
tenth = refl

eleventh : date_text Simple (on 2026 1 11) ≡ codes "贰零贰陆年零壹月壹拾壹日"
unfolding digit_char unit_char
eleventh = refl

nineteenth : date_text Simple (on 2026 1 19) ≡ codes "贰零贰陆年零壹月壹拾玖日"
unfolding digit_char unit_char
nineteenth = refl

twentieth : date_text Simple (on 2026 1 20) ≡ codes "贰零贰陆年零壹月零贰拾日"
unfolding digit_char unit_char
twentieth = refl

twenty_first : date_text Simple (on 2026 1 21) ≡ codes "贰零贰陆年零壹月贰拾壹日"
unfolding digit_char unit_char
twenty_first = refl

twenty_ninth : date_text Simple (on 2026 1 29) ≡ codes "贰零贰陆年零壹月贰拾玖日"
unfolding digit_char unit_char
twenty_ninth = refl

thirtieth : date_text Simple (on 2026 1 30) ≡ codes "贰零贰陆年零壹月零叁拾日"
unfolding digit_char unit_char
thirtieth = refl

thirty_first : date_text Simple (on 2026 1 31) ≡ codes "贰零贰陆年零壹月叁拾壹日"
unfolding digit_char unit_char
thirty_first = refl

-- the last days of February

leap : date_text Simple (on 2024 2 29) ≡ codes "贰零贰肆年零贰月贰拾玖日"
unfolding digit_char unit_char
leap = refl

common : date_text Simple (on 2025 2 28) ≡ codes "贰零贰伍年零贰月贰拾捌日"
unfolding digit_char unit_char
common = refl

leap_by_400 : date_text Simple (on 2000 2 29) ≡ codes "贰零零零年零贰月贰拾玖日"
unfolding digit_char unit_char
leap_by_400 = refl

common_by_100 : date_text Simple (on 1900 2 28) ≡ codes "壹玖零零年零贰月贰拾捌日"
unfolding digit_char unit_char
common_by_100 = refl

days_2024 : days_of 2024 2 ≡ 29
days_2024 = refl

days_2025 : days_of 2025 2 ≡ 28
days_2025 = refl

days_2000 : days_of 2000 2 ≡ 29
days_2000 = refl

days_1900 : days_of 1900 2 ≡ 28
days_1900 = refl

no_date_2025 : ¬ IsDate (on 2025 2 29)
no_date_2025 = λ is. omega (arith, is.5)

no_date_1900 : ¬ IsDate (on 1900 2 29)
no_date_1900 = λ is. omega (arith, is.5)

no_date_2024 : ¬ IsDate (on 2024 2 30)
no_date_2024 = λ is. omega (arith, is.5)

-- years of fewer figures, and the greatest year

one_figure : date_text Simple (on 5 3 1) ≡ codes "伍年叁月零壹日"
unfolding digit_char unit_char
one_figure = refl

two_figures : date_text Simple (on 40 10 10) ≡ codes "肆零年零壹拾月零壹拾日"
unfolding digit_char unit_char
two_figures = refl

three_figures : date_text Simple (on 700 4 30) ≡ codes "柒零零年肆月零叁拾日"
unfolding digit_char unit_char
three_figures = refl

greatest : date_text Simple (on 9999 12 31) ≡ codes "玖玖玖玖年壹拾贰月叁拾壹日"
unfolding digit_char unit_char
greatest = refl

traditional : date_text Traditional (on 2036 2 3) ≡ codes "貳零參陸年零貳月零參日"
unfolding digit_char unit_char
traditional = refl

-- texts that are read but not written: 零 before 叁月 to 玖月

zero_before_march : capitals_of (codes "伍年零叁月零壹日") ≡ map Some (date_form true (on 5 3 1))
unfolding capital_of
zero_before_march = refl

zero_before_september : capitals_of (codes "伍年零玖月零壹日") ≡ map Some (date_form true (on 5 9 1))
unfolding capital_of
zero_before_september = refl

mixed_scripts : capitals_of (codes "貳零贰陸年零叄月零參日") ≡ map Some (date_form true (on 2026 3 3))
unfolding capital_of
mixed_scripts = refl

-- unfinished texts
leads : (text : List ℕ) (state : State) → machine.run (machine.step_as step) (Year 0) (capitals_of text) ≡ Some state
    → Leads date_machine text state
leads text state e = run-map (machine.step_as step) capital_of (Year 0) text ∙ e

not-ended : (text : List ℕ) (state : State) → machine.run (machine.step_as step) (Year 0) (capitals_of text) ≡ Some state
    → end state ≡ None → Answers IsDateText text (Err unfinished)
not-ended text state e none =
    unfinished-read IsDateText date_machine date_reads text state (leads text state e) none

nothing : Answers IsDateText (codes "") (Err unfinished)
unfolding capital_of
nothing = not-ended (codes "") (Year 0) refl refl

year : Answers IsDateText (codes "贰零贰陆") (Err unfinished)
unfolding capital_of
year = not-ended (codes "贰零贰陆") (Year 2026) refl refl

tens_of_a_day : Answers IsDateText (codes "贰零贰伍年零贰月贰拾") (Err unfinished)
unfolding capital_of
tens_of_a_day = not-ended (codes "贰零贰伍年零贰月贰拾") (Day 2025 2 28 (Tens 2)) refl refl

day_without_ri : Answers IsDateText (codes "贰零贰陆年零壹月壹拾伍") (Err unfinished)
unfolding capital_of
day_without_ri = not-ended (codes "贰零贰陆年零壹月壹拾伍") (Day 2026 1 31 (Both 1 5)) refl refl

-- incorrect texts, and the place of the fault
refused : (front : List ℕ) (c : ℕ) (behind : List ℕ) (state : State)
    → machine.run (machine.step_as step) (Year 0) (capitals_of front) ≡ Some state → machine.step_as step state (capital_of c) ≡ None
    → Answers IsDateText (front ++ c ∷ behind) (Err (incorrect_at (length front)))
refused front c behind state e none =
    place-refused IsDateText date_machine date_reads (front ++ c ∷ behind) front behind
    (length front) state c refl refl (leads front state e) none

zero_year : Answers IsDateText (codes "零伍年叁月零壹日") (Err (incorrect_at 0))
unfolding capital_of
zero_year = refused (codes "") 38646 (codes "伍年叁月零壹日") (Year 0) refl refl

no_year : Answers IsDateText (codes "年零壹月") (Err (incorrect_at 0))
unfolding capital_of
no_year = refused (codes "") 24180 (codes "零壹月") (Year 0) refl refl

five_figures : Answers IsDateText (codes "贰零贰陆零") (Err (incorrect_at 4))
unfolding capital_of
five_figures = refused (codes "贰零贰陆") 38646 (codes "") (Year 2026) refl refl

no_zero_before_january : Answers IsDateText (codes "贰零贰陆年壹月") (Err (incorrect_at 6))
unfolding capital_of
no_zero_before_january = refused (codes "贰零贰陆年壹") 26376 (codes "") (Month 2026 (One 1)) refl refl

no_zero_before_february : Answers IsDateText (codes "贰零贰陆年贰月") (Err (incorrect_at 5))
unfolding capital_of
no_zero_before_february = refused (codes "贰零贰陆年") 36144 (codes "月") (Month 2026 Nothing) refl refl

no_zero_before_october : Answers IsDateText (codes "贰零贰陆年壹拾月") (Err (incorrect_at 7))
unfolding capital_of
no_zero_before_october = refused (codes "贰零贰陆年壹拾") 26376 (codes "") (Month 2026 (Tens 1)) refl refl

zero_before_november : Answers IsDateText (codes "贰零贰陆年零壹拾壹月") (Err (incorrect_at 8))
unfolding capital_of
zero_before_november = refused (codes "贰零贰陆年零壹拾") 22777 (codes "月") (Month 2026 (LingTens 1)) refl refl

month_thirteen : Answers IsDateText (codes "贰零贰陆年壹拾叁月") (Err (incorrect_at 7))
unfolding capital_of
month_thirteen = refused (codes "贰零贰陆年壹拾") 21441 (codes "月") (Month 2026 (Tens 1)) refl refl

no_one_before_ten : Answers IsDateText (codes "贰零贰陆年零拾月") (Err (incorrect_at 6))
unfolding capital_of
no_one_before_ten = refused (codes "贰零贰陆年零") 25342 (codes "月") (Month 2026 Ling) refl refl

february_thirty : Answers IsDateText (codes "贰零贰伍年零贰月零叁拾日") (Err (incorrect_at 10))
unfolding capital_of
february_thirty = refused (codes "贰零贰伍年零贰月零叁") 25342 (codes "日") (Day 2025 2 28 (LingOne 3)) refl refl

february_twenty_nine : Answers IsDateText (codes "贰零贰伍年零贰月贰拾玖日") (Err (incorrect_at 10))
unfolding capital_of
february_twenty_nine = refused (codes "贰零贰伍年零贰月贰拾") 29590 (codes "日") (Day 2025 2 28 (Tens 2)) refl refl

hundredth_year : Answers IsDateText (codes "壹玖零零年零贰月贰拾玖日") (Err (incorrect_at 10))
unfolding capital_of
hundredth_year = refused (codes "壹玖零零年零贰月贰拾") 29590 (codes "日") (Day 1900 2 28 (Tens 2)) refl refl

april_thirty_one : Answers IsDateText (codes "贰零贰陆年肆月叁拾壹日") (Err (incorrect_at 7))
unfolding capital_of
april_thirty_one = refused (codes "贰零贰陆年肆月") 21441 (codes "拾壹日") (Day 2026 4 30 Nothing) refl refl

no_zero_before_thirty : Answers IsDateText (codes "贰零贰陆年叁月叁拾日") (Err (incorrect_at 9))
unfolding capital_of
no_zero_before_thirty = refused (codes "贰零贰陆年叁月叁拾") 26085 (codes "") (Day 2026 3 31 (Tens 3)) refl refl

no_zero_before_a_day : Answers IsDateText (codes "贰零贰陆年叁月壹日") (Err (incorrect_at 8))
unfolding capital_of
no_zero_before_a_day = refused (codes "贰零贰陆年叁月壹") 26085 (codes "") (Day 2026 3 31 (One 1)) refl refl

zero_before_fifteen : Answers IsDateText (codes "贰零贰陆年零壹月零壹拾伍日") (Err (incorrect_at 11))
unfolding capital_of
zero_before_fifteen = refused (codes "贰零贰陆年零壹月零壹拾") 20237 (codes "日") (Day 2026 1 31 (LingTens 1)) refl refl

white_space : Answers IsDateText (codes "贰零贰陆年 零壹月") (Err (incorrect_at 5))
unfolding capital_of
white_space = refused (codes "贰零贰陆年") 32 (codes "零壹月") (Month 2026 Nothing) refl refl

lower_case : Answers IsDateText (codes "二零二六年") (Err (incorrect_at 0))
unfolding capital_of
lower_case = refused (codes "") 20108 (codes "零二六年") (Year 0) refl refl

more_behind : Answers IsDateText (codes "贰零贰陆年零壹月壹拾伍日日") (Err (incorrect_at 12))
unfolding capital_of
more_behind = refused (codes "贰零贰陆年零壹月壹拾伍日") 26085 (codes "") (Complete (on 2026 1 15)) refl refl
