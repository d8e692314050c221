-- Reading figures from left to right: the state and the fen after each part.
use Rattle.std.specs.Prelude.{ℕ, ◌+◌, ◌*◌, ◌==◌, Bool, true, false, Option, Some, None, if◌then◌else◌}
use Rattle.cn_grammar.specs.Machine.{Machine, step_as}
use Rattle.cn_figures.specs.declared.part.Part.{Part}
use Rattle.cn_figures.specs.declared.part.Part.TheVariants.{Currency, Digit, Comma, Point}
use Rattle.cn_figures.specs.declared.progress.Progress.{Progress}
use Rattle.cn_figures.specs.declared.state.State.{State}
use Rattle.cn_figures.specs.declared.state.State.TheVariants.{Beginning, Marked, One, Two, Three, Many, AfterComma, CommaOne, CommaTwo, CommaThree, AfterPoint, Jiao, Fen}
use Rattle.cn_figures.specs.Figures.{below}
use Rattle.cn_figures.specs.Parts.{part_of}

-- the state after one more digit; none if no figures continue with it
abbrev pub after_digit : State → ℕ → Option State
after_digit Beginning digit = Some One
after_digit Marked digit = Some One
after_digit One digit = Some Two
after_digit Two digit = Some Three
after_digit Three digit = Some Many
after_digit Many digit = Some Many
after_digit AfterComma digit = Some CommaOne
after_digit CommaOne digit = Some CommaTwo
after_digit CommaTwo digit = Some CommaThree
after_digit CommaThree digit = None
after_digit AfterPoint digit = Some Jiao
after_digit Jiao digit = Some Fen
after_digit Fen digit = if digit == 0 then Some Fen else None

-- the state after a comma; none if no figures continue with it
abbrev pub after_comma : State → Option State
after_comma One = Some AfterComma
after_comma Two = Some AfterComma
after_comma Three = Some AfterComma
after_comma CommaThree = Some AfterComma
after_comma state = None

-- the state after a point; none if no figures continue with it
abbrev pub after_point : State → Option State
after_point One = Some AfterPoint
after_point Two = Some AfterPoint
after_point Three = Some AfterPoint
after_point Many = Some AfterPoint
after_point CommaThree = Some AfterPoint
after_point state = None

-- the state after ¥; none if no figures continue with it
abbrev pub after_currency : State → Option State
after_currency Beginning = Some Marked
after_currency state = None

-- the state after one more part; none if no figures continue with it
abbrev pub step : State → Part → Option State
step state Currency = after_currency state
step state (Digit digit) = after_digit state digit
step state Comma = after_comma state
step state Point = after_point state

-- figures may end at this state
abbrev pub is_end : State → Bool
is_end Beginning = false
is_end Marked = false
is_end AfterComma = false
is_end CommaOne = false
is_end CommaTwo = false
is_end AfterPoint = false
is_end state = true

-- the amount times `times`, plus `more`; none from the limit on
abbrev pub with_more : Option ℕ → ℕ → ℕ → Option ℕ
with_more None times more = None
with_more (Some fen) times more = below (fen * times + more)

-- the amount in fen after one more part; none from the limit on
abbrev pub fen_with : State → Option ℕ → Part → Option ℕ
fen_with Fen fen (Digit digit) = fen
fen_with Jiao fen (Digit digit) = with_more fen 1 digit
fen_with AfterPoint fen (Digit digit) = with_more fen 1 (10 * digit)
fen_with state fen (Digit digit) = with_more fen 10 (100 * digit)
fen_with state fen part = fen

-- the state, if there is one, with this amount
abbrev pub with_fen : Option ℕ → Option State → Option Progress
with_fen fen None = None
with_fen fen (Some state) = Some (record { state = state; fen = fen })

-- the state and the amount after one more part
abbrev pub advance : Progress → Part → Option Progress
advance progress part =
    with_fen (fen_with progress.state progress.fen part) (step progress.state part)

-- the amount if figures may end here; it is none if it is not below the limit
abbrev pub end : Progress → Option (Option ℕ)
end progress = if is_end progress.state then Some progress.fen else None

-- the machine that reads figures, character by character
abbrev pub figures_machine : Machine Progress (Option ℕ)
figures_machine = record {
  begin = record { state = Beginning; fen = Some 0 };
  step = λ progress c. step_as advance progress (part_of c);
  end = end;
}
