-- An amount in figures, such as 1,409.50. Figures are given by their characters.
use Rattle.std.specs.Prelude.{◌≡◌, ℕ, ℤ, ◌+◌, ◌*◌, ◌/◌, ◌%◌, ◌<◌, ◌≤◌, ◌==◌, ◌⊎◌, nat_lt, IsTrue, Bool, true, false, List, [], ◌∷◌, ◌++◌, length, map, drop, Option, Some, None, option_map, Result, Ok, Err, codes, chars, decimal, if◌then◌else◌}
use Rattle.std.specs.List.{list_all}
use Rattle.cn_amount.specs.Places.{amount_limit}
use Rattle.cn_core.specs.Digits.{value_of}
use Rattle.cn_core.specs.FigureCharacters.{is_figure_minus}
use Rattle.cn_core.specs.Whole.{signed_number}
use Rattle.cn_grammar.specs.declared.refusal.Refusal.{Refusal}
use Rattle.cn_grammar.specs.declared.refusal.Refusal.TheVariants.{Unfinished as unfinished, Incorrect as incorrect_at}
use Rattle.cn_grammar.specs.Answers as answers
use Rattle.cn_figures.specs.declared.error.FiguresError.{FiguresError}
use Rattle.cn_figures.specs.declared.error.FiguresError.TheVariants.{Unfinished, Incorrect, TooLarge}
use Rattle.cn_figures.specs.declared.part.Part.{Part}
use Rattle.cn_figures.specs.declared.part.Part.TheVariants.{Currency, Digit, Comma, Point}
use Rattle.cn_figures.specs.Parts.{parts_of}

-- three digits
abbrev pub Triple : Type 0
Triple = ℕ × ℕ × ℕ

-- any number of triples, each after a comma
abbrev pub with_commas : List Triple → List Part
with_commas [] = []
with_commas ((a, b, c) ∷ triples) = Comma ∷ Digit a ∷ Digit b ∷ Digit c ∷ with_commas triples

-- the digits of triples
abbrev pub digits_of : List Triple → List ℕ
digits_of [] = []
digits_of ((a, b, c) ∷ triples) = a ∷ b ∷ c ∷ digits_of triples

-- ¥ or nothing
abbrev pub marked : Bool → List Part
marked true = Currency ∷ []
marked false = []

-- a point and the digits after it; nothing if there are no digits
abbrev pub pointed : List ℕ → List Part
pointed [] = []
pointed (digit ∷ digits) = Point ∷ map Digit (digit ∷ digits)

-- the fen that the digits after the point write: the first is the jiao, the second the fen
abbrev pub fen_of : List ℕ → ℕ
fen_of [] = 0
fen_of (jiao ∷ []) = 10 * jiao
fen_of (jiao ∷ fen ∷ zeros) = 10 * jiao + fen

-- these parts write this many fen: ¥ or nothing; digits of the yuan, at most three of them before
-- the first comma; and places, of which those after the second are 0
pub record AreFigures (parts : List Part) (fen : ℕ) : Type 0 where
  pub currency : Bool
  pub front : List ℕ
  pub triples : List Triple
  pub places : List ℕ
  pub some : 0 < length front
  pub short : (triples ≡ []) ⊎ (length front ≤ 3)
  pub zeros : IsTrue (list_all (λ digit. digit == 0) (drop 2 places))
  pub form : parts ≡ marked currency ++ (map Digit front ++ (with_commas triples ++ pointed places))
  pub value : fen ≡ 100 * value_of (front ++ digits_of triples) + fen_of places

-- these figures write this many fen
abbrev pub IsFigures : List ℕ → ℕ → Type 0
IsFigures figures fen =
    (parts : List Part) × (parts_of figures ≡ map Some parts) × AreFigures parts fen

-- these figures, with a minus before them or not, write this many fen
abbrev pub IsSignedFigures : Bool → List ℕ → ℕ → Type 0
IsSignedFigures false figures fen = IsFigures figures fen
IsSignedFigures true [] fen = ⊥
IsSignedFigures true (c ∷ figures) fen = IsTrue (is_figure_minus c) × IsFigures figures fen

-- an amount below the limit, and none from the limit on
abbrev pub below : ℕ → Option ℕ
below fen = if nat_lt fen amount_limit then Some fen else None

-- these figures write this amount, or none if it is not below the limit
abbrev pub WriteAmount : List ℕ → Option ℕ → Type 0
WriteAmount figures amount = (fen : ℕ) × IsFigures figures fen × (amount ≡ below fen)

-- these figures with a sign write this amount, or none if its magnitude is not below the limit
abbrev pub WriteSignedAmount : List ℕ → Option ℤ → Type 0
WriteSignedAmount figures amount =
    (negative : Bool) × (fen : ℕ) × IsSignedFigures negative figures fen
    × (amount ≡ option_map (signed_number negative) (below fen))

-- the result of a call as an answer of a reader from left to right
abbrev pub answer_of : {A : Type 0} → Result A FiguresError → Result (Option A) Refusal
answer_of (Ok fen) = Ok (Some fen)
answer_of (Err TooLarge) = Ok None
answer_of (Err Unfinished) = Err unfinished
answer_of (Err (Incorrect place)) = Err (incorrect_at place)

-- `answer` is the answer to figures, given by their bytes
abbrev pub ReadsFigures : List ℕ → Result ℕ FiguresError → Type 0
ReadsFigures bytes answer = answers.Answers WriteAmount (chars bytes) (answer_of answer)

-- `answer` is the answer to figures with a sign, given by their bytes
abbrev pub ReadsSignedFigures : List ℕ → Result ℤ FiguresError → Type 0
ReadsSignedFigures bytes answer =
    answers.Answers WriteSignedAmount (chars bytes) (answer_of answer)

-- the figures of an amount, always with two places
abbrev pub figures_of : ℕ → List ℕ
figures_of fen =
    decimal (fen / 100) ++ (codes "." ++ (decimal (fen / 10 % 10) ++ decimal (fen % 10)))
