-- Worked examples: the values that the definitions compute.
use Rattle.std.proofs.Common.{◌≡◌, ℕ, ◌+◌, ◌*◌, ◌<◌, ◌≤◌, ◌==◌, ◌⊎◌, inl, inr, Bool, true, false, List, [], ◌∷◌, ◌++◌, length, map, take, drop, Some, None, Err, codes, refl, arith}
use Rattle.std.specs.Prelude.{IsTrue, pos, neg_ℤ}
use Rattle.std.specs.List.{list_all}
use Rattle.cn_grammar.specs.declared.refusal.Refusal.TheVariants.{Unfinished, Incorrect}
use Rattle.cn_grammar.specs.Answers.{Answers}
use Rattle.cn_grammar.specs.Machine.{Leads}
use Rattle.cn_grammar.specs.declared.expecting.Expected.{Expected}
use Rattle.cn_grammar.specs.Expected.{IsExpected}
use Rattle.cn_grammar.specs.Repairs.{IsRepair}
use Rattle.cn_grammar.specs.declared.hint.Repair.TheVariants.{Replace}
use Rattle.cn_grammar.proofs.Changing.{repair-is}
use Rattle.cn_grammar.proofs.Following.{expected-is}
use Rattle.cn_figures.specs.declared.listed.TheConstants.{CHARACTERS}
use Rattle.cn_figures.proofs.CharactersListed.{figures_listed}
use Rattle.cn_grammar.proofs.Reading.{unfinished-read, place-refused}
use Rattle.cn_core.specs.FigureCharacters.{figure_of}
use Rattle.cn_figures.specs.declared.part.Part.TheVariants.{Digit}
use Rattle.cn_figures.specs.declared.progress.Progress.{Progress}
use Rattle.cn_figures.specs.declared.state.State.TheVariants.{Beginning, One, Two, Three, Many, AfterComma, CommaThree, AfterPoint, Fen}
use Rattle.cn_core.specs.Digits.{value_of}
use Rattle.cn_figures.specs.Figures.{Triple, with_commas, digits_of, marked, pointed, fen_of, IsFigures, WriteAmount, WriteSignedAmount}
use Rattle.cn_figures.specs.Parts.{part_of, parts_of}
use Rattle.cn_figures.specs.Working.Steps.{figures_machine}
use Rattle.cn_figures.proofs.FiguresRead.{figures_read}
use Rattle.cn_figures.proofs.FiguresRun.{at}

-- figures that are made of ¥ or nothing, digits, triples and places
pub made : (text : List ℕ) (currency : Bool) (front : List ℕ) (triples : List Triple) (places : List ℕ)
    → 0 < length front → (triples ≡ []) ⊎ (length front ≤ 3)
    → IsTrue (list_all (λ digit. digit == 0) (drop 2 places))
    → parts_of text
    ≡ map Some (marked currency ++ (map Digit front ++ (with_commas triples ++ pointed places)))
    → IsFigures text (100 * value_of (front ++ digits_of triples) + fen_of places)
made text currency front triples places some short zeros is = (
  marked currency ++ (map Digit front ++ (with_commas triples ++ pointed places)),
  is,
  record {
    currency = currency;
    front = front;
    triples = triples;
    places = places;
    some = some;
    short = short;
    zeros = zeros;
    form = refl;
    value = refl;
  },
)

pub yuan_alone : IsFigures (codes "0015") 1500
unfolding part_of figure_of
yuan_alone = made (codes "0015") false (0 ∷ 0 ∷ 1 ∷ 5 ∷ []) [] [] (omega arith) (inl refl) refl refl

one_place : IsFigures (codes "1409.5") 140950
unfolding part_of figure_of
one_place = made (codes "1409.5") false (1 ∷ 4 ∷ 0 ∷ 9 ∷ []) [] (5 ∷ []) (omega arith) (inl refl) refl refl

two_places : IsFigures (codes "1409.05") 140905
unfolding part_of figure_of
two_places = made (codes "1409.05") false (1 ∷ 4 ∷ 0 ∷ 9 ∷ []) [] (0 ∷ 5 ∷ []) (omega arith) (inl refl) refl refl

zeros_behind : IsFigures (codes "15.0600") 1506
unfolding part_of figure_of
zeros_behind =
    made (codes "15.0600") false (1 ∷ 5 ∷ []) [] (0 ∷ 6 ∷ 0 ∷ 0 ∷ []) (omega arith) (inl refl) refl refl

two_commas : IsFigures (codes "12,345,678.90") 1234567890
unfolding part_of figure_of
two_commas =
    made (codes "12,345,678.90") false (1 ∷ 2 ∷ []) ((3, 4, 5) ∷ (6, 7, 8) ∷ []) (9 ∷ 0 ∷ []) (omega arith)
    (inr (omega arith)) refl refl

with_currency : IsFigures (codes "¥15") 1500
unfolding part_of figure_of
with_currency = made (codes "¥15") true (1 ∷ 5 ∷ []) [] [] (omega arith) (inl refl) refl refl

full_width : IsFigures (codes "￥１，４０９．５0") 140950
unfolding part_of figure_of
full_width =
    made (codes "￥１，４０９．５0") true (1 ∷ []) ((4, 0, 9) ∷ []) (5 ∷ 0 ∷ []) (omega arith) (inr (omega arith)) refl refl

with_minus : WriteSignedAmount (codes "-0015") (Some (neg_ℤ (pos 1500)))
with_minus = (true, 1500, (refl, yuan_alone), refl)

printed_minus : WriteSignedAmount (codes "−¥15") (Some (neg_ℤ (pos 1500)))
printed_minus = (true, 1500, (refl, with_currency), refl)

full_width_minus : WriteSignedAmount (codes "－0015") (Some (neg_ℤ (pos 1500)))
full_width_minus = (true, 1500, (refl, yuan_alone), refl)

no_minus : WriteSignedAmount (codes "¥15") (Some (pos 1500))
no_minus = (false, 1500, with_currency, refl)

zero : IsFigures (codes "0.00") 0
unfolding part_of figure_of
zero = made (codes "0.00") false (0 ∷ []) [] (0 ∷ 0 ∷ []) (omega arith) (inl refl) refl refl

minus_zero : WriteSignedAmount (codes "-0.00") (Some (pos 0))
minus_zero = (true, 0, (refl, zero), refl)

-- one yuan more than the yuan of the greatest amount
too_large : WriteAmount (codes "10000000000000000") None
unfolding part_of figure_of
too_large = (
  1000000000000000000,
  made (codes "10000000000000000") false
      (1 ∷ 0 ∷ 0 ∷ 0 ∷ 0 ∷ 0 ∷ 0 ∷ 0 ∷ 0 ∷ 0 ∷ 0 ∷ 0 ∷ 0 ∷ 0 ∷ 0 ∷ 0 ∷ 0 ∷ []) [] []
      (omega arith) (inl refl) refl refl,
  refl,
)

-- unfinished figures
unfinished : (text : List ℕ) (progress : Progress) → Leads figures_machine text progress
    → figures_machine.end progress ≡ None → Answers WriteAmount text (Err Unfinished)
unfinished text progress leads none =
    unfinished-read WriteAmount figures_machine figures_read text progress leads none

nothing : Answers WriteAmount [] (Err Unfinished)
nothing = unfinished [] (at Beginning (Some 0)) refl refl

pub behind_point : Answers WriteAmount (codes "15.") (Err Unfinished)
unfolding part_of figure_of
behind_point = unfinished (codes "15.") (at AfterPoint (Some 1500)) refl refl

behind_comma : Answers WriteAmount (codes "15,") (Err Unfinished)
unfolding part_of figure_of
behind_comma = unfinished (codes "15,") (at AfterComma (Some 1500)) refl refl

-- incorrect figures, given the state before the fault
incorrect : (front : List ℕ) (c place : ℕ) (progress : Progress) → place ≡ length front
    → Leads figures_machine front progress → figures_machine.step progress c ≡ None
    → Answers WriteAmount (front ++ c ∷ []) (Err (Incorrect place))
incorrect front c place progress is leads none =
    place-refused WriteAmount figures_machine figures_read (front ++ c ∷ []) front [] place progress c
    refl is leads none

comma_first : Answers WriteAmount (codes ",") (Err (Incorrect 0))
unfolding part_of figure_of
comma_first = incorrect [] 44 0 (at Beginning (Some 0)) refl refl refl

point_first : Answers WriteAmount (codes ".") (Err (Incorrect 0))
unfolding part_of figure_of
point_first = incorrect [] 46 0 (at Beginning (Some 0)) refl refl refl

long_triple : Answers WriteAmount (codes "1,2345") (Err (Incorrect 5))
unfolding part_of figure_of
long_triple = incorrect (codes "1,234") 53 5 (at CommaThree (Some 123400)) refl refl refl

long_front : Answers WriteAmount (codes "1234,") (Err (Incorrect 4))
unfolding part_of figure_of
long_front = incorrect (codes "1234") 44 4 (at Many (Some 123400)) refl refl refl

pub third_place : Answers WriteAmount (codes "15.005") (Err (Incorrect 5))
unfolding part_of figure_of
third_place = incorrect (codes "15.00") 53 5 (at Fen (Some 1500)) refl refl refl

-- what may come next: after 15.00 more zeros, and nothing else
abbrev pub after_fifteen : Expected
after_fifteen = record {
  char_index = 5;
  may_end = true;
  characters = record { buffer = codes "0０"; len = 2; within = omega arith };
  white_space = false;
}

pub zeros_follow : IsExpected WriteAmount (codes "15.005") after_fifteen
unfolding part_of figure_of
zeros_follow =
    expected-is WriteAmount figures_machine figures_read (take 26 CHARACTERS) false figures_listed
    (codes "15.005") (codes "5") figures_machine.begin (at Fen (Some 1500)) _ refl (record {
      front = codes "15.00";
      is = refl;
      counts = refl;
      runs = refl;
    }) refl refl refl refl

-- one change: 0 in place of O
zero_for_o : IsRepair WriteAmount (codes "1O5") (record { char_index = 1; repair = Replace 48 })
unfolding part_of figure_of
zero_for_o =
    repair-is WriteAmount figures_machine figures_read (take 26 CHARACTERS) (codes "1O5")
    (codes "O5") figures_machine.begin (at One (Some 100)) 1 false true _ refl (record {
      front = codes "1";
      is = refl;
      counts = refl;
      runs = refl;
    }) refl (omega arith) refl (λ e. absurd (cc)) (record {
      place = omega arith;
      has_place = omega arith;
      goes_on = figures_read.begins (codes "10") (at Two (Some 1000)) refl;
      form = λ e. absurd (cc);
      moves = λ going less stops.
          absurd (stops (figures_read.begins (codes "105") (at Three (Some 10500)) refl));
    })
