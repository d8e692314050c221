-- What each state stands for, and that each step preserves it.
use Rattle.std.proofs.Common.{◌≡◌, ℕ, ◌+◌, ◌*◌, ◌≤◌, ◌==◌, ◌⊎◌, inl, inr, Bool, true, false, List, [], ◌∷◌, ◌++◌, length, length-append, map, drop, Option, Some, None, refl, sym, ap, subst, ◌∙◌, if◌then◌else◌, append-nil, append_assoc, arith}
use Rattle.std.specs.Prelude.{IsTrue}
use Rattle.std.specs.List.{list_all}
use Rattle.std.proofs.lemmas.List.{map-append}
use Rattle.std.proofs.lemmas.List.Folds.{list_all-append}
use Rattle.cn_grammar.proofs.Runs.{some-is}
use Rattle.cn_core.proofs.Fronts.{both}
use Rattle.cn_figures.specs.declared.part.Part.{Part}
use Rattle.cn_figures.specs.declared.part.Part.TheVariants.{Currency, Digit, Comma, Point}
use Rattle.cn_figures.specs.declared.state.State.{State}
use Rattle.cn_figures.specs.declared.state.State.TheVariants.{Beginning, Marked, One, Two, Three, Many, AfterComma, CommaOne, CommaTwo, CommaThree, AfterPoint, Jiao, Fen}
use Rattle.cn_core.specs.Digits.{value_of}
use Rattle.cn_figures.specs.Figures.{Triple, with_commas, digits_of, marked, pointed, fen_of, below, AreFigures}
use Rattle.cn_figures.specs.Working.Steps.{with_more, fen_with, step, is_end}
use Rattle.cn_figures.proofs.Yuan.{IsYuan, yuan-begun, yuan-digit, yuan-triple, below-more}

-- the yuan of figures, after which a comma may follow
abbrev pub IsShort : List Part → Option ℕ → Type 0
IsShort parts fen =
    (front : List ℕ) × (triples : List Triple) × IsYuan front triples parts fen × (length front ≤ 3)

-- the yuan of figures, after which a point may follow
abbrev pub AreYuan : List Part → Option ℕ → Type 0
AreYuan parts fen =
    (front : List ℕ) × (triples : List Triple) × IsYuan front triples parts fen
    × ((triples ≡ []) ⊎ (length front ≤ 3))

-- zeros, any number of which may follow the fen
abbrev pub AreZeros : List ℕ → Type 0
AreZeros digits = IsTrue (list_all (λ digit. digit == 0) digits)

-- this many digits of the yuan, without a comma
abbrev pub HasDigits : ℕ → List Part → Option ℕ → Type 0
HasDigits count parts fen =
    (front : List ℕ) × IsYuan front [] parts fen × (length front ≡ count)

-- what each state stands for
abbrev pub Front : State → List Part → Option ℕ → Type 0
Front Beginning parts fen = (parts ≡ []) × (fen ≡ Some 0)
Front Marked parts fen = (parts ≡ Currency ∷ []) × (fen ≡ Some 0)
Front One parts fen = HasDigits 1 parts fen
Front Two parts fen = HasDigits 2 parts fen
Front Three parts fen = HasDigits 3 parts fen
Front Many parts fen = (front : List ℕ) × IsYuan front [] parts fen
Front AfterComma parts fen =
    (start : List Part) × IsShort start fen × (parts ≡ start ++ Comma ∷ [])
Front CommaOne parts fen =
    (start : List Part) × (was : Option ℕ) × (a : ℕ) × IsShort start was
    × (parts ≡ start ++ Comma ∷ Digit a ∷ []) × (fen ≡ with_more was 10 (100 * a))
Front CommaTwo parts fen =
    (start : List Part) × (was : Option ℕ) × (a b : ℕ) × IsShort start was
    × (parts ≡ start ++ Comma ∷ Digit a ∷ Digit b ∷ [])
    × (fen ≡ with_more (with_more was 10 (100 * a)) 10 (100 * b))
Front CommaThree parts fen = IsShort parts fen
Front AfterPoint parts fen =
    (start : List Part) × AreYuan start fen × (parts ≡ start ++ Point ∷ [])
Front Jiao parts fen =
    (start : List Part) × (was : Option ℕ) × (a : ℕ) × AreYuan start was
    × (parts ≡ start ++ Point ∷ Digit a ∷ []) × (fen ≡ with_more was 1 (10 * a))
Front Fen parts fen =
    (start : List Part) × (was : Option ℕ) × (a b : ℕ) × (zeros : List ℕ) × AreYuan start was
    × AreZeros zeros × (parts ≡ start ++ Point ∷ Digit a ∷ Digit b ∷ map Digit zeros)
    × (fen ≡ with_more (with_more was 1 (10 * a)) 1 b)

-- the state that a step gives
to : (parts : List Part) (fen : Option ℕ) (made next : State) → Some made ≡ Some next
    → Front made parts fen → Front next parts fen
to parts fen made next e h = subst (λ state. Front state parts fen) (some-is made next e) h

-- one more part after those that follow a start
behind-more : (parts start behind : List Part) (part : Part) → parts ≡ start ++ behind
    → parts ++ part ∷ [] ≡ start ++ (behind ++ part ∷ [])
behind-more parts start behind part is =
    ap (λ front. front ++ part ∷ []) is ∙ append_assoc start behind (part ∷ [])

digits-more : (count : ℕ) (parts : List Part) (fen : Option ℕ) (digit : ℕ)
    → HasDigits count parts fen
    → HasDigits (count + 1) (parts ++ Digit digit ∷ []) (with_more fen 10 (100 * digit))
digits-more count parts fen digit (front, yuan, is) = (
  front ++ digit ∷ [],
  yuan-digit front parts fen digit yuan,
  omega (arith, is, length-append front (digit ∷ [])),
)

zeros-more : (zeros : List ℕ) (digit : ℕ) → AreZeros zeros → (digit == 0) ≡ true
    → AreZeros (zeros ++ digit ∷ [])
zeros-more zeros digit h k = list_all-append (λ digit. digit == 0) zeros (digit ∷ [])
    ∙ both (list_all (λ digit. digit == 0) zeros) _ h (both (digit == 0) true k refl)

-- one more digit, by the state before it
front-digit : (state next : State) (parts : List Part) (fen : Option ℕ) (digit : ℕ)
    → Front state parts fen → step state (Digit digit) ≡ Some next
    → Front next (parts ++ Digit digit ∷ []) (fen_with state fen (Digit digit))
front-digit Beginning next parts fen digit h e =
    to _ _ One next e (digit ∷ [], yuan-begun false parts fen digit h.0 h.1, refl)
front-digit Marked next parts fen digit h e =
    to _ _ One next e (digit ∷ [], yuan-begun true parts fen digit h.0 h.1, refl)
front-digit One next parts fen digit h e =
    to _ _ Two next e (digits-more 1 parts fen digit h)
front-digit Two next parts fen digit h e =
    to _ _ Three next e (digits-more 2 parts fen digit h)
front-digit Three next parts fen digit h e =
    to _ _ Many next e (h.0 ++ digit ∷ [], yuan-digit h.0 parts fen digit h.1)
front-digit Many next parts fen digit h e =
    to _ _ Many next e (h.0 ++ digit ∷ [], yuan-digit h.0 parts fen digit h.1)
front-digit AfterComma next parts fen digit (start, short, is) e =
    to _ _ CommaOne next e (start, fen, digit, short, behind-more parts start _ _ is, refl)
front-digit CommaOne next parts fen digit (start, was, a, short, is, worth) e =
    to _ _ CommaTwo next e (
      start,
      was,
      a,
      digit,
      short,
      behind-more parts start _ _ is,
      ap (λ fen. with_more fen 10 (100 * digit)) worth,
    )
front-digit CommaTwo next parts fen digit (start, was, a, b, (front, triples, yuan, few), is, worth) e =
    let triple = yuan-triple front triples start was a b digit yuan in
    to _ _ CommaThree next e (
      front,
      triples ++ (a, b, digit) ∷ [],
      record {
        currency = triple.currency;
        some = triple.some;
        form = behind-more parts start _ _ is ∙ triple.form;
        worth = ap (λ fen. with_more fen 10 (100 * digit)) worth ∙ triple.worth;
      },
      few,
    )
front-digit AfterPoint next parts fen digit (start, yuan, is) e =
    to _ _ Jiao next e (start, fen, digit, yuan, behind-more parts start _ _ is, refl)
front-digit Jiao next parts fen digit (start, was, a, yuan, is, worth) e =
    to _ _ Fen next e (
      start,
      was,
      a,
      digit,
      [],
      yuan,
      refl,
      behind-more parts start _ _ is,
      ap (λ fen. with_more fen 1 digit) worth,
    )
front-digit Fen next parts fen digit (start, was, a, b, zeros, yuan, are, is, worth) e =
    by (digit == 0) refl e where
      by : (zero : Bool) → (digit == 0) ≡ zero → (if zero then Some Fen else None) ≡ Some next
          → Front next (parts ++ Digit digit ∷ []) fen
      by true same e = to _ _ Fen next e (
        start,
        was,
        a,
        b,
        zeros ++ digit ∷ [],
        yuan,
        zeros-more zeros digit are same,
        behind-more parts start _ _ is
            ∙ ap (λ more. start ++ Point ∷ Digit a ∷ Digit b ∷ more)
            (sym (map-append Digit zeros (digit ∷ []))),
        worth,
      )
      by false same e = absurd (cc)
front-digit CommaThree next parts fen digit h e = absurd (cc)

-- a comma or a point after the yuan
front-comma : (next : State) (parts : List Part) (fen : Option ℕ) → IsShort parts fen
    → Some AfterComma ≡ Some next → Front next (parts ++ Comma ∷ []) fen
front-comma next parts fen short e = to _ _ AfterComma next e (parts, short, refl)

front-point : (next : State) (parts : List Part) (fen : Option ℕ) → AreYuan parts fen
    → Some AfterPoint ≡ Some next → Front next (parts ++ Point ∷ []) fen
front-point next parts fen yuan e = to _ _ AfterPoint next e (parts, yuan, refl)

short-of : (count : ℕ) (parts : List Part) (fen : Option ℕ) → HasDigits count parts fen → count ≤ 3
    → IsShort parts fen
short-of count parts fen (front, yuan, is) few = (front, [], yuan, omega (arith, is, few))

plain-yuan : (count : ℕ) (parts : List Part) (fen : Option ℕ) → HasDigits count parts fen
    → AreYuan parts fen
plain-yuan count parts fen (front, yuan, is) = (front, [], yuan, inl refl)

short-yuan : (parts : List Part) (fen : Option ℕ) → IsShort parts fen → AreYuan parts fen
short-yuan parts fen (front, triples, yuan, few) = (front, triples, yuan, inr few)

pub front-more : (state next : State) (parts : List Part) (fen : Option ℕ) (part : Part)
    → Front state parts fen → step state part ≡ Some next
    → Front next (parts ++ part ∷ []) (fen_with state fen part)
front-more state next parts fen (Digit digit) h e = front-digit state next parts fen digit h e
front-more Beginning next parts fen Currency h e =
    to _ _ Marked next e (ap (λ front. front ++ Currency ∷ []) h.0, h.1)
front-more One next parts fen Comma h e =
    front-comma next parts fen (short-of 1 parts fen h (omega arith)) e
front-more Two next parts fen Comma h e =
    front-comma next parts fen (short-of 2 parts fen h (omega arith)) e
front-more Three next parts fen Comma h e =
    front-comma next parts fen (short-of 3 parts fen h (omega arith)) e
front-more CommaThree next parts fen Comma h e = front-comma next parts fen h e
front-more One next parts fen Point h e = front-point next parts fen (plain-yuan 1 parts fen h) e
front-more Two next parts fen Point h e = front-point next parts fen (plain-yuan 2 parts fen h) e
front-more Three next parts fen Point h e = front-point next parts fen (plain-yuan 3 parts fen h) e
front-more Many next parts fen Point h e =
    front-point next parts fen (h.0, [], h.1, inl refl) e
front-more CommaThree next parts fen Point h e =
    front-point next parts fen (short-yuan parts fen h) e
front-more state next parts fen part h e = absurd (cc)

-- these parts are figures of this amount
abbrev pub AreAmount : List Part → Option ℕ → Type 0
AreAmount parts amount = (fen : ℕ) × AreFigures parts fen × (amount ≡ below fen)

-- yuan and their places
with-places : (start parts : List Part) (was fen : Option ℕ) (places : List ℕ) → AreYuan start was
    → AreZeros (drop 2 places) → parts ≡ start ++ pointed places
    → ((yuan : ℕ) → was ≡ below (100 * yuan) → fen ≡ below (100 * yuan + fen_of places))
    → AreAmount parts fen
with-places start parts was fen places (front, triples, yuan, short) zeros is worth = (
  100 * value_of (front ++ digits_of triples) + fen_of places,
  record {
    currency = yuan.currency;
    front = front;
    triples = triples;
    places = places;
    some = yuan.some;
    short = short;
    zeros = zeros;
    form = is ∙ ap (λ front. front ++ pointed places) yuan.form
        ∙ append_assoc (marked yuan.currency) (map Digit front ++ with_commas triples) (pointed places)
        ∙ ap (λ more. marked yuan.currency ++ more)
        (append_assoc (map Digit front) (with_commas triples) (pointed places));
    value = refl;
  },
  worth (value_of (front ++ digits_of triples)) yuan.worth,
)

no-places : (parts : List Part) (fen : Option ℕ) → AreYuan parts fen → AreAmount parts fen
no-places parts fen yuan = with-places parts parts fen fen [] yuan refl (sym (append-nil parts))
    (λ yuan is. let same : 100 * yuan ≡ 100 * yuan + 0 = omega arith in is ∙ ap below same)

jiao-worth : (was : Option ℕ) (yuan a : ℕ) → was ≡ below (100 * yuan)
    → with_more was 1 (10 * a) ≡ below (100 * yuan + 10 * a)
jiao-worth was yuan a is =
    let same : 100 * yuan * 1 + 10 * a ≡ 100 * yuan + 10 * a = omega arith in
    ap (λ fen. with_more fen 1 (10 * a)) is ∙ below-more (100 * yuan) 1 (10 * a) (omega arith)
    ∙ ap below same

fen-worth : (was : Option ℕ) (yuan a b : ℕ) → was ≡ below (100 * yuan)
    → with_more (with_more was 1 (10 * a)) 1 b ≡ below (100 * yuan + (10 * a + b))
fen-worth was yuan a b is =
    let jiao = 100 * yuan + 10 * a in
    let same : jiao * 1 + b ≡ 100 * yuan + (10 * a + b) = omega arith in
    ap (λ fen. with_more fen 1 b) (jiao-worth was yuan a is)
    ∙ below-more jiao 1 b (omega arith) ∙ ap below same

-- parts that are read to their end are figures
pub ended : (state : State) (parts : List Part) (fen : Option ℕ) → Front state parts fen
    → is_end state ≡ true → AreAmount parts fen
ended One parts fen h e = no-places parts fen (plain-yuan 1 parts fen h)
ended Two parts fen h e = no-places parts fen (plain-yuan 2 parts fen h)
ended Three parts fen h e = no-places parts fen (plain-yuan 3 parts fen h)
ended Many parts fen h e = no-places parts fen (h.0, [], h.1, inl refl)
ended CommaThree parts fen h e = no-places parts fen (short-yuan parts fen h)
ended Jiao parts fen (start, was, a, yuan, is, worth) e =
    with-places start parts was fen (a ∷ []) yuan refl is
    (λ yuan same. worth ∙ jiao-worth was yuan a same)
ended Fen parts fen (start, was, a, b, zeros, yuan, are, is, worth) e =
    with-places start parts was fen (a ∷ b ∷ zeros) yuan are is
    (λ yuan same. worth ∙ fen-worth was yuan a b same)
ended state parts fen h e = absurd (cc)
