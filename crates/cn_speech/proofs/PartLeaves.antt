-- A part is at the start of a text, and something is left of it.
use Rattle.std.proofs.Common.{◌≡◌, ℕ, ◌<◌, ◌≤◌, Bool, true, false, not, ◌&&◌, ◌||◌, ◌==◌, List, [], ◌∷◌, ◌++◌, length, drop, take, chars, Option, Some, None, IfSome, option_map, refl, sym, ap, subst, ◌∙◌, arith, length-append, take-append-drop, codes, unwrap_or, if◌then◌else◌}
use Rattle.std.specs.Option.{option_and_then, option_map_or, option_or}
use Rattle.cn_core.specs.FigureCharacters.{is_figure}
use Rattle.cn_find.specs.declared.wanted.Wanted.{Wanted}
use Rattle.cn_find.specs.Belongs.{begins_with}
use Rattle.cn_find.specs.Expressions.{is_han}
use Rattle.cn_replace.specs.Private.{IsEnd}
use Rattle.cn_replace.specs.Pieces.{after_leading, begins, leading}
use Rattle.cn_phrase.specs.Between.{characters_before}
use Rattle.cn_phrase.specs.Items.{Item, expression, item_at, money, phrase, range, rest_of}
use Rattle.cn_phrase.specs.Suffix.{EndsWith}
use Rattle.cn_phrase.proofs.ItemSteps.{Leaves, item-leaves}
use Rattle.cn_phrase.proofs.Suffixes.{Ends-again, Ends-leading, Ends-self, if-or}
use Rattle.cn_codes.specs.Codes.{Code, code_at}
use Rattle.cn_codes.specs.Counted.{without_blank}
use Rattle.cn_codes.specs.Words.{after_word, begins_word}
use Rattle.cn_codes.proofs.CodeLeaves.{code-leaves}
use Rattle.cn_speech.specs.Measures.{Measure, Spoken, after_measure as after_this, first_measure, measure_at, measures, number_sign}
use Rattle.cn_speech.specs.declared.pairs.PairKind.{PairKind}
use Rattle.cn_speech.specs.declared.pairs.PairKind.TheVariants.{Date, Pressure, Share, Years, Score, OfBook}
use Rattle.cn_speech.specs.Pairs.{Pair, SaidPair, after_first, after_pressure, pressures, kind_of, pair_at, pair_from, said_as, rest_of as after_pair, runs_at, said_if}
use Rattle.cn_speech.specs.SpokenExpressions.{after_measure}
use Rattle.cn_speech.specs.SpokenItems.{after_item}
use Rattle.cn_speech.specs.SpokenParts.{IsPartWithin, IsWithin, Part, Said, Utterance, after_said, after_sign, after_utterance, code, code_of_figures, code_part, currency_at, currency_name, is_item_spoken, is_of_currency, item, item_or_left, item_part, left, named, number_at, pair, pair_part, part_at, rest_of_part, sign_word, signed, signed_at, spoken, with_sign}
use Rattle.cn_speech.specs.Tails.{Sign, Tail, after_unit, is_each, is_times, is_to, sign_at, tail_after_unit, tail_at, with_unit, without_han}

-- ---- Suffixes

Ends-drop : (n : ℕ) (text : List ℕ) → EndsWith text (drop n text)
Ends-drop n text = (take n text, sym (take-append-drop n text))

-- a text of which more is left
more-left : (text rest end : List ℕ) → Leaves text rest → EndsWith rest end → Leaves text end
more-left text rest end h k = (
  Ends-again text rest end h.0 k,
  omega (arith, h.1, ap length k.1, length-append k.0 end),
)

pub one-more : (c : ℕ) (text rest : List ℕ) → EndsWith text rest → Leaves (c ∷ text) rest
one-more c text rest k = more-left (c ∷ text) text rest ((c ∷ [], refl), omega arith) k

if-map : {A B : Type 0} (f : A → B) (P : B → Type 0) (o : Option A) → IfSome o (λ x. P (f x))
    → IfSome (option_map f o) P
if-map f P None h = tt
if-map f P (Some x) h = h

if-of : {A B : Type 0} (f : A → B) (P : B → Type 0) (o : Option A) → IfSome (option_map f o) P
    → IfSome o (λ x. P (f x))
if-of f P None h = tt
if-of f P (Some x) h = h

pub end-of : (text rest after : List ℕ) → EndsWith (chars text) after → chars rest ≡ after
    → IsEnd text rest
end-of text rest after h e = record { front = h.0; parts = h.1 ∙ ap (λ l. h.0 ++ l) (sym e) }

-- ---- Measures

Ends-word : (word text : List ℕ) → IfSome (after_word word text) (EndsWith text)
Ends-word word text = by (begins_word word text) where
  by : (b : Bool) → IfSome (if b then Some (drop (length word) text) else None) (EndsWith text)
  by true = Ends-drop (length word) text
  by false = tt

Ends-chosen : (f : List ℕ → Bool) (text : List ℕ) (o : Option (List ℕ)) → IfSome o (EndsWith text)
    → IfSome (option_and_then (λ rest. if f rest then None else Some rest) o) (EndsWith text)
Ends-chosen f text None h = tt
Ends-chosen f text (Some rest) h = by (f rest) where
  by : (b : Bool) → IfSome (if b then None else Some rest) (EndsWith text)
  by true = tt
  by false = h

abbrev MeasureEnds : List ℕ → Option Spoken → Type 0
MeasureEnds text o = IfSome {T = Spoken} o (λ m. EndsWith text m.rest)

Ends-first : (after_blank : Bool) (others : List Measure) (text : List ℕ)
    → MeasureEnds text (first_measure after_blank others text)
Ends-first after_blank [] text = tt
Ends-first after_blank (m ∷ others) text = if-or (λ (s : Spoken). EndsWith text s.rest) _ _
    (if-map (λ rest. record { text = m.spoken; rest = rest }) (λ (s : Spoken). EndsWith text s.rest)
    (after_this after_blank m.written text)
    (Ends-chosen _ text (after_word m.written text) (Ends-word m.written text)))
    (Ends-first after_blank others text)

Ends-number_sign : (text : List ℕ) → MeasureEnds text (number_sign text)
Ends-number_sign [] = tt
Ends-number_sign (c ∷ rest) = by _ where
  by : (b : Bool) → MeasureEnds (c ∷ rest)
      (if b then Some (record { text = codes "号"; rest = rest }) else None)
  by true = (c ∷ [], refl)
  by false = tt

Ends-without_blank : (text : List ℕ) → EndsWith text (without_blank text)
Ends-without_blank text = by (begins_with (codes " ") text) where
  by : (b : Bool) → EndsWith text (if b then drop 1 text else text)
  by true = Ends-drop 1 text
  by false = Ends-self text

Ends-again_measure : (text middle : List ℕ) (o : Option Spoken) → EndsWith text middle
    → MeasureEnds middle o → MeasureEnds text o
Ends-again_measure text middle None h k = tt
Ends-again_measure text middle (Some m) h k = Ends-again text middle m.rest h k

Ends-measure : (text : List ℕ) → MeasureEnds text (measure_at text)
Ends-measure text = if-or (λ (s : Spoken). EndsWith text s.rest) _ _ (Ends-number_sign text)
    (Ends-again_measure text (without_blank text) _ (Ends-without_blank text)
    (Ends-first _ measures (without_blank text)))

Ends-after_measure : (text : List ℕ) → EndsWith text (after_measure text)
Ends-after_measure text = by (measure_at text) (Ends-measure text) where
  by : (o : Option Spoken) → MeasureEnds text o
      → EndsWith text (option_map_or (λ (m : Spoken). m.rest) o text)
  by None h = Ends-self text
  by (Some m) h = h

-- ---- Tails

abbrev SignEnds : List ℕ → Option Sign → Type 0
SignEnds text o = IfSome {T = Sign} o (λ s. EndsWith text s.rest)

Ends-sign : (of_day has_unit : Bool) (text : List ℕ) → SignEnds text (sign_at of_day has_unit text)
Ends-sign of_day has_unit [] = tt
Ends-sign of_day has_unit (c ∷ rest) =
    by (is_to of_day c rest) (is_times c rest) (is_each has_unit c rest) _ _ _ where
      by : (a b d : Bool) (x y z : List ℕ) → SignEnds (c ∷ rest)
          (if a then Some (record { word = x; rest = rest })
          else (if b then Some (record { word = y; rest = rest })
          else (if d then Some (record { word = z; rest = rest }) else None)))
      by true b d x y z = (c ∷ [], refl)
      by false true d x y z = (c ∷ [], refl)
      by false false true x y z = (c ∷ [], refl)
      by false false false x y z = tt

Ends-han : (text : List ℕ) → EndsWith text (without_han text)
Ends-han text = by (begins is_han text) where
  by : (b : Bool) → EndsWith text (if b then drop 1 text else text)
  by true = Ends-drop 1 text
  by false = Ends-self text

pub Ends-unit : (text : List ℕ) → EndsWith text (after_unit text)
Ends-unit text = Ends-again text (drop 1 text) _ (Ends-drop 1 text)
    (Ends-again (drop 1 text) (without_han (drop 1 text)) _ (Ends-han (drop 1 text))
    (Ends-han (without_han (drop 1 text))))

abbrev TailEnds : List ℕ → Option Tail → Type 0
TailEnds text o = IfSome {T = Tail} o (λ t. EndsWith text t.rest)

Ends-with_unit : (text rest unit : List ℕ) (o : Option Sign) → EndsWith text rest → SignEnds rest o
    → TailEnds text (option_map (with_unit unit) o)
Ends-with_unit text rest unit None h k = tt
Ends-with_unit text rest unit (Some s) h k = Ends-again text rest s.rest h k

Ends-tail : (of_day has_unit : Bool) (text : List ℕ) → TailEnds text (tail_at of_day has_unit text)
Ends-tail of_day has_unit text = if-or (λ (t : Tail). EndsWith text t.rest) _ _
    (Ends-with_unit text text [] (sign_at of_day has_unit text) (Ends-self text)
    (Ends-sign of_day has_unit text))
    (by (begins _ text)) where
      by : (b : Bool) → TailEnds text
          (if b then option_map (with_unit (characters_before text (after_unit text)))
          (sign_at of_day true (after_unit text)) else None)
      by true = Ends-with_unit text (after_unit text) _ (sign_at of_day true (after_unit text))
          (Ends-unit text) (Ends-sign of_day true (after_unit text))
      by false = tt

-- ---- What is said

Ends-item : (i : Item) → EndsWith (rest_of i) (after_item i)
Ends-item (phrase found) = Ends-self found.rest
Ends-item (money m) = Ends-self m.rest
Ends-item (range ends) = Ends-after_measure ends.rest
Ends-item (expression rest) = Ends-after_measure rest

-- what is left after an utterance with such a tail
utterance-leaves : (text : List ℕ) (said : Said) (name : List ℕ) (of_day has_unit : Bool)
    → Leaves text (after_said said) → Leaves text (after_utterance (record {
      said = said;
      name = name;
      tail = tail_at of_day has_unit (after_said said);
    }))
utterance-leaves text said name of_day has_unit h =
    by (tail_at of_day has_unit (after_said said)) (Ends-tail of_day has_unit (after_said said)) where
      by : (o : Option Tail) → TailEnds (after_said said) o
          → Leaves text (option_map_or (λ (tail : Tail). tail.rest) o (after_said said))
      by None k = h
      by (Some tail) k = more-left text (after_said said) tail.rest h k

-- a part of a text leaves a shorter suffix, and what is said for it is within the text
pub record PartLeaves (text : List ℕ) (part : Part) : Type 0 where
  pub leaves : Leaves text (rest_of_part part)
  pub within : IsPartWithin text part

abbrev pub PartLeave : List ℕ → Option Part → Type 0
PartLeave text o = IfSome {T = Part} o (PartLeaves text)

-- ---- Which part begins at a place

run-leaves : (first rest : List ℕ)
    → IfSome {T = Pair} (pair_from first rest) (λ p. Leaves rest p.rest)
run-leaves first [] = tt
run-leaves first (c ∷ text) = by _ (record {
  first = first;
  sign = c;
  second = leading is_figure text;
  rest = after_leading is_figure text;
}) (one-more c text (after_leading is_figure text) (Ends-leading is_figure text)) where
  by : (b : Bool) (p : Pair) → Leaves (c ∷ text) p.rest
      → IfSome {T = Pair} (if b then Some p else None) (λ each. Leaves (c ∷ text) each.rest)
  by true p h = h
  by false p h = tt

runs-leave : (text : List ℕ) → IfSome {T = Pair} (runs_at text) (λ p. Leaves text p.rest)
runs-leave text =
    by (pair_from (leading is_figure text) (after_leading is_figure text))
    (run-leaves (leading is_figure text) (after_leading is_figure text)) where
      by : (o : Option Pair)
          → IfSome {T = Pair} o (λ p. Leaves (after_leading is_figure text) p.rest)
          → IfSome {T = Pair} o (λ p. Leaves text p.rest)
      by None h = tt
      by (Some p) h = (
        Ends-again text (after_leading is_figure text) p.rest (Ends-leading is_figure text) h.0,
        omega (arith, h.1, shorter (Ends-leading is_figure text)),
      ) where
        shorter : EndsWith text (after_leading is_figure text)
            → length (after_leading is_figure text) ≤ length text
        shorter k = omega (arith, ap length k.1, length-append k.0 (after_leading is_figure text))

Ends-words : (words : List (List ℕ)) (text : List ℕ)
    → IfSome (after_first words text) (EndsWith text)
Ends-words [] text = tt
Ends-words (word ∷ words) text = if-or (EndsWith text) (after_word word text)
    (after_first words text) (Ends-word word text) (Ends-words words text)

Ends-pressure : (text : List ℕ) → IfSome (after_pressure text) (EndsWith text)
Ends-pressure text = Ends-words pressures text

kind-leaves : (text : List ℕ) (p : Pair) (kind : PairKind) → Leaves text p.rest
    → Leaves text (after_pair kind p)
kind-leaves text p Pressure h = by (after_pressure p.rest) (Ends-pressure p.rest) where
  by : (o : Option (List ℕ)) → IfSome o (EndsWith p.rest) → Leaves text (unwrap_or o p.rest)
  by None k = h
  by (Some rest) k = more-left text p.rest rest h k
kind-leaves text p Date h = h
kind-leaves text p Share h = h
kind-leaves text p Years h = h
kind-leaves text p Score h = h
kind-leaves text p OfBook h = h

pair-leaves : (front text : List ℕ)
    → IfSome {T = SaidPair} (pair_at front text) (λ p. Leaves text p.rest)
pair-leaves front text = by (runs_at text) (runs-leave text) where
  known : (p : Pair) (o : Option PairKind) → Leaves text p.rest
      → IfSome {T = SaidPair} (option_map (said_as p) o) (λ s. Leaves text s.rest)
  known p None h = tt
  known p (Some kind) h = kind-leaves text p kind h

  by : (o : Option Pair) → IfSome {T = Pair} o (λ p. Leaves text p.rest)
      → IfSome {T = SaidPair} (option_and_then (said_if front) o) (λ s. Leaves text s.rest)
  by None h = tt
  by (Some p) h = known p (kind_of front p) h

pair-part-leaves : (text : List ℕ) (o : Option SaidPair)
    → IfSome {T = SaidPair} o (λ p. Leaves text p.rest) → PartLeave text (option_map pair_part o)
pair-part-leaves text None h = tt
pair-part-leaves text (Some p) h = record {
  leaves = utterance-leaves text (pair p) [] false false h;
  within = tt;
}

figures-leave : (front text : List ℕ)
    → IfSome {T = Code} (code_of_figures front text) (λ c. Leaves text c.rest)
figures-leave front text = by (begins is_figure text) where
  by : (b : Bool) → IfSome {T = Code} (if b then code_at front text else None) (λ c. Leaves text c.rest)
  by true = code-leaves front text
  by false = tt

code-part-leaves : (text : List ℕ) (o : Option Code)
    → IfSome {T = Code} o (λ c. Leaves text c.rest) → PartLeave text (option_map code_part o)
code-part-leaves text None h = tt
code-part-leaves text (Some c) h = record {
  leaves = utterance-leaves text (code c) [] false false h;
  within = h.0;
}

pub item-found : (wanted : Wanted) (front text : List ℕ)
    → IfSome {T = Item} (item_at wanted front text) (λ i. Leaves text (rest_of i))
item-found wanted front text =
    if-of rest_of (Leaves text) (item_at wanted front text) (item-leaves wanted front text)

item-part-leaves : (front text : List ℕ) (o : Option Item)
    → IfSome {T = Item} o (λ i. Leaves text (rest_of i))
    → PartLeave text (option_map (item_or_left front text) o)
item-part-leaves front text None h = tt
item-part-leaves front text (Some i) h = by (is_item_spoken front text i) where
  by : (b : Bool) → PartLeaves text (if b then item_part i else left (rest_of i))
  by true = record {
    leaves = utterance-leaves text (item i) [] _ _
        (more-left text (rest_of i) (after_item i) h (Ends-item i));
    within = h.0;
  }
  by false = record { leaves = h; within = tt }

number-leaves : (wanted : Wanted) (front text : List ℕ)
    → PartLeave text (number_at wanted front text)
number-leaves wanted front text = if-or (PartLeaves text) _ _
    (pair-part-leaves text (pair_at front text) (pair-leaves front text))
    (if-or (PartLeaves text) _ _
    (code-part-leaves text (code_of_figures front text) (figures-leave front text))
    (item-part-leaves front text (item_at wanted front text) (item-found wanted front text)))

sign-leaves : (c : ℕ) (text sign : List ℕ) (o : Option Part) → PartLeave text o
    → PartLeave (c ∷ text) (with_sign sign o)
sign-leaves c text sign None h = tt
sign-leaves c text sign (Some (left rest)) h = tt
sign-leaves c text sign (Some (signed other u)) h = tt
sign-leaves c text sign (Some (spoken u)) h = record {
  leaves = one-more c text (after_utterance u) h.leaves.0;
  within = h.within;
}

currency-leaves : (c : ℕ) (wanted : Wanted) (front text name : List ℕ)
    → PartLeave (c ∷ text) (currency_at wanted front text name)
currency-leaves c wanted front text name =
    by (item_at wanted front text) (item-found wanted front text) where
      chosen : (i : Item) (b : Bool) → Leaves text (rest_of i)
          → PartLeave (c ∷ text) (if b then Some (named name i) else None)
      chosen i true h = record {
        leaves = utterance-leaves (c ∷ text) (item i) name false true (one-more c text (after_item i)
            (Ends-again text (rest_of i) (after_item i) h.0 (Ends-item i)));
        within = h.0;
      }
      chosen i false h = tt

      by : (o : Option Item) → IfSome {T = Item} o (λ i. Leaves text (rest_of i))
          → PartLeave (c ∷ text) (option_and_then (λ i.
          if is_of_currency front text i then Some (named name i) else None) o)
      by None h = tt
      by (Some i) h = chosen i (is_of_currency front text i) h

signed-leaves : (wanted : Wanted) (front text : List ℕ) → PartLeave text (signed_at wanted front text)
signed-leaves wanted front [] = tt
signed-leaves wanted front (c ∷ text) = by (sign_word c) (currency_name c) where
  by : (sign name : Option (List ℕ))
      → PartLeave (c ∷ text) (after_sign wanted (c ∷ front) text sign name)
  by (Some sign) name = sign-leaves c text sign _ (number-leaves wanted (c ∷ front) text)
  by None (Some name) = currency-leaves c wanted (c ∷ front) text name
  by None None = tt

pub part-leaves : (wanted : Wanted) (front text : List ℕ) → PartLeave text (part_at wanted front text)
part-leaves wanted front text = if-or (PartLeaves text) _ _ (number-leaves wanted front text)
    (signed-leaves wanted front text)

-- what is left after an item is a suffix
pub item-ends : (wanted : Wanted) (front text : List ℕ) (i : Item) → Some i ≡ item_at wanted front text
    → EndsWith text (rest_of i)
item-ends wanted front text i e =
    let leaves : Leaves text (rest_of i) =
    subst (λ o. IfSome {T = Item} o (λ each. Leaves text (rest_of each))) (sym e)
    (item-found wanted front text) in leaves.0
