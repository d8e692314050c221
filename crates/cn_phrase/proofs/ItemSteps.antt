-- Steps over the characters of a text and over its items.
use Rattle.std.proofs.Common.{reverse, ◌≡◌, ℕ, ◌-◌, ◌<◌, Bool, true, false, List, [], ◌∷◌, ◌++◌, length, Option, Some, None, IfSome, option_map, refl, ap, arith, length-append, if◌then◌else◌}
use Rattle.std.specs.Option.{option_and_then}
use mathlib.Core.List.{reverse_aux}
use Rattle.cn_find.specs.declared.wanted.Wanted.{Wanted}
use Rattle.cn_find.specs.Expressions.{expression_rule}
use Rattle.cn_find.specs.Rule.{Rule, is_joined}
use Rattle.cn_find.specs.Spans.{Span, after_run, in_front, run_after}
use Rattle.cn_phrase.specs.Between.{characters_before, part_between}
use Rattle.cn_phrase.specs.declared.money.MoneyForm.TheVariants.{Signed}
use Rattle.cn_phrase.specs.Items.{Item, first_of, is_price_within, item_rest, items_after, rest_of, ends_whole, whole_phrase}
use Rattle.cn_phrase.specs.Money.{Money, Tail, counted, counted_at, is_amount, money_at, signed, signed_at, signed_from, tail_at}
use Rattle.cn_phrase.specs.Pieces.{without_blank}
use Rattle.cn_phrase.specs.Written.{passed_text}
use Rattle.cn_phrase.specs.Phrases.{Found, phrase_at}
use Rattle.cn_phrase.specs.Ranges.{Ends, is_link, is_range, linked, range_at}
use Rattle.cn_phrase.specs.Suffix.{EndsWith}
use Rattle.cn_phrase.proofs.Advances.{IsAhead, phrase_ahead}
use Rattle.cn_phrase.proofs.Suffixes.{Ends-again, Ends-blank, Ends-self, if-or}
use Rattle.cn_phrase.proofs.Tails.{tail-in}

-- what is left is a suffix, and shorter
abbrev pub Leaves : List ℕ → List ℕ → Type 0
Leaves text rest = EndsWith text rest × (length rest < length text)

Ends-run : (rule : Rule) (front : List ℕ) (c : ℕ) (ahead : List ℕ)
    → EndsWith ahead (after_run rule front (c ∷ ahead))
Ends-run rule front c [] = by (is_joined rule front c []) where
  by : (b : Bool) → EndsWith [] (if b then [] else [])
  by true = Ends-self []
  by false = Ends-self []
Ends-run rule front c (d ∷ ahead) =
    by (is_joined rule front c (d ∷ ahead)) (Ends-run rule (c ∷ front) d ahead) where
      by : (b : Bool) → EndsWith ahead (after_run rule (c ∷ front) (d ∷ ahead))
          → EndsWith (d ∷ ahead) (if b then after_run rule (c ∷ front) (d ∷ ahead) else d ∷ ahead)
      by true h = Ends-again (d ∷ ahead) ahead (after_run rule (c ∷ front) (d ∷ ahead)) (d ∷ [], refl) h
      by false h = Ends-self (d ∷ ahead)

pub run-leaves : (rule : Rule) (front text : List ℕ) → IfSome (run_after rule front text) (Leaves text)
run-leaves rule front [] = tt
run-leaves rule front (c ∷ ahead) =
    by (rule.belongs front c ahead) (Ends-run rule front c ahead) where
      by : (b : Bool) → EndsWith ahead (after_run rule front (c ∷ ahead))
          → IfSome (if b then Some (after_run rule front (c ∷ ahead)) else None) (Leaves (c ∷ ahead))
      by false h = tt
      by true h = (
        Ends-again (c ∷ ahead) ahead (after_run rule front (c ∷ ahead)) (c ∷ [], refl) h,
        omega (arith, ap length h.1, length-append h.0 (after_run rule front (c ∷ ahead))),
      )

range-leaves : (wanted : Wanted) (front text : List ℕ)
    → IfSome (range_at wanted front text) (λ ends. Leaves text ends.rest)
range-leaves wanted front text =
    first (run_after (expression_rule wanted) front text)
    (run-leaves (expression_rule wanted) front text) where
      rule : Rule
      rule = expression_rule wanted

      -- what is chosen of two ends leaves the same
      chosen : (b : Bool) (e : Ends) → Leaves text e.rest
          → IfSome (if b then Some e else None) (λ ends. Leaves text ends.rest)
      chosen true e h = h
      chosen false e h = tt

      second : (low : Span) (link : ℕ) (at : List ℕ) (run : Option (List ℕ)) → Leaves text at
          → IfSome run (Leaves at)
          → IfSome (option_and_then (λ e. if is_range e then Some e else None)
          (option_map (λ rest. record {
            low = low;
            link = link;
            high = part_between (link ∷ in_front (low.before ++ low.text)) at rest;
            rest = rest;
          }) run)) (λ ends. Leaves text ends.rest)
      second low link at None h k = tt
      second low link at (Some rest) h k = chosen _ _ (
        Ends-again text at rest h.0 k.0,
        omega (arith, h.1, k.1),
      )

      after-link : (low : Span) (rest : List ℕ) → Leaves text rest
          → IfSome (option_and_then (λ e. if is_range e then Some e else None)
          (linked wanted low rest)) (λ ends. Leaves text ends.rest)
      after-link low [] h = tt
      after-link low (c ∷ at) h = by (is_link c) where
        by : (b : Bool) → IfSome (option_and_then (λ e. if is_range e then Some e else None)
            (if b then option_map (λ rest. record {
              low = low;
              link = c;
              high = part_between (c ∷ in_front (low.before ++ low.text)) at rest;
              rest = rest;
            }) (run_after rule (c ∷ in_front (low.before ++ low.text)) at) else None))
            (λ ends. Leaves text ends.rest)
        by false = tt
        by true = second low c at (run_after rule (c ∷ in_front (low.before ++ low.text)) at) (
          Ends-again text (c ∷ at) at h.0 (c ∷ [], refl),
          omega (arith, h.1),
        ) (run-leaves rule (c ∷ in_front (low.before ++ low.text)) at)

      first : (run : Option (List ℕ)) → IfSome run (Leaves text)
          → IfSome (option_and_then (λ e. if is_range e then Some e else None)
          (option_and_then (λ rest. linked wanted (part_between front text rest) rest) run))
          (λ ends. Leaves text ends.rest)
      first None h = tt
      first (Some rest) h = after-link (part_between front text rest) rest h

-- what is left after a sum of money
abbrev MoneyLeaves : List ℕ → Option Money → Type 0
MoneyLeaves text o = IfSome o (λ m. Leaves text m.rest)

-- what is left of what is left
again : (text rest end : List ℕ) → Leaves text rest → EndsWith rest end → Leaves text end
again text rest end h ends = (
  Ends-again text rest end h.0 ends,
  omega (arith, h.1, ap length ends.1, length-append ends.0 end),
)

counted-leaves : (text : List ℕ) (number : Span) (rest : List ℕ) → Leaves text rest
    → MoneyLeaves text (counted number rest)
counted-leaves text number rest h = by (tail_at number.text rest) (tail-in number.text rest) where
  sum : Tail → Money
  sum t = record {
    form = t.form;
    sign = [];
    number = number;
    tail = passed_text rest t.rest;
    jiao = t.jiao;
    fen = t.fen;
    rest = t.rest;
  }

  chosen : (b : Bool) (t : Tail) → EndsWith rest t.rest
      → MoneyLeaves text (if b then Some (sum t) else None)
  chosen true t k = again text rest t.rest h k
  chosen false t k = tt

  by : (o : Option Tail) → IfSome o (λ t. EndsWith rest t.rest)
      → MoneyLeaves text (option_and_then (λ t. if is_amount number then Some (sum t) else None) o)
  by None k = tt
  by (Some t) k = chosen (is_amount number) t k

counted_at-leaves : (wanted : Wanted) (front text : List ℕ)
    → MoneyLeaves text (counted_at wanted front text)
counted_at-leaves wanted front text =
    by (run_after (expression_rule wanted) front text) (run-leaves (expression_rule wanted) front text) where
      by : (run : Option (List ℕ)) → IfSome run (Leaves text)
          → MoneyLeaves text (option_and_then (λ rest. counted (part_between front text rest) rest) run)
      by None h = tt
      by (Some rest) h = counted-leaves text (part_between front text rest) rest h

signed-leaves : (text sign : List ℕ) (number : Span) (rest : List ℕ) → Leaves text rest
    → MoneyLeaves text (signed sign number rest)
signed-leaves text sign number rest h = by _ where
  by : (b : Bool) → MoneyLeaves text (if b then Some (record {
    form = Signed;
    sign = sign;
    number = number;
    tail = [];
    jiao = 0;
    fen = 0;
    rest = rest;
  }) else None)
  by true = h
  by false = tt

signed_from-leaves : (wanted : Wanted) (front text start : List ℕ) → Leaves text start
    → MoneyLeaves text (signed_from wanted front text start)
signed_from-leaves wanted front text start h =
    by (run_after (expression_rule wanted) before start)
    (run-leaves (expression_rule wanted) before start) where
      before : List ℕ
      before = reverse (characters_before text start) ++ front

      by : (run : Option (List ℕ)) → IfSome run (Leaves start)
          → MoneyLeaves text (option_and_then (λ rest.
          signed (passed_text text start) (part_between before start rest) rest) run)
      by None k = tt
      by (Some rest) k = signed-leaves text (passed_text text start) (part_between before start rest) rest
          (again text start rest h k.0)

signed_at-leaves : (wanted : Wanted) (front text : List ℕ) → MoneyLeaves text (signed_at wanted front text)
signed_at-leaves wanted front [] = tt
signed_at-leaves wanted front (c ∷ ahead) = by _ where
  start : List ℕ
  start = without_blank false ahead

  begun : Leaves (c ∷ ahead) start
  begun = let ends = Ends-blank false ahead in (
    Ends-again (c ∷ ahead) ahead start (c ∷ [], refl) ends,
    omega (arith, ap length ends.1, length-append ends.0 start),
  )

  by : (b : Bool) → MoneyLeaves (c ∷ ahead)
      (if b then signed_from wanted front (c ∷ ahead) start else None)
  by true = signed_from-leaves wanted front (c ∷ ahead) start begun
  by false = tt

money-leaves : (wanted : Wanted) (front text : List ℕ) → MoneyLeaves text (money_at wanted front text)
money-leaves wanted front text =
    if-or (λ m. Leaves text m.rest) (signed_at wanted front text) (counted_at wanted front text)
    (signed_at-leaves wanted front text) (counted_at-leaves wanted front text)

whole-ahead : (wanted : Wanted) (front text : List ℕ)
    → IfSome (whole_phrase wanted front text) (IsAhead text)
whole-ahead wanted front text = by (phrase_at front text) (phrase_ahead front text) where
  chosen : (b : Bool) (found : Found) → IsAhead text found
      → IfSome (if b then Some found else None) (IsAhead text)
  chosen true found h = h
  chosen false found h = tt

  by : (o : Option Found) → IfSome o (IsAhead text)
      → IfSome (option_and_then (λ found.
      if ends_whole wanted (reverse (characters_before text found.rest) ++ front) found.rest
      then Some found else None) o) (IsAhead text)
  by None h = tt
  by (Some found) h = chosen _ found h

pub item-leaves : (wanted : Wanted) (front text : List ℕ)
    → IfSome (item_rest wanted front text) (Leaves text)
item-leaves wanted front text =
    unless (is_price_within wanted front text)
    (first_of (whole_phrase wanted front text) (money_at wanted front text) (range_at wanted front text)
    (run_after (expression_rule wanted) front text))
    (by (whole_phrase wanted front text) (money_at wanted front text) (range_at wanted front text)
    (run_after (expression_rule wanted) front text) (whole-ahead wanted front text)
    (money-leaves wanted front text) (range-leaves wanted front text)
    (run-leaves (expression_rule wanted) front text)) where
      unless : (b : Bool) (item : Option Item) → IfSome (option_map rest_of item) (Leaves text)
          → IfSome (option_map rest_of (if b then None else item)) (Leaves text)
      unless true item h = tt
      unless false item h = h

      by : (o : Option Found) (m : Option Money) (r : Option Ends) (run : Option (List ℕ))
          → IfSome o (IsAhead text) → MoneyLeaves text m → IfSome r (λ ends. Leaves text ends.rest)
          → IfSome run (Leaves text) → IfSome (option_map rest_of (first_of o m r run)) (Leaves text)
      by (Some found) m r run h j k l = h
      by None (Some m) r run h j k l = j
      by None None (Some ends) run h j k l = k
      by None None None (Some rest) h j k l = l
      by None None None None h j k l = tt

-- characters of an item are passed over
pass-all : (wanted : Wanted) (passed front text : List ℕ)
    → items_after wanted (length passed) front (passed ++ text)
    ≡ items_after wanted 0 (reverse_aux passed front) text
pass-all wanted [] front text = refl
pass-all wanted (c ∷ passed) front text = pass-all wanted passed (c ∷ front) text

-- no item begins here
pub none-here : (wanted : Wanted) (front : List ℕ) (c : ℕ) (ahead : List ℕ)
    → item_rest wanted front (c ∷ ahead) ≡ None
    → items_after wanted 0 front (c ∷ ahead) ≡ items_after wanted 0 (c ∷ front) ahead
none-here wanted front c ahead e = rw e refl

-- an item begins here
pub some-here : (wanted : Wanted) (front passed rest : List ℕ) (c : ℕ)
    → item_rest wanted front (c ∷ passed ++ rest) ≡ Some rest
    → items_after wanted 0 front (c ∷ passed ++ rest)
    ≡ part_between front (c ∷ passed ++ rest) rest
    ∷ items_after wanted 0 (reverse_aux (c ∷ passed) front) rest
some-here wanted front passed rest c e =
    let count : length (passed ++ rest) - length rest ≡ length passed =
    omega (arith, length-append passed rest) in
    rw (e, count) (ap (λ l. part_between front (c ∷ passed ++ rest) rest ∷ l)
    (pass-all wanted passed (c ∷ front) rest))
