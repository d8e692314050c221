-- The items of a text without phrases are its expressions.
use Rattle.std.proofs.Common.{◌≡◌, ◌≢◌, ℕ, zero, suc, ◌-◌, ◌==◌, ◌≤◌, Bool, true, false, not, ◌&&◌, List, [], ◌∷◌, ◌++◌, length, take, drop, reverse, chars, encode_utf8_all, IsUtf8, Option, Some, None, is_some, option_map, if◌then◌else◌, refl, sym, ap, ◌∙◌, subst, arith, length-append}
use mathlib.Core.List.{reverse_aux}
use Rattle.std.proofs.Math.Seq.{take-append_seam}
use Rattle.std.specs.List.{Contains}
use Rattle.std.proofs.lemmas.Bool.Decides.{nat_tests}
use Rattle.std.proofs.Math.Utf8.{scalars}
use Rattle.std.proofs.lemmas.Str.{chars-encodes, encodes-append, scalars-chars}
use Rattle.cn_core.proofs.Fronts.{and-left, and-right}
use Rattle.cn_find.specs.declared.wanted.Wanted.{Wanted}
use Rattle.cn_find.specs.Expressions.{expression_rule}
use Rattle.cn_find.specs.Rule.{Rule, is_joined}
use Rattle.cn_find.specs.Spans.{Span, after_run, expressions, in_front, run_after, run_of, span_at, spans_after}
use Rattle.cn_find.specs.Runs.{IsRunBy, each_belongs, last_joined}
use Rattle.cn_find.proofs.RunLaws.{found-is_run, scalars-end, scalars-start}
use Rattle.cn_find.proofs.Runs.{first-span, next-character, not-joined}
use Rattle.cn_phrase.specs.Between.{part_between}
use Rattle.cn_phrase.specs.Items.{Item, ends_whole, expression, first_of, is_price_within, item_at, item_rest, items, items_after, rest_of, whole_phrase}
use Rattle.cn_phrase.specs.Money.{Money, begins_one, money_at}
use Rattle.cn_phrase.specs.Phrases.{Found}
use Rattle.cn_phrase.specs.Plain.{begins_no_phrase, has_no_phrase}
use Rattle.cn_phrase.specs.Ranges.{Ends, range_at}
use Rattle.cn_phrase.proofs.ItemSteps.{none-here, some-here}
use Rattle.cn_phrase.proofs.Between.{ends_with_it}

-- a run and the characters after it are all
run-parts : (rule : Rule) (front : List ℕ) (cs : List ℕ)
    → cs ≡ run_of rule front cs ++ after_run rule front cs
run-parts rule front [] = refl
run-parts rule front (c ∷ ahead) = by (is_joined rule front c ahead) (run-parts rule (c ∷ front) ahead) where
  by : (b : Bool) → ahead ≡ run_of rule (c ∷ front) ahead ++ after_run rule (c ∷ front) ahead
      → c ∷ ahead ≡ (c ∷ (if b then run_of rule (c ∷ front) ahead else []))
      ++ (if b then after_run rule (c ∷ front) ahead else ahead)
  by true same = ap (λ l. c ∷ l) same
  by false same = refl

-- what there is of four things, if there are not the first three
only-last : (o : Option Found) (m : Option Money) (r : Option Ends) (run : Option (List ℕ))
    → is_some o ≡ false → is_some m ≡ false → is_some r ≡ false
    → option_map rest_of (first_of o m r run) ≡ run
only-last None None None None d e f = refl
only-last None None None (Some rest) d e f = refl
only-last None None (Some ends) run d e f = cc
only-last None (Some m) r run d e f = cc
only-last (Some found) m r run d e f = cc

-- only the fourth of four things, if there is it alone
only-fourth : (o : Option Found) (m : Option Money) (r : Option Ends) (rest : List ℕ)
    → is_some o ≡ false → is_some m ≡ false → is_some r ≡ false
    → first_of o m r (Some rest) ≡ Some (expression rest)
only-fourth None None None rest d e f = refl
only-fourth None None (Some ends) rest d e f = cc
only-fourth None (Some m) r rest d e f = cc
only-fourth (Some found) m r rest d e f = cc

not-true : (b : Bool) → not b ≡ true → b ≡ false
not-true false e = refl
not-true true e = cc

and-false : (b d : Bool) → d ≡ true → (b && not d) ≡ false
and-false true true e = refl
and-false false d e = refl
and-false true false e = cc

same-count : (n : ℕ) → (n == n) ≡ true
same-count n = grind (arith, nat_tests)

module _ (wanted : Wanted) where
  abbrev rule : Rule
  rule = expression_rule wanted

  -- what is before a text ends whole, if its last character is not joined to the text
  apart-whole : (front : List ℕ) (c : ℕ) (ahead : List ℕ) → is_joined rule front c ahead ≡ false
      → ends_whole wanted (c ∷ front) ahead ≡ true
  apart-whole front c ahead apart = by (rule.belongs front c ahead) where
    by : (b : Bool)
        → ends_with_it ahead (if b then Some (after_run rule front (c ∷ ahead)) else None) ≡ true
    by false = refl
    by true = rw apart (same-count (length (encode_utf8_all ahead)))

  -- what is before a text ends whole after a run
  run-whole : (front : List ℕ) (c : ℕ) (ahead : List ℕ)
      → ends_whole wanted (reverse_aux (run_of rule front (c ∷ ahead)) front)
      (after_run rule front (c ∷ ahead)) ≡ true
  run-whole front c [] = apart-whole front c [] refl
  run-whole front c (d ∷ ahead) =
      by (is_joined rule front c (d ∷ ahead)) refl (run-whole (c ∷ front) d ahead) where
        by : (b : Bool) → is_joined rule front c (d ∷ ahead) ≡ b
            → ends_whole wanted (reverse_aux (run_of rule (c ∷ front) (d ∷ ahead)) (c ∷ front))
            (after_run rule (c ∷ front) (d ∷ ahead)) ≡ true
            → ends_whole wanted
            (reverse_aux (c ∷ (if b then run_of rule (c ∷ front) (d ∷ ahead) else [])) front)
            (if b then after_run rule (c ∷ front) (d ∷ ahead) else d ∷ ahead) ≡ true
        by true e next = next
        by false e next = apart-whole front c (d ∷ ahead) e

  -- what is before a text ends whole, if no run goes on there
  last-whole : (none : Bool) (front left right : List ℕ)
      → (none ≡ false → ends_whole wanted front (left ++ right) ≡ true)
      → last_joined rule none front left right ≡ false
      → ends_whole wanted (reverse_aux left front) right ≡ true
  last-whole none front [] right whole e = whole e
  last-whole none front (c ∷ left) right whole e =
      last-whole (is_joined rule front c (left ++ right)) (c ∷ front) left right
      (apart-whole front c (left ++ right)) e

  -- without a phrase, a sum of money and a range, an item is an expression, but within no other
  plain-rest : (front : List ℕ) (c : ℕ) (ahead : List ℕ)
      → begins_no_phrase wanted front (c ∷ ahead) ≡ true → ends_whole wanted front (c ∷ ahead) ≡ true
      → item_rest wanted front (c ∷ ahead) ≡ run_after rule front (c ∷ ahead)
  plain-rest front c ahead plain whole =
      ap (λ b. option_map rest_of (if b then None else first_of (whole_phrase wanted front (c ∷ ahead))
      (money_at wanted front (c ∷ ahead)) (range_at wanted front (c ∷ ahead))
      (run_after rule front (c ∷ ahead)))) (and-false (begins_one (c ∷ ahead)) _ whole)
      ∙ only-last (whole_phrase wanted front (c ∷ ahead)) (money_at wanted front (c ∷ ahead))
      (range_at wanted front (c ∷ ahead)) (run_after rule front (c ∷ ahead))
      (not-true _ (and-left _ _ plain)) (not-true _ (and-left _ _ (and-right _ _ plain)))
      (not-true _ (and-left _ _ (and-right _ _ (and-right _ _ plain))))

  -- an expression begins here, if a character belongs to one
  plain-expression : (front : List ℕ) (c : ℕ) (ahead : List ℕ)
      → begins_no_phrase wanted front (c ∷ ahead) ≡ true → ends_whole wanted front (c ∷ ahead) ≡ true
      → rule.belongs front c ahead ≡ true
      → item_at wanted front (c ∷ ahead) ≡ Some (expression (after_run rule front (c ∷ ahead)))
  plain-expression front c ahead plain whole here =
      ap (λ b. if b then None else first_of (whole_phrase wanted front (c ∷ ahead))
      (money_at wanted front (c ∷ ahead)) (range_at wanted front (c ∷ ahead))
      (run_after rule front (c ∷ ahead))) (and-false (begins_one (c ∷ ahead)) _ whole)
      ∙ ap (first_of (whole_phrase wanted front (c ∷ ahead)) (money_at wanted front (c ∷ ahead))
      (range_at wanted front (c ∷ ahead))) begins
      ∙ only-fourth (whole_phrase wanted front (c ∷ ahead)) (money_at wanted front (c ∷ ahead))
      (range_at wanted front (c ∷ ahead)) (after_run rule front (c ∷ ahead))
      (not-true _ (and-left _ _ plain)) (not-true _ (and-left _ _ (and-right _ _ plain)))
      (not-true _ (and-left _ _ (and-right _ _ (and-right _ _ plain)))) where
        begins : run_after rule front (c ∷ ahead) ≡ Some (after_run rule front (c ∷ ahead))
        begins = rw here refl

  plain-next : (front : List ℕ) (c : ℕ) (ahead : List ℕ)
      → begins_no_phrase wanted front (c ∷ ahead) ≡ true
      → begins_no_phrase wanted (c ∷ front) ahead ≡ true
  plain-next front c ahead plain =
      and-right (not (is_some (range_at wanted front (c ∷ ahead)))) _
      (and-right (not (is_some (money_at wanted front (c ∷ ahead)))) _
      (and-right (not (is_some (whole_phrase wanted front (c ∷ ahead)))) _ plain))

  plain-after : (passed front rest : List ℕ) → begins_no_phrase wanted front (passed ++ rest) ≡ true
      → begins_no_phrase wanted (reverse_aux passed front) rest ≡ true
  plain-after [] front rest plain = plain
  plain-after (c ∷ passed) front rest plain =
      plain-after passed (c ∷ front) rest (plain-next front c (passed ++ rest) plain)

  -- the part between a text and what is after its run is that run
  part-is : (front : List ℕ) (c : ℕ) (ahead passed rest : List ℕ)
      → run_of rule front (c ∷ ahead) ≡ c ∷ passed → after_run rule front (c ∷ ahead) ≡ rest
      → part_between front (c ∷ passed ++ rest) rest ≡ span_at rule front (c ∷ ahead)
  part-is front c ahead passed rest run after =
      let count : length (c ∷ passed ++ rest) - length rest ≡ length (c ∷ passed) =
      omega (arith, length-append (c ∷ passed) rest) in
      ap (λ l. made l rest) (ap (λ n. take n (c ∷ passed ++ rest)) count
      ∙ take-append_seam (c ∷ passed) rest ∙ sym run)
      ∙ ap (made (run_of rule front (c ∷ ahead))) (sym after) where
        made : List ℕ → List ℕ → Span
        made text after = record {
          before = encode_utf8_all (reverse front);
          text = encode_utf8_all text;
          after = encode_utf8_all after;
        }

  -- a run begins here, and these are the items after it
  one-run : (front : List ℕ) (c : ℕ) (ahead passed rest : List ℕ)
      → c ∷ ahead ≡ c ∷ passed ++ rest → rule.belongs front c ahead ≡ true
      → run_of rule front (c ∷ ahead) ≡ c ∷ passed → after_run rule front (c ∷ ahead) ≡ rest
      → begins_no_phrase wanted front (c ∷ ahead) ≡ true → ends_whole wanted front (c ∷ ahead) ≡ true
      → items_after wanted 0 (reverse_aux (c ∷ passed) front) rest
      ≡ spans_after rule false (reverse_aux (c ∷ passed) front) rest
      → items_after wanted 0 front (c ∷ ahead) ≡ spans_after rule false front (c ∷ ahead)
  one-run front c ahead passed rest parts here run after plain whole next =
      ap (items_after wanted 0 front) parts
      ∙ some-here wanted front passed rest c
      (subst (λ l. item_rest wanted front l ≡ Some rest) parts
      (plain-rest front c ahead plain whole ∙ rw here (ap Some after)))
      ∙ ap (λ l. part_between front (c ∷ passed ++ rest) rest ∷ l) next
      ∙ ap (λ s. s ∷ spans_after rule false (reverse_aux (c ∷ passed) front) rest)
      (part-is front c ahead passed rest run after)
      ∙ sym (first-span rule front (c ∷ ahead) here ∙ rw (run, after) refl)

  -- the same items and runs, given those after this character and those after a run that begins here
  one-character : (front : List ℕ) (c : ℕ) (ahead : List ℕ) (b : Bool)
      → rule.belongs front c ahead ≡ b → begins_no_phrase wanted front (c ∷ ahead) ≡ true
      → ends_whole wanted front (c ∷ ahead) ≡ true
      → (rule.belongs front c ahead ≡ false
      → items_after wanted 0 (c ∷ front) ahead ≡ spans_after rule false (c ∷ front) ahead)
      → items_after wanted 0 (reverse_aux (run_of rule front (c ∷ ahead)) front)
      (after_run rule front (c ∷ ahead))
      ≡ spans_after rule false (reverse_aux (run_of rule front (c ∷ ahead)) front)
      (after_run rule front (c ∷ ahead))
      → items_after wanted 0 front (c ∷ ahead) ≡ spans_after rule false front (c ∷ ahead)
  one-character front c ahead false none plain whole next after =
      none-here wanted front c ahead (plain-rest front c ahead plain whole ∙ rw none refl) ∙ next none
      ∙ sym (next-character rule front c ahead none)
  one-character front c ahead true here plain whole next after =
      one-run front c ahead (drop 1 (run_of rule front (c ∷ ahead))) (after_run rule front (c ∷ ahead))
      (run-parts rule front (c ∷ ahead)) here refl refl plain whole after

  plain-items : (n : ℕ) (front cs : List ℕ) → length cs ≤ n
      → begins_no_phrase wanted front cs ≡ true → ends_whole wanted front cs ≡ true
      → items_after wanted 0 front cs ≡ spans_after rule false front cs
  plain-items n front [] few plain whole = refl
  plain-items zero front (c ∷ ahead) few plain whole = absurd (omega (arith, few))
  plain-items (suc n) front (c ∷ ahead) few plain whole =
      one-character front c ahead (rule.belongs front c ahead) refl plain whole
      (λ none. plain-items n (c ∷ front) ahead (omega (arith, few)) (plain-next front c ahead plain)
      (apart-whole front c ahead (not-joined rule front c ahead none)))
      (plain-items n (reverse_aux (run_of rule front (c ∷ ahead)) front)
      (after_run rule front (c ∷ ahead))
      (omega (
        arith,
        ap length (run-parts rule front (c ∷ ahead)),
        length-append (run_of rule front (c ∷ ahead)) (after_run rule front (c ∷ ahead)),
        few,
      ))
      (plain-after (run_of rule front (c ∷ ahead)) front (after_run rule front (c ∷ ahead))
      (subst (λ l. begins_no_phrase wanted front l ≡ true) (run-parts rule front (c ∷ ahead)) plain))
      (run-whole front c ahead))

  pub items-plain : (bytes : List ℕ) → has_no_phrase wanted bytes ≡ true
      → items wanted bytes ≡ expressions wanted bytes
  items-plain bytes plain = plain-items (length (chars bytes)) [] (chars bytes) (omega arith) plain refl

  -- an expression of a text is an item that is one
  pub item-plain : (bytes : List ℕ) (span : Span) → IsUtf8 bytes → has_no_phrase wanted bytes ≡ true
      → Contains (expressions wanted bytes) span
      → (rest : List ℕ) × (item_at wanted (in_front span.before) (chars (span.text ++ span.after))
      ≡ Some (expression rest))
  item-plain bytes span utf8 plain found =
      by r.run refl r.some r.each where
        r : IsRunBy rule (chars bytes) span
        r = found-is_run rule bytes span found

        all : scalars (r.left ++ (r.run ++ r.right)) ≡ true
        all = ap scalars (sym r.parts) ∙ scalars-chars bytes utf8

        front_is : in_front span.before ≡ reverse r.left
        front_is = ap in_front r.before_is
            ∙ ap reverse (chars-encodes r.left (scalars-start r.left (r.run ++ r.right) all))

        text_is : chars (span.text ++ span.after) ≡ r.run ++ r.right
        text_is = ap (λ l. chars (l ++ span.after)) r.text_is
            ∙ ap (λ l. chars (encode_utf8_all r.run ++ l)) r.after_is
            ∙ ap chars (sym (encodes-append r.run r.right))
            ∙ chars-encodes (r.run ++ r.right) (scalars-end r.left (r.run ++ r.right) all)

        onto : reverse_aux r.left [] ≡ reverse r.left
        onto = refl

        here : begins_no_phrase wanted (reverse r.left) (r.run ++ r.right) ≡ true
        here = subst (λ l. begins_no_phrase wanted l (r.run ++ r.right) ≡ true) onto
            (plain-after r.left [] (r.run ++ r.right)
            (subst (λ l. begins_no_phrase wanted [] l ≡ true) r.parts plain))

        apart : ends_whole wanted (reverse r.left) (r.run ++ r.right) ≡ true
        apart = subst (λ l. ends_whole wanted l (r.run ++ r.right) ≡ true) onto
            (last-whole false [] r.left (r.run ++ r.right) (λ e. refl) r.apart_before)

        by : (run : List ℕ) → r.run ≡ run → r.run ≢ []
            → each_belongs rule (reverse r.left) r.run r.right ≡ true
            → (rest : List ℕ) × (item_at wanted (in_front span.before) (chars (span.text ++ span.after))
            ≡ Some (expression rest))
        by [] e some each = absurd (some e)
        by (c ∷ run) e some each = (
          after_run rule (reverse r.left) (c ∷ run ++ r.right),
          ap (λ l. item_at wanted l (chars (span.text ++ span.after))) front_is
              ∙ ap (item_at wanted (reverse r.left)) (text_is ∙ ap (λ l. l ++ r.right) e)
              ∙ plain-expression (reverse r.left) c (run ++ r.right)
              (subst (λ l. begins_no_phrase wanted (reverse r.left) (l ++ r.right) ≡ true) e here)
              (subst (λ l. ends_whole wanted (reverse r.left) (l ++ r.right) ≡ true) e apart)
              (and-left _ _ (subst (λ l. each_belongs rule (reverse r.left) l r.right ≡ true) e each)),
        )
