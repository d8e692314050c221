-- An expression sees no further than a character that is neither named nor noticed: its new text is
-- the same as where the text ends at that character, or begins after it.
use Rattle.std.proofs.Common.{◌≡◌, ℕ, ◌-◌, Bool, true, false, ◌&&◌, ◌||◌, ◌==◌, List, [], ◌∷◌, ◌++◌, reverse, chars, codes, encode_utf8_all, Option, Some, None, is_some, if◌then◌else◌, refl, ap}
use Rattle.std.specs.Char.{char_set_contains, is_ascii_alphabetic}
use Rattle.std.proofs.Math.Bool.{and-false}
use Rattle.cn_core.specs.declared.method.ChineseCountMethod.{ChineseCountMethod}
use Rattle.cn_core.specs.Characters.{digit_of, rank_of}
use Rattle.cn_core.specs.FigureCharacters.{is_figure, is_wide_figure, tens_of}
use Rattle.cn_core.proofs.Fronts.{both}
use Rattle.cn_find.specs.declared.doubt.Doubt.{Doubt}
use Rattle.cn_find.specs.declared.doubt.Doubt.TheVariants.{Word, Digits, Term, Part, Time, Range}
use Rattle.cn_find.specs.Doubt.{ends_in_next_word, is_doubtful_list, is_of_article, is_part, is_term, is_time}
use Rattle.cn_find.specs.Expressions.{binds_minus, is_extra, is_han, is_tens}
use Rattle.cn_find.specs.Flags.{begins_estimate}
use Rattle.cn_find.specs.Spans.{Span}
use Rattle.cn_find.specs.Belongs.{begins_with}
use Rattle.cn_find.specs.Parting.{is_named}
use Rattle.cn_find.specs.Ranges.{amount_of, are_ends, is_end_of_range, is_first_end, is_of_amount, is_range_link, is_second_end}
use Rattle.cn_find.specs.Words.{begins_weekday, begins_word, ends_era, ends_week, ends_word, is_of_title, is_title_open}
use Rattle.cn_find.proofs.Extra.{neither}
use Rattle.cn_find.proofs.Unwanted.{outside}
use Rattle.cn_replace.specs.declared.options.Figures.{Figures}
use Rattle.cn_replace.specs.InFigures.{begins_unit, figures_for, may_change}
use Rattle.cn_replace.specs.Clings.{begins_measure, clings, clings_to, is_bound, is_bridge}
use Rattle.cn_replace.specs.Joined.{begins_counter, is_between, is_counter, is_hour, is_length, is_link, is_of_amount as is_amount_unit, is_of_date, is_of_word as is_of_one, is_operation, joins, joins_three}
use Rattle.cn_replace.specs.Parting.{is_noticed}
use Rattle.cn_replace.specs.Pieces.{after_leading, begins, leading}

-- some rule looks at the character
abbrev is_seen : ℕ → Bool
is_seen c = is_named c || is_noticed c

-- what is known of a character at which none does; it is no other one
pub record IsUnseen (c : ℕ) : Type 0 where
  pub han : is_han c ≡ false
  pub figure : is_figure c ≡ false
  pub wide : is_wide_figure c ≡ false
  pub letter : is_ascii_alphabetic c ≡ false
  pub other : (d : ℕ) → is_seen d ≡ true → (d == c) ≡ false

pub IsUnseen-of : (c : ℕ) → is_named c ≡ false → is_noticed c ≡ false → IsUnseen c
unfolding is_named binds_minus
IsUnseen-of c unnamed unnoticed =
    let bound = neither _ (binds_minus c) (neither _ (char_set_contains (codes "℃") c) unnamed).0 in
    let digit = neither _ (is_some (digit_of c)) (neither _ (is_extra c) bound.0).0 in
    let figure = neither (is_han c) (is_figure c) digit.0 in
    let unseen : is_seen c ≡ false = rw (unnamed, unnoticed) in
    record {
      han = figure.0;
      figure = figure.1;
      wide = (neither _ (is_wide_figure c) figure.1).1;
      letter = (neither (is_ascii_alphabetic c) _ bound.1).0;
      other = λ d seen.
          (neither (d == c) false (outside is_seen (d ∷ []) c (both _ _ seen refl) unseen)).0;
    }

-- a doubt by the characters before an expression, the nearest first, and those after it
abbrev doubt-by : Bool → List ℕ → List ℕ → List ℕ → Bool → Option Doubt
doubt-by in_title front text after is_end =
    if is_part text after || ends_in_next_word text after then Some Part
    else (if ends_word front text || ((begins_weekday text && ends_week front)
    || ((in_title || (begins_with (codes "年") after && ends_era front))
    || begins_word text after)) then Some Word
    else (if is_doubtful_list front text after then Some Digits
    else (if is_term text after || is_of_article front after then Some Term
    else (if is_time front text after then Some Time
    else (if is_end then Some Range else None)))))

-- such a character, and any others further away
module _ (c : ℕ) (u : IsUnseen c) (more : List ℕ) where
  doubt-after : (in_title : Bool) (front text : List ℕ) (is_end : Bool) (xs : List ℕ)
      → doubt-by in_title front text (xs ++ c ∷ more) is_end ≡ doubt-by in_title front text xs is_end
  unfolding is_named is_noticed is_han digit_of
  doubt-after in_title front text is_end [] = simp (u.other, u.han, and-false)
  doubt-after in_title front text is_end (x ∷ []) = simp (u.other, u.han, and-false)
  doubt-after in_title front text is_end (x ∷ y ∷ []) = simp (u.other, and-false)
  doubt-after in_title front text is_end (x ∷ y ∷ z ∷ xs) = refl

  doubt-before : (in_title : Bool) (text after : List ℕ) (is_end : Bool) (xs : List ℕ)
      → doubt-by in_title (xs ++ c ∷ more) text after is_end ≡ doubt-by in_title xs text after is_end
  unfolding is_named is_noticed is_han
  doubt-before in_title text after is_end [] = simp (u.other, and-false)
  doubt-before in_title text after is_end (x ∷ []) = simp (u.other, and-false)
  doubt-before in_title text after is_end (x ∷ y ∷ xs) = refl

  no-title : (n : ℕ) → is_title_open n (c ∷ more) ≡ false
  unfolding is_named is_noticed is_han is_extra is_tens tens_of digit_of binds_minus
  no-title n = by (n == 0) where
    by : (b : Bool) → (if b then false else (if char_set_contains (codes "《") c then true
        else (if is_of_title c then is_title_open (n - 1) more else false))) ≡ false
    by true = refl
    by false = simp (u.other, u.han, u.figure, u.letter)

  title-same : (n : ℕ) (xs : List ℕ) → is_title_open n (xs ++ c ∷ more) ≡ is_title_open n xs
  title-same n [] = no-title n
  title-same n (x ∷ xs) = ap (λ b. if n == 0 then false
      else (if char_set_contains (codes "《") x then true else (if is_of_title x then b else false)))
      (title-same (n - 1) xs)

  unit-after : (xs : List ℕ) → begins_unit (xs ++ c ∷ more) ≡ begins_unit xs
  unfolding is_named is_noticed is_han
  unit-after [] = simp (u.other)
  unit-after (x ∷ []) = simp (u.other, and-false)
  unit-after (x ∷ y ∷ xs) = refl

  no-amount : is_of_amount c ≡ false
  unfolding is_of_amount is_named is_noticed is_han is_extra is_tens tens_of digit_of rank_of binds_minus
  no-amount = simp (u.other, u.wide)

  amount-same : (xs : List ℕ) → amount_of (xs ++ c ∷ more) ≡ amount_of xs
  amount-same [] = rw no-amount
  amount-same (x ∷ xs) = ap (λ l. if is_of_amount x then x ∷ l else []) (amount-same xs)

  no-ends : (low high : List ℕ) → are_ends c low high ≡ false
  unfolding is_range_link is_named is_noticed is_han is_extra is_tens tens_of digit_of binds_minus
  no-ends low high = simp (u.other)

  is_end-after : (text xs : List ℕ) → is_first_end text (xs ++ c ∷ more) ≡ is_first_end text xs
  is_end-after text [] = no-ends text _
  is_end-after text (x ∷ xs) =
      ap (λ l. are_ends x text (encode_utf8_all l)) (amount-same xs)

  is_end-before : (text xs : List ℕ) → is_second_end text (xs ++ c ∷ more) ≡ is_second_end text xs
  is_end-before text [] = no-ends _ text
  is_end-before text (x ∷ xs) =
      ap (λ l. are_ends x (encode_utf8_all (reverse l)) text) (amount-same xs)

  estimate-after : (xs : List ℕ) → begins_estimate (xs ++ c ∷ more) ≡ begins_estimate xs
  unfolding is_named is_noticed is_han
  estimate-after [] = simp (u.other)
  estimate-after (x ∷ []) = simp (u.other)
  estimate-after (x ∷ y ∷ xs) = refl

  estimate-before : (xs : List ℕ)
      → begins_with (codes "几幾数數") (xs ++ c ∷ more) ≡ begins_with (codes "几幾数數") xs
  unfolding is_named is_noticed is_han
  estimate-before [] = simp (u.other)
  estimate-before (x ∷ xs) = refl

  each-before : (xs : List ℕ)
      → begins_with (codes "每") (xs ++ c ∷ more) ≡ begins_with (codes "每") xs
  unfolding is_named is_noticed is_han
  each-before [] = simp (u.other)
  each-before (x ∷ xs) = refl

  second-before : (xs : List ℕ) → begins_with (codes "到至、和与與或") (xs ++ c ∷ more)
      ≡ begins_with (codes "到至、和与與或") xs
  unfolding is_named is_noticed is_han is_extra is_tens tens_of digit_of rank_of binds_minus
  second-before [] = simp (u.other)
  second-before (x ∷ xs) = refl

  clings-same : (xs : List ℕ) → clings_to (xs ++ c ∷ more) ≡ clings_to xs
  unfolding is_bound is_bridge is_named is_noticed is_han is_extra is_tens tens_of digit_of binds_minus
  clings-same [] = simp (u.other, u.letter, u.figure)
  clings-same (x ∷ []) = simp (u.letter, u.figure)
  clings-same (x ∷ y ∷ xs) = refl

  letters-same : (xs : List ℕ)
      → leading is_ascii_alphabetic (xs ++ c ∷ more) ≡ leading is_ascii_alphabetic xs
  letters-same [] = rw u.letter
  letters-same (x ∷ xs) = ap (λ l. if is_ascii_alphabetic x then x ∷ l else []) (letters-same xs)

  figure-same : (xs : List ℕ) → begins is_figure (after_leading is_ascii_alphabetic (xs ++ c ∷ more))
      ≡ begins is_figure (after_leading is_ascii_alphabetic xs)
  figure-same [] = rw (u.letter, u.figure)
  figure-same (x ∷ xs) = elim (is_ascii_alphabetic x) as (λ b.
      begins is_figure (if b then after_leading is_ascii_alphabetic (xs ++ c ∷ more)
      else x ∷ xs ++ c ∷ more)
      ≡ begins is_figure (if b then after_leading is_ascii_alphabetic xs else x ∷ xs))
      [ true ↦ figure-same xs | false ↦ refl ]

  measure-same : (xs : List ℕ) → begins_measure (xs ++ c ∷ more) ≡ begins_measure xs
  unfolding begins_measure
  measure-same xs = rw (letters-same xs, figure-same xs)

  one-same : (text xs : List ℕ) → is_of_one text (xs ++ c ∷ more) ≡ is_of_one text xs
  one-same (t ∷ []) [] = rw (u.han, and-false)
  one-same text xs = refl

  counter-same : (xs : List ℕ) → begins_counter (xs ++ c ∷ more) ≡ begins_counter xs
  unfolding is_counter is_named is_noticed is_han
  counter-same [] = simp (u.other)
  counter-same (x ∷ xs) = refl

  pub joins-after : (between text xs : List ℕ)
      → joins between text (xs ++ c ∷ more) ≡ joins between text xs
  joins-after (d ∷ []) text xs = rw (one-same text xs, counter-same xs)
  joins-after (d ∷ e ∷ f ∷ []) text xs = refl
  joins-after between text xs = refl

  -- an expression has the same new text with them after it, or before it
  pub told-after : (method : ChineseCountMethod) (options : Figures) (span : Span) (after : List ℕ)
      → chars after ≡ chars span.after ++ c ∷ more
      → figures_for method options (record { before = span.before; text = span.text; after = after })
      ≡ figures_for method options span
  unfolding figures_for may_change clings
  told-after method options span after e = rw (
    e,
    unit-after (chars span.after),
    estimate-after (chars span.after),
    is_end-after span.text (chars span.after),
    doubt-after (is_title_open 40 (reverse (chars span.before))) (reverse (chars span.before))
        (chars span.text)
        (is_end_of_range span.before span.text span.after) (chars span.after),
    clings-same (chars span.after),
    measure-same (chars span.after),
  )

  pub told-before : (method : ChineseCountMethod) (options : Figures) (span : Span) (before : List ℕ)
      → reverse (chars before) ≡ reverse (chars span.before) ++ c ∷ more
      → figures_for method options (record { before = before; text = span.text; after = span.after })
      ≡ figures_for method options span
  unfolding figures_for may_change clings
  told-before method options span before e = rw (
    e,
    each-before (reverse (chars span.before)),
    second-before (reverse (chars span.before)),
    estimate-before (reverse (chars span.before)),
    is_end-before span.text (reverse (chars span.before)),
    title-same 40 (reverse (chars span.before)),
    doubt-before (is_title_open 40 (reverse (chars span.before))) (chars span.text) (chars span.after)
        (is_end_of_range span.before span.text span.after) (reverse (chars span.before)),
    clings-same (reverse (chars span.before)),
  )

-- nothing joins two expressions between which it is
pub none-joins : (c : ℕ) → IsUnseen c → (xs ys text after : List ℕ)
    → joins (xs ++ c ∷ ys) text after ≡ false
unfolding is_link is_between is_hour is_of_date is_amount_unit is_length is_operation joins_three is_named is_noticed is_han is_extra is_tens tens_of digit_of binds_minus
none-joins c u [] [] text after = simp (u.other)
none-joins c u [] (y ∷ []) text after = simp (u.other)
none-joins c u [] (y ∷ z ∷ []) text after = simp (u.other)
none-joins c u (x ∷ []) [] text after = simp (u.other, and-false)
none-joins c u (x ∷ []) (y ∷ []) text after = simp (u.other, and-false)
none-joins c u (x ∷ y ∷ []) [] text after = simp (u.other, and-false)
none-joins c u (x ∷ y ∷ z ∷ []) ys text after = refl
none-joins c u xs ys text after = refl
