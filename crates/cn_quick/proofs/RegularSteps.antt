-- The steps of a walk over a regular numeral, in terms of the definitions of numerals and their
-- value.
use Rattle.std.proofs.Common.{◌≡◌, ◌⊎◌, inl, inr, ℕ, ◌+◌, ◌*◌, ◌^◌, ◌<◌, ◌≤◌, Bool, true, false, not, ◌&&◌, ◌||◌, ◌==◌, nat_le, nat_lt, List, [], ◌∷◌, ◌++◌, length, map, filter, chars, append_assoc, Option, Some, None, IfSome, Ok, refl, sym, ap, ◌∙◌, arith, if◌then◌else◌}
use Rattle.std.specs.Char.{is_whitespace, is_not_whitespace}
use Rattle.std.specs.List.{list_all}
use Rattle.std.specs.Option.{option_map_or}
use Rattle.std.proofs.lemmas.Bool.Decides.{nat_tests}
use Rattle.cn_core.specs.declared.method.ChineseCountMethod.{ChineseCountMethod}
use Rattle.cn_core.specs.Judge.{Judges}
use Rattle.cn_core.specs.Mark.{Mark, digit, unit, other, mark_of}
use Rattle.cn_core.specs.Numeral.{may_precede, is_numeral, with_first_digit, starts_with_digit, multiplies_upwards, counts_a_unit, groups_strictly}
use Rattle.cn_core.specs.Place.{some_unfit}
use Rattle.cn_core.specs.Scale.{scale, exponent}
use Rattle.cn_core.specs.Text.{text_of, marks_of}
use Rattle.cn_core.specs.Value.{value, weight, product, records_from, record_units}
use Rattle.cn_core.proofs.Fronts.{and-left, and-right, both}
use Rattle.cn_core.proofs.Judging.{Judges-by_walk}
use Rattle.cn_core.proofs.OpenUnits.{first_not_smaller-record, in_ranks, length-records}
use Rattle.cn_quick.specs.declared.state.QuickState.{QuickState}
use Rattle.cn_quick.specs.Private.Regular.{OpenEntry, IsRegular, StandsRegular, LeavesNoTail, MayOpen, exponents, entries_for, top_exponent, is_below_top, is_regular_mark, closing_rank, not_smaller, with_last}
use Rattle.cn_judge.specs.Private.Walk.{HasNoTail}
use Rattle.cn_judge.proofs.OpenSums.{from_rank}
use Rattle.cn_core.proofs.Chars.{chars-from_empty}
use Rattle.cn_quick.proofs.RegularSums.{product-last, exponent-small, closing_rank-within, length-for, top-for, left-for, is_first, first-for, first-strict, first-left, next-left, last-left, records-first, records-unit, records-great, records-small, records-above, records-above_small}
use Rattle.cn_judge.proofs.Endings.{judge-plain_end}
use Rattle.cn_judge.proofs.Faults.{numeral_fits, plain-numeral}

-- a unit before the marks that follow it
multiplies : (rank : ℕ) (marks : List Mark) → list_all is_regular_mark marks ≡ true
    → ((starts_with_digit marks ≡ true) ⊎ (is_first rank (record_units marks) ≡ true))
    → multiplies_upwards (unit rank) marks ≡ true
multiplies rank [] regular h = refl
multiplies rank (digit value ∷ rest) regular h = refl
multiplies rank (other ∷ rest) regular h = cc
multiplies rank (unit next ∷ rest) regular (inl h) = cc
multiplies rank (unit next ∷ rest) regular (inr h) = let less : nat_lt rank next ≡ true =
    rw records-unit at h in rw less

counts : (rank : ℕ) (marks : List Mark) → 0 < rank → counts_a_unit (unit rank) marks ≡ true
counts rank marks some = let t : (rank == 0) ≡ false = grind (arith, nat_tests) in rw t

strictly : (method : ChineseCountMethod) (rank last : ℕ) (marks : List Mark)
    → record_units marks ≡ with_last last (records_from (closing_rank method) marks) → last < rank
    → is_first rank (from_rank rank (records_from (closing_rank method) marks)) ≡ true
    → groups_strictly (unit rank) marks ≡ true
strictly method rank last marks records low h =
    ap (λ o. option_map_or (λ next. nat_lt rank next) o true)
    (first_not_smaller-record 0 rank marks (omega arith))
    ∙ first-strict rank (record_units marks) ∙ ap (λ l. is_first rank (from_rank rank l)) records
    ∙ ap (is_first rank) (last-left rank last (records_from (closing_rank method) marks) low) ∙ h

-- the last mark is a tail or is not, after one more mark
plain_end-more : (mark : Mark) (marks : List Mark) → HasNoTail marks → LeavesNoTail mark marks
    → HasNoTail (mark ∷ marks)
plain_end-more mark [] h leaves = inl (omega arith)
plain_end-more mark (last ∷ []) h leaves = inr ([], mark, last, refl, leaves)
plain_end-more mark (a ∷ b ∷ rest) (inl h) leaves = absurd (omega (arith, h))
plain_end-more mark (a ∷ b ∷ rest) (inr (front, second, last, parts, stands)) leaves =
    inr (mark ∷ front, second, last, ap (λ l. mark ∷ l) parts, stands)

leaves-digit : (d : ℕ) (marks : List Mark) → LeavesNoTail (digit d) marks
leaves-digit d [] = tt
leaves-digit d (last ∷ []) = refl
leaves-digit d (a ∷ b ∷ rest) = tt

-- one more digit
value-digit : (method : ChineseCountMethod) (marks : List Mark) (total sum last d : ℕ)
    → last < closing_rank method
    → value method marks ≡ total + sum * 10 ^ exponents method
    (records_from (closing_rank method) marks)
    → record_units marks ≡ with_last last (records_from (closing_rank method) marks)
    → value method (digit d ∷ marks) ≡ total
    + (sum + d * 10 ^ last) * 10 ^ exponents method (records_from (closing_rank method) marks)
value-digit method marks total sum last d low number records =
    let heavy : weight method marks ≡ 10 ^ last
    * 10 ^ exponents method (records_from (closing_rank method) marks) =
    ap (λ l. product (map (scale method) l)) records
    ∙ product-last method last (records_from (closing_rank method) marks) low in
    ap (λ w. d * w + value method marks) heavy
    ∙ ap (λ v. d * (10 ^ last * 10 ^ exponents method
    (records_from (closing_rank method) marks)) + v) number
    ∙ regroup d (10 ^ last) (10 ^ exponents method (records_from (closing_rank method) marks))
    total sum where
      regroup : (d p q t s : ℕ) → d * (p * q) + (t + s * q) ≡ t + (s + d * p) * q
      regroup d p q t s = grind arith

pub digit-precedes : (d : ℕ) (marks : List Mark) (at_digit : Bool)
    → at_digit ≡ starts_with_digit marks → true ≡ ((d == 0) || not at_digit)
    → may_precede (digit d) marks ≡ true
digit-precedes d [] at_digit at h = refl
digit-precedes d (unit n ∷ rest) at_digit at h = refl
digit-precedes d (other ∷ rest) at_digit at h = refl
digit-precedes d (digit n ∷ rest) at_digit at h = by (d == 0) (rw at at h) where
  by : (b : Bool) → true ≡ (b || false) → ((b || nat_lt 9 d) && true && true && true) ≡ true
  by true h = refl
  by false h = cc

pub regular-digit : (method : ChineseCountMethod) (marks : List Mark) (held : List OpenEntry)
    (total sum last : ℕ) (at_digit : Bool) (d more : ℕ)
    → IsRegular method marks held total sum last at_digit → true ≡ ((d == 0) || not at_digit)
    → more ≡ sum + d * 10 ^ last
    → IsRegular method (digit d ∷ marks) held total more last true
regular-digit method marks held total sum last at_digit d more s h add = record {
  regular = s.regular;
  rules = both (may_precede (digit d) marks) _ (digit-precedes d marks at_digit s.after_digit h)
      s.rules;
  fit = s.fit;
  number = value-digit method marks total sum last d s.low s.number s.records
      ∙ ap (λ n. total + n * 10 ^ exponents method (records_from (closing_rank method) marks))
      (sym add);
  records = s.records;
  entries_are = s.entries_are;
  after_digit = refl;
  low = s.low;
  plain_end = plain_end-more (digit d) marks s.plain_end (leaves-digit d marks);
}

-- one more unit
regular-unit : (rank : ℕ) (marks : List Mark) → 0 < rank → rank < 16
    → list_all is_regular_mark marks ≡ true → list_all is_regular_mark (unit rank ∷ marks) ≡ true
regular-unit rank marks some low h =
    let a : nat_lt 0 rank ≡ true = grind (arith, nat_tests) in
    let b : nat_lt rank 16 ≡ true = grind (arith, nat_tests) in rw (a, b, h)

fit-unit : (method : ChineseCountMethod) (rank : ℕ) (marks : List Mark) → exponent method rank ≤ 38
    → some_unfit method marks ≡ false → some_unfit method (unit rank ∷ marks) ≡ false
fit-unit method rank marks low h = let t : nat_le (exponent method rank) 38 ≡ true =
    test (exponent method rank) low in rw (t, h) where
      test : (n : ℕ) → n ≤ 38 → nat_le n 38 ≡ true
      test n h = grind (arith, nat_tests)

precedes : (method : ChineseCountMethod) (rank last : ℕ) (marks : List Mark) → 0 < rank
    → last < rank → list_all is_regular_mark marks ≡ true
    → record_units marks ≡ with_last last (records_from (closing_rank method) marks)
    → ((starts_with_digit marks ≡ true) ⊎ (is_first rank (record_units marks) ≡ true))
    → is_first rank (from_rank rank (records_from (closing_rank method) marks)) ≡ true
    → may_precede (unit rank) marks ≡ true
precedes method rank last marks some low regular records h first =
    both _ (groups_strictly (unit rank) marks)
    (both _ _ (multiplies rank marks regular h) (counts rank marks some))
    (strictly method rank last marks records low first)

-- a unit below 萬
pub regular-small : (method : ChineseCountMethod) (marks : List Mark) (held : List OpenEntry)
    (total sum last : ℕ) (at_digit : Bool) (rank : ℕ)
    → IsRegular method marks held total sum last at_digit
    → true ≡ (nat_lt last rank && (at_digit || last == 0)) → rank < closing_rank method
    → LeavesNoTail (unit rank) marks
    → IsRegular method (unit rank ∷ marks) held total sum rank false
regular-small method marks held total sum last at_digit rank s h small leaves =
    let up : nat_lt last rank ≡ true = and-left (nat_lt last rank) _ (sym h) in
    let less : last < rank = grind (arith, nat_tests) in
    let some : 0 < rank = omega (arith, less) in
    let first : is_first rank (records_from (closing_rank method) marks) ≡ true =
    records-first rank (closing_rank method) marks small in
    let same : records_from (closing_rank method) (unit rank ∷ marks)
    ≡ records_from (closing_rank method) marks =
    records-small (closing_rank method) rank marks small in
    let t : (rank == 0) ≡ false = grind (arith, nat_tests) in
    let with : (l : List ℕ) → with_last rank l ≡ rank ∷ l = λ l. rw t refl in
    record {
      regular = regular-unit rank marks some (omega (arith, small, (closing_rank-within method).1))
          s.regular;
      rules = both (may_precede (unit rank) marks) _
          (precedes method rank last marks some less s.regular s.records
          (either at_digit (last == 0) s.after_digit refl
          (and-right (nat_lt last rank) _ (sym h)) first)
          (ap (is_first rank) (first-left rank (records_from (closing_rank method) marks) first)
          ∙ first)) s.rules;
      fit = fit-unit method rank marks (let e = exponent-small method rank small
          in omega (arith, e, small, (closing_rank-within method).1)) s.fit;
      number = s.number ∙ ap (λ l. total + sum * 10 ^ exponents method l) (sym same);
      records = records-unit rank marks
          ∙ ap (λ l. rank ∷ l) (records-above (closing_rank method) rank last marks s.records
          (omega (arith, less)) ∙ records-above_small (closing_rank method) rank marks small)
          ∙ sym (with (records_from (closing_rank method) marks)) ∙ ap (with_last rank) (sym same);
      entries_are = s.entries_are ∙ ap (entries_for method) (sym same);
      after_digit = refl;
      low = small;
      plain_end = plain_end-more (unit rank) marks s.plain_end leaves;
    } where
      either : (a b : Bool) → a ≡ starts_with_digit marks → (last == 0) ≡ b → (a || b) ≡ true
          → is_first rank (records_from (closing_rank method) marks) ≡ true
          → (starts_with_digit marks ≡ true) ⊎ (is_first rank (record_units marks) ≡ true)
      either true b at e h first = inl (sym at)
      either false true at e h first = inr (ap (is_first rank) s.records
          ∙ ap (λ (b : Bool). is_first rank
          (if b then records_from (closing_rank method) marks
          else last ∷ records_from (closing_rank method) marks)) e ∙ first)
      either false false at e h first = cc

-- a unit from 萬 up: after the smaller units are closed, it may be added
may_open : (method : ChineseCountMethod) (marks : List Mark) (held left : List OpenEntry)
    (total sum last : ℕ) (at_digit : Bool) (rank : ℕ)
    → IsRegular method marks held total sum last at_digit → closing_rank method ≤ rank
    → left ≡ not_smaller rank held → true ≡ is_below_top rank left
    → ((starts_with_digit marks ≡ true) ⊎ (is_first rank (record_units marks) ≡ true))
    → MayOpen method marks left rank
may_open method marks held left total sum last at_digit rank s great gives top h =
    let low = s.low in
    let ranks = records_from (closing_rank method) marks in
    let same : left ≡ entries_for method (from_rank rank ranks) =
    gives ∙ ap (not_smaller rank) s.entries_are ∙ left-for method rank ranks in
    let first : is_first rank (from_rank rank ranks) ≡ true =
    sym (top ∙ ap (is_below_top rank) same ∙ first-for method rank (from_rank rank ranks)) in
    record {
      left_are = same ∙ ap (entries_for method)
          (sym (next-left rank ranks first)
          ∙ sym (records-above (closing_rank method) rank last marks s.records
          (omega (arith, great, low))));
      precedes = precedes method rank last marks (omega (arith, great, low))
          (omega (arith, great, low)) s.regular s.records h first;
    }

pub may_open-digit : (method : ChineseCountMethod) (marks : List Mark) (held left : List OpenEntry)
    (total sum last : ℕ) (at_digit : Bool) (rank : ℕ)
    → IsRegular method marks held total sum last at_digit → closing_rank method ≤ rank
    → at_digit ≡ true → left ≡ not_smaller rank held → true ≡ is_below_top rank left
    → MayOpen method marks left rank
may_open-digit method marks held left total sum last at_digit rank s great at gives top =
    may_open method marks held left total sum last at_digit rank s great gives top
    (inl (sym s.after_digit ∙ at))

-- the array has space for it
ranked : (marks : List Mark) → list_all is_regular_mark marks ≡ true → in_ranks marks ≡ true
ranked [] h = refl
ranked (digit value ∷ rest) h = ranked rest h
ranked (other ∷ rest) h = cc
ranked (unit rank ∷ rest) h =
    both (nat_lt rank 16) _ (and-right (nat_lt 0 rank) _
    (and-left (nat_lt 0 rank && nat_lt rank 16) _ h)) (ranked rest
    (and-right (nat_lt 0 rank && nat_lt rank 16) _ h))

pub open-room : (method : ChineseCountMethod) (marks : List Mark) (left : List OpenEntry)
    (rank : ℕ) → list_all is_regular_mark marks ≡ true → rank < 16 → closing_rank method ≤ rank
    → MayOpen method marks left rank → length left < 16
open-room method marks left rank regular low great o =
    let all = length-records (closing_rank method) (unit rank ∷ marks)
    (closing_rank-within method).1 (ranked (unit rank ∷ marks)
    (regular-unit rank marks (omega (arith, great, (closing_rank-within method).0)) low
    regular)) in
    let more = ap length (records-great (closing_rank method) rank marks great) in
    let same = ap length o.left_are ∙ length-for method (records_from (rank + 1) marks) in
    omega (arith, all, more, same, (closing_rank-within method).0)

pub regular-closed : (method : ChineseCountMethod) (marks : List Mark)
    (held left after : List OpenEntry) (total sum last : ℕ) (at_digit : Bool) (rank all more : ℕ)
    → IsRegular method marks held total sum last at_digit → closing_rank method ≤ rank → rank < 16
    → LeavesNoTail (unit rank) marks
    → more ≡ total + sum * 10 ^ top_exponent held → MayOpen method marks left rank
    → all ≡ top_exponent left + exponent method rank → all ≤ 38
    → after ≡ (rank, all) ∷ left → IsRegular method (unit rank ∷ marks) after more 0 0 false
regular-closed method marks held left after total sum last at_digit rank all more s great low
    leaves add o all_is small after_is =
    let ranks = records_from (closing_rank method) marks in
    let above = records_from (rank + 1) marks in
    let same : records_from (closing_rank method) (unit rank ∷ marks) ≡ rank ∷ above =
    records-great (closing_rank method) rank marks great in
    let inner : top_exponent left ≡ exponents method above =
    ap top_exponent o.left_are ∙ top-for method above in
    let outer : top_exponent held ≡ exponents method ranks =
    ap top_exponent s.entries_are ∙ top-for method ranks in
    let whole : all ≡ exponent method rank + exponents method above =
    omega (arith, all_is, inner) in
    let closed : more ≡ value method marks =
    add ∙ ap (λ e. total + sum * 10 ^ e) outer ∙ sym s.number in
    record {
      regular = regular-unit rank marks (omega (arith, great, (closing_rank-within method).0)) low
          s.regular;
      rules = both (may_precede (unit rank) marks) _ o.precedes s.rules;
      fit = fit-unit method rank marks (omega (arith, all_is, small)) s.fit;
      number = sym closed ∙ none more (10 ^ exponents method
          (records_from (closing_rank method) (unit rank ∷ marks)));
      records = records-unit rank marks ∙ sym same;
      entries_are = after_is ∙ ap (λ n. (rank, n) ∷ left) whole
          ∙ ap (λ l. (rank, exponent method rank + exponents method above) ∷ l) o.left_are
          ∙ ap (entries_for method) (sym same);
      after_digit = refl;
      low = (closing_rank-within method).0;
      plain_end = plain_end-more (unit rank) marks s.plain_end leaves;
    } where
      none : (n p : ℕ) → n ≡ n + 0 * p
      none n p = omega arith

-- the value of the whole numeral
pub judges-regular : (method : ChineseCountMethod) (marks : List Mark) (held : List OpenEntry)
    (total sum last : ℕ) (at_digit : Bool) (first : Mark) (d more n : ℕ)
    → IsRegular method marks held total sum last at_digit
    → (is_numeral (first ∷ marks) ≡ true) × (with_first_digit (first ∷ marks) ≡ digit d ∷ marks)
    → more ≡ sum + d * 10 ^ last → n ≡ total + more * 10 ^ top_exponent held → n < 2 ^ 128
    → Judges method (first ∷ marks) (Ok n)
judges-regular method marks held total sum last at_digit first d more n s numeral add number fits =
    let outer : top_exponent held ≡ exponents method (records_from (closing_rank method) marks) =
    ap top_exponent s.entries_are ∙ top-for method (records_from (closing_rank method) marks) in
    let same : value method (with_first_digit (first ∷ marks)) ≡ n =
    ap (value method) numeral.1 ∙ value-digit method marks total sum last d s.low s.number s.records
    ∙ ap (λ k. total + k * 10 ^ exponents method (records_from (closing_rank method) marks))
    (sym add) ∙ ap (λ e. total + more * 10 ^ e) (sym outer) ∙ sym number in
    let fit : some_unfit method (first ∷ marks) ≡ false =
    ap (λ b. b || some_unfit method marks) (numeral_fits method first marks numeral.0)
    ∙ s.fit in
    Judges-by_walk method (first ∷ marks) (Ok n)
    (judge-plain_end method first marks s.plain_end
    ∙ plain-numeral method (first ∷ marks) n numeral.0 fit same fits)

pub judges-option : (method : ChineseCountMethod) (marks : List Mark) (held : List OpenEntry)
    (total sum last : ℕ) (at_digit : Bool) (first : Mark) (d more : ℕ) (result : Option ℕ)
    → IsRegular method marks held total sum last at_digit
    → (is_numeral (first ∷ marks) ≡ true) × (with_first_digit (first ∷ marks) ≡ digit d ∷ marks)
    → more ≡ sum + d * 10 ^ last → IfSome result
    (λ n. (n ≡ total + more * 10 ^ top_exponent held) × (n < 2 ^ 128))
    → IfSome result (λ n. Judges method (first ∷ marks) (Ok n))
judges-option method marks held total sum last at_digit first d more None s numeral add h = tt
judges-option method marks held total sum last at_digit first d more (Some n) s numeral add h =
    judges-regular method marks held total sum last at_digit first d more n s numeral add h.0 h.1

-- the state of the walk in a string, of which the piece `ahead` is not read yet; each mark was a
-- character of three bytes
pub record HasStepped (method : ChineseCountMethod) (bytes ahead : List ℕ) (held : List OpenEntry)
    (state : QuickState) : Type 0 where
  pub after : List ℕ
  pub parts : chars bytes ≡ chars ahead ++ after
  pub dark : filter is_not_whitespace after ≡ after
  pub size : length ahead + 3 * length (marks_of after) ≡ length bytes
  pub stands : StandsRegular method (marks_of after) held state

dark-more : (c : ℕ) (after : List ℕ) → is_whitespace c ≡ false
    → filter is_not_whitespace after ≡ after → filter is_not_whitespace (c ∷ after) ≡ c ∷ after
dark-more c after dark h = rw dark (ap (λ l. c ∷ l) h)

pub stepped-second : (method : ChineseCountMethod) (bytes ahead : List ℕ) (held : List OpenEntry)
    (state : QuickState) (second : ℕ) (s : HasStepped method bytes ahead held state)
    → second + 3 ≡ length bytes → (length ahead == second) ≡ (length (marks_of s.after) == 1)
stepped-second method bytes ahead held state second s is =
    same (length bytes) (length ahead) (length (marks_of s.after)) second s.size is where
      same : (b a m n : ℕ) → a + 3 * m ≡ b → n + 3 ≡ b → (a == n) ≡ (m == 1)
      same b a m n e is = grind (arith, nat_tests)

pub stepped-more : (method : ChineseCountMethod) (bytes ahead before : List ℕ)
    (held left : List OpenEntry) (state next : QuickState) (c : ℕ) (mark : Mark)
    → (s : HasStepped method bytes ahead held state) → chars ahead ≡ chars before ++ c ∷ []
    → mark ≡ mark_of c → is_whitespace c ≡ false
    → length before + 3 ≡ length ahead → StandsRegular method (mark ∷ marks_of s.after) left next
    → HasStepped method bytes before left next
stepped-more method bytes ahead before held left state next c mark s parts is dark size stands =
    record {
      after = c ∷ s.after;
      parts = s.parts ∙ ap (λ l. l ++ s.after) parts ∙ append_assoc (chars before) (c ∷ []) s.after;
      dark = dark-more c s.after dark s.dark;
      size = (let e = s.size in omega (arith, e, size));
      stands = rw is at stands;
    }

-- the whole string, after its first character is read
pub stepped-all : (method : ChineseCountMethod) (bytes ahead rest : List ℕ) (held : List OpenEntry)
    (state : QuickState) (c : ℕ) (mark : Mark) (result : Option ℕ)
    → (s : HasStepped method bytes ahead held state) → chars ahead ≡ c ∷ chars rest
    → mark ≡ mark_of c → is_whitespace c ≡ false → length rest ≡ 0
    → IfSome result (λ n. Judges method (mark ∷ marks_of s.after) (Ok n))
    → IfSome result (λ n. Judges method (marks_of (text_of bytes)) (Ok n))
stepped-all method bytes ahead rest held state c mark None s parts is dark none h = tt
stepped-all method bytes ahead rest held state c mark (Some n) s parts is dark none h =
    let all : chars bytes ≡ c ∷ s.after =
    s.parts ∙ ap (λ l. l ++ s.after) (parts ∙ ap (λ l. c ∷ l) (chars-from_empty rest none)) in
    let text : text_of bytes ≡ c ∷ s.after =
    ap (filter is_not_whitespace) all ∙ dark-more c s.after dark s.dark in
    rw text (rw is at h)
