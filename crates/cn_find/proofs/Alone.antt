-- A number that is cut in two does not stand alone.
use Rattle.std.proofs.Common.{◌≡◌, ◌≢◌, inl, inr, ℕ, Bool, true, false, not, ◌&&◌, ◌||◌, List, [], ◌∷◌, ◌++◌, chars, codes, encode_utf8, encode_utf8_all, Option, Some, None, is_some, IsUtf8, reverse, refl, sym, ap, ◌∙◌, append_assoc, append-nil, rules}
use Rattle.std.specs.Char.{char_set_contains, is_ascii_alphanumeric, is_ascii_digit}
use Rattle.std.specs.List.{Contains}
use Rattle.std.proofs.Math.Bool.{and-false, or-true}
use Rattle.std.proofs.Math.Utf8.{scalar, scalars}
use Rattle.std.proofs.lemmas.Bool.{not-true}
use Rattle.std.proofs.lemmas.List.{append_cancel_left, reverse-append}
use Rattle.std.proofs.lemmas.Str.{chars-encodes, encodes-append, scalars-chars}
use Rattle.cn_core.specs.Characters.{digit_of, rank, rank_of}
use Rattle.cn_core.specs.Mark.{mark_from}
use Rattle.cn_core.proofs.Fronts.{and-left, and-right}
use Rattle.cn_core.specs.FigureCharacters.{is_wide_figure}
use Rattle.cn_find.specs.declared.wanted.Wanted.{Wanted}
use Rattle.cn_find.specs.Belongs.{belongs, is_chinese_digit, is_mega, is_numeral, is_parted, is_wanted, is_wanted_mark}
use Rattle.cn_find.specs.Flags.{clings, goes_on, is_link, stands_alone}
use Rattle.cn_find.specs.Parting.{Meet, is_alone}
use Rattle.cn_find.specs.Rule.{number_rule, is_joined}
use Rattle.cn_find.specs.Runs.{IsRun, each_belongs, last_joined}
use Rattle.cn_find.specs.Spans.{Span, spans}
use Rattle.cn_find.proofs.RunLaws.{scalars-both, scalars-end, scalars-start, span-is_run}
use Rattle.cn_find.proofs.Unwanted.{inside}

-- a character that belongs to a number is a numeral character
belongs-numeral : (wanted : Wanted) (c : ℕ) (after : List ℕ) → belongs wanted c after ≡ true
    → is_numeral wanted c after ≡ true
unfolding belongs
belongs-numeral wanted c after h = and-left (is_numeral wanted c after) _ h

clings-digit : (c : ℕ) → is_some (digit_of c) ≡ true → clings c ≡ true
unfolding clings
clings-digit c e = by (is_ascii_alphanumeric c || is_wide_figure c) where
  by : (a : Bool) → (a || is_some (digit_of c) || char_set_contains (codes "_廿卅卌幺") c) ≡ true
  by true = refl
  by false = rw e

clings-ascii : (c : ℕ) → is_ascii_digit c ≡ true → clings c ≡ true
unfolding clings
clings-ascii c e = rw e

clings-chinese : (c : ℕ) → is_chinese_digit c ≡ true → clings c ≡ true
clings-chinese c e = clings-digit c (and-left (is_some (digit_of c)) _ e)

-- a link can lead to each character that belongs to a number
linked : (wanted : Wanted) (c : ℕ) (after : List ℕ) → belongs wanted c after ≡ true
    → (clings c || is_some (rank_of c)) ≡ true
linked wanted c after h = by (digit_of c) (rank_of c) refl refl marked where
  marked : is_wanted_mark (rank wanted.greatest) (mark_from (digit_of c) (rank_of c)) ≡ true
  marked = and-left _ _ (and-left (is_wanted wanted c) _ (belongs-numeral wanted c after h))

  by : (d r : Option ℕ) → digit_of c ≡ d → rank_of c ≡ r
      → is_wanted_mark (rank wanted.greatest) (mark_from d r) ≡ true
      → (clings c || is_some (rank_of c)) ≡ true
  by (Some value) r is_d is_r m = rw (clings-digit c (ap is_some is_d)) refl
  by None (Some r) is_d is_r m = rw is_r (or-true (clings c))
  by None None is_d is_r m = cc

-- the last character of a run
pub record Ends (wanted : Wanted) (run right : List ℕ) : Type 0 where
  pub front : List ℕ
  pub last : ℕ
  pub parts : run ≡ front ++ last ∷ []
  pub numeral : belongs wanted last right ≡ true
  pub at : List ℕ
  pub apart : is_joined (number_rule wanted) at last right ≡ false

ends : (wanted : Wanted) (none : Bool) (at : List ℕ) (c : ℕ) (run right : List ℕ)
    → each_belongs (number_rule wanted) at (c ∷ run) right ≡ true
    → last_joined (number_rule wanted) none at (c ∷ run) right ≡ false
    → Ends wanted (c ∷ run) right
ends wanted none at c [] right each apart = record {
  front = [];
  last = c;
  parts = refl;
  numeral = and-left (belongs wanted c right) _ each;
  at = at;
  apart = apart;
}
ends wanted none at c (d ∷ run) right each apart =
    let e = ends wanted (is_joined (number_rule wanted) at c (d ∷ run ++ right)) (c ∷ at) d run
    right (and-right (belongs wanted c (d ∷ run ++ right)) _ each) apart in
    record {
      front = c ∷ e.front;
      last = e.last;
      parts = ap (λ l. c ∷ l) e.parts;
      numeral = e.numeral;
      at = e.at;
      apart = e.apart;
    }

-- where two runs touch, the last character of the first and the first of the second cling
touched : (wanted : Wanted) (at : List ℕ) (c next : ℕ) (after : List ℕ)
    → belongs wanted c (next ∷ after) ≡ true → belongs wanted next after ≡ true
    → is_joined (number_rule wanted) at c (next ∷ after) ≡ false → is_parted c next ≡ true
touched wanted at c next after first second apart = by (is_parted c next) refl where
  none : (true && (true && not (is_parted c next))) ≡ false
  none =
      ap (λ b. b && (true && not (is_parted c next))) (sym first)
      ∙ ap (λ b. belongs wanted c (next ∷ after) && (b && not (is_parted c next))) (sym second)
      ∙ apart

  by : (b : Bool) → is_parted c next ≡ b → is_parted c next ≡ true
  by true e = e
  by false e = let no : true ≡ false = ap not (sym e) ∙ none in cc

parted-cling : (c next : ℕ) → is_parted c next ≡ true → (clings c ≡ true) × (clings next ≡ true)
parted-cling c next h = by (is_ascii_digit c && is_chinese_digit next) refl h where
  by : (b : Bool) → (is_ascii_digit c && is_chinese_digit next) ≡ b
      → (b || (is_chinese_digit c && is_ascii_digit next)) ≡ true
      → (clings c ≡ true) × (clings next ≡ true)
  by true e h = (
    clings-ascii c (and-left (is_ascii_digit c) _ e),
    clings-chinese next (and-right (is_ascii_digit c) _ e),
  )
  by false e h = (
    clings-chinese c (and-left (is_chinese_digit c) _ h),
    clings-ascii next (and-right (is_chinese_digit c) _ h),
  )

-- a number that a text on one side continues does not stand alone
on-before : (before after : List ℕ) → goes_on (reverse before) ≡ true
    → stands_alone before after ≡ false
on-before before after e = ap (λ b. not b && not (goes_on after)) e

on-after : (before after : List ℕ) → goes_on after ≡ true → stands_alone before after ≡ false
on-after before after e =
    ap (λ b. not (goes_on (reverse before)) && not b) e ∙ and-false (not (goes_on (reverse before)))

near-clings : (c : ℕ) (others : List ℕ) → clings c ≡ true → goes_on (c ∷ others) ≡ true
near-clings c others e = rw e

near-links : (c far : ℕ) (others : List ℕ) → is_link c ≡ true
    → (clings far || is_some (rank_of far)) ≡ true → goes_on (c ∷ far ∷ others) ≡ true
near-links c far others link leads =
    rw (link, leads) (or-true (clings c))

-- a run of a text by its characters
pub record Placed (wanted : Wanted) (text : List ℕ) (span : Span) : Type 0 where
  pub left : List ℕ
  pub first : ℕ
  pub others : List ℕ
  pub right : List ℕ
  pub parts : text ≡ left ++ ((first ∷ others) ++ right)
  pub each : each_belongs (number_rule wanted) (reverse left) (first ∷ others) right ≡ true
  pub begins : belongs wanted first (others ++ right) ≡ true
  pub ends : Ends wanted (first ∷ others) right
  pub left_chars : scalars left ≡ true
  pub run_chars : scalars (left ++ first ∷ others) ≡ true
  pub before : span.before ≡ encode_utf8_all left
  pub front : span.before ++ span.text ≡ encode_utf8_all (left ++ first ∷ others)
  pub run_is : chars span.text ≡ first ∷ others
  pub after : chars span.after ≡ right

placed : (wanted : Wanted) (bytes : List ℕ) (span : Span) → IsUtf8 bytes
    → Contains (spans wanted bytes) span → Placed wanted (chars bytes) span
placed wanted bytes span whole found =
    let r = span-is_run wanted bytes span found in
    by r.run r.some r.each r.apart_after r.parts r.text_is where
      r : IsRun wanted (chars bytes) span
      r = span-is_run wanted bytes span found

      by : (run : List ℕ) → run ≢ []
          → each_belongs (number_rule wanted) (reverse r.left) run r.right ≡ true
          → last_joined (number_rule wanted) false (reverse r.left) run r.right ≡ false
          → chars bytes ≡ r.left ++ (run ++ r.right) → span.text ≡ encode_utf8_all run
          → Placed wanted (chars bytes) span
      by [] some each apart parts text_is = absurd (some refl)
      by (c ∷ run) some each apart parts text_is =
          let all : scalars (r.left ++ (c ∷ run ++ r.right)) ≡ true =
          ap scalars (sym parts) ∙ scalars-chars bytes whole in
          let ended : scalars r.right ≡ true =
          scalars-end (c ∷ run) r.right (scalars-end r.left (c ∷ run ++ r.right) all) in
          record {
            left = r.left;
            first = c;
            others = run;
            right = r.right;
            parts = parts;
            each = each;
            begins = and-left (belongs wanted c (run ++ r.right)) _ each;
            ends = ends wanted false (reverse r.left) c run r.right each apart;
            left_chars = scalars-start r.left (c ∷ run ++ r.right) all;
            run_chars =
                scalars-start (r.left ++ c ∷ run) r.right
                (ap scalars (append_assoc r.left (c ∷ run) r.right) ∙ all);
            before = r.before_is;
            front =
                ap (λ l. l ++ span.text) r.before_is
                ∙ ap (λ l. encode_utf8_all r.left ++ l) text_is
                ∙ sym (encodes-append r.left (c ∷ run));
            run_is = ap chars text_is ∙ chars-encodes (c ∷ run)
                (scalars-start (c ∷ run) r.right (scalars-end r.left (c ∷ run ++ r.right) all));
            after = ap chars r.after_is ∙ chars-encodes r.right ended;
          }

-- the characters before the second run, split before the last character of the first
last-before : (wanted : Wanted) (text : List ℕ) (first : Span) (link : List ℕ)
    → (p : Placed wanted text first)
    → p.left ++ p.first ∷ p.others ++ link
    ≡ p.left ++ p.ends.front ++ p.ends.last ∷ link
last-before wanted text first link p =
    ap (λ l. p.left ++ l ++ link) p.ends.parts
    ∙ ap (λ l. l ++ link) (sym (append_assoc p.left p.ends.front (p.ends.last ∷ [])))
    ∙ append_assoc (p.left ++ p.ends.front) (p.ends.last ∷ []) link

-- two runs with the characters `link` between them do not stand alone if each of the two goes on
-- with these
met : (wanted : Wanted) (text : List ℕ) (first second : Span) (link : List ℕ)
    (p : Placed wanted text first) (q : Placed wanted text second) → scalars link ≡ true
    → second.before ≡ first.before ++ first.text ++ encode_utf8_all link
    → (p.right ≡ link ++ (q.first ∷ (q.others ++ q.right))
    → (goes_on (link ++ (q.first ∷ (q.others ++ q.right))) ≡ true)
    × (goes_on (reverse (p.ends.last ∷ link) ++ reverse (p.left ++ p.ends.front)) ≡ true))
    → (is_alone first ≡ false) × (is_alone second ≡ false)
met wanted text first second link p q is_text e on = (
  on-after (chars first.before) (chars first.after) (ap goes_on (p.after ∙ right) ∙ (on right).0),
  on-before (chars second.before) (chars second.after)
      (ap (λ l. goes_on (reverse l)) (ap chars q.before ∙ chars-encodes q.left q.left_chars ∙ left
      ∙ last-before wanted text first link p)
      ∙ ap goes_on (reverse-append (p.left ++ p.ends.front) (p.ends.last ∷ link)) ∙ (on right).1),
) where
  left : q.left ≡ p.left ++ p.first ∷ p.others ++ link
  left =
      sym (chars-encodes q.left q.left_chars)
      ∙ ap chars (sym q.before ∙ e ∙ ap (λ l. l ++ encode_utf8_all link) p.front
      ∙ sym (encodes-append (p.left ++ p.first ∷ p.others) link))
      ∙ chars-encodes (p.left ++ p.first ∷ p.others ++ link)
      (scalars-both (p.left ++ p.first ∷ p.others) link p.run_chars is_text)

  right : p.right ≡ link ++ (q.first ∷ (q.others ++ q.right))
  right =
      append_cancel_left (p.left ++ p.first ∷ p.others) p.right
      (link ++ (q.first ∷ (q.others ++ q.right)))
      (append_assoc p.left (p.first ∷ p.others) p.right ∙ sym p.parts ∙ q.parts
      ∙ ap (λ l. l ++ (q.first ∷ (q.others ++ q.right))) left
      ∙ append_assoc (p.left ++ p.first ∷ p.others) link (q.first ∷ (q.others ++ q.right)))

touching : (wanted : Wanted) (text : List ℕ) (first second : Span)
    → Placed wanted text first → Placed wanted text second
    → second.before ≡ first.before ++ first.text
    → (is_alone first ≡ false) × (is_alone second ≡ false)
touching wanted text first second p q e =
    met wanted text first second [] p q refl (e ∙ sym (append-nil (first.before ++ first.text)))
    (λ right.
    let both = parted-cling p.ends.last q.first
    (touched wanted p.ends.at p.ends.last q.first (q.others ++ q.right)
    (ap (belongs wanted p.ends.last) (sym right) ∙ p.ends.numeral) q.begins
    (ap (is_joined (number_rule wanted) p.ends.at p.ends.last) (sym right) ∙ p.ends.apart)) in (
      near-clings q.first (q.others ++ q.right) both.1,
      near-clings p.ends.last (reverse (p.left ++ p.ends.front)) both.0,
    ))

link-scalar : (c : ℕ) → is_link c ≡ true → scalar c ≡ true
unfolding is_link
link-scalar c h = inside scalar (codes ".,-点點") c refl h

linking : (wanted : Wanted) (text : List ℕ) (first second : Span) (c : ℕ)
    → Placed wanted text first → Placed wanted text second → is_link c ≡ true
    → second.before ≡ first.before ++ first.text ++ encode_utf8 c
    → (is_alone first ≡ false) × (is_alone second ≡ false)
linking wanted text first second c p q link e =
    met wanted text first second (c ∷ []) p q (ap (λ b. b && true) (link-scalar c link))
    (e ∙ ap (λ l. first.before ++ first.text ++ l) (sym (append-nil (encode_utf8 c)))) (λ right. (
      near-links c q.first (q.others ++ q.right) link
          (linked wanted q.first (q.others ++ q.right) q.begins),
      near-links c p.ends.last (reverse (p.left ++ p.ends.front)) link
          (linked wanted p.ends.last p.right p.ends.numeral),
    ))

pub meeting : (wanted : Wanted) (bytes : List ℕ) (first second : Span) → IsUtf8 bytes
    → Contains (spans wanted bytes) first → Contains (spans wanted bytes) second
    → Meet first second → (is_alone first ≡ false) × (is_alone second ≡ false)
meeting wanted bytes first second whole here there meet = elim meet [
  | inl touch ↦ touching wanted (chars bytes) first second
      (placed wanted bytes first whole here) (placed wanted bytes second whole there) touch
  | inr link ↦ linking wanted (chars bytes) first second link.0
      (placed wanted bytes first whole here) (placed wanted bytes second whole there)
      (search (rules, link.1)) link.2
]

-- the last character of a run is not a 兆 that means mega
last-numeral : (wanted : Wanted) (at front : List ℕ) (c : ℕ) (right : List ℕ)
    → each_belongs (number_rule wanted) at (front ++ c ∷ []) right ≡ true
    → belongs wanted c right ≡ true
last-numeral wanted at [] c right each = and-left (belongs wanted c right) _ each
last-numeral wanted at (d ∷ front) c right each =
    last-numeral wanted (d ∷ at) front c right
    (and-right (belongs wanted d (front ++ c ∷ [] ++ right)) _ each)

pub no-mega : (wanted : Wanted) (bytes : List ℕ) (span : Span) (front : List ℕ) (c : ℕ)
    → IsUtf8 bytes → Contains (spans wanted bytes) span → chars span.text ≡ front ++ c ∷ []
    → is_mega c (chars span.after) ≡ false
no-mega wanted bytes span front c whole found e =
    ap (is_mega c) r.after
    ∙ not-true _ (and-right (is_wanted wanted c) _ (belongs-numeral wanted c r.right numeral)) where
      r : Placed wanted (chars bytes) span
      r = placed wanted bytes span whole found

      numeral : belongs wanted c r.right ≡ true
      numeral = last-numeral wanted (reverse r.left) front c r.right
          (ap (λ l. each_belongs (number_rule wanted) (reverse r.left) l r.right) (sym e ∙ r.run_is) ∙ r.each)
