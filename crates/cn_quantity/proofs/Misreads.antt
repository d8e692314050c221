-- The search for the first misread character of a text.
use Rattle.std.proofs.Common.{◌≡◌, ℕ, Bool, true, false, ◌&&◌, ◌||◌, nat_le, List, [], ◌∷◌, ◌++◌, length, chars, drop, reverse, Option, Some, None, refl, sym, ap, ap₂, ◌∙◌, append_assoc, if◌then◌else◌}
use Rattle.std.proofs.lemmas.List.{append_cancel_right, length-reverse, reverse-append}
use Rattle.cn_core.specs.Mark.{Mark, digit, unit, other, mark_of}
use Rattle.cn_core.specs.Text.{marks_of, text_of}
use Rattle.cn_judge.specs.Marked.{marked}
use Rattle.cn_judge.specs.declared.mark.Mark.{Mark as ReadMark}
use Rattle.cn_judge.specs.declared.mark.Mark.TheVariants.{Other}
use Rattle.cn_quantity.specs.declared.misread.Before.{Before}
use Rattle.cn_quantity.specs.Misread.{bare_ten, begins, counts_after_smaller, first_misread, has_two_readings, is_digit, is_liang, is_unit, is_unit_from, is_zero, is_misread_at, is_misread_mark, misread_after, unit_before_ten, weighs}
use Rattle.cn_quantity.specs.Private.{BeginsWith, IsEnd, SplitsAtMisread, marks_before}
use Rattle.cn_quantity.proofs.Ends.{IsEnd-all, IsEnd-end, text-parts}

-- the three nearest marks; a missing one is neither a digit nor a unit
abbrev pub nearest : List Mark → List Mark
nearest [] = other ∷ other ∷ other ∷ []
nearest (a ∷ []) = a ∷ other ∷ other ∷ []
nearest (a ∷ b ∷ []) = a ∷ b ∷ other ∷ []
nearest (a ∷ b ∷ d ∷ more) = a ∷ b ∷ d ∷ []

-- only these decide
pub bare-same : (a b : Mark) (more others : List Mark)
    → unit_before_ten (a ∷ b ∷ more) ≡ unit_before_ten (a ∷ b ∷ others)
bare-same (digit v) (digit w) more others = refl
bare-same (digit v) (unit r) more others = refl
bare-same (digit v) other more others = refl
bare-same (unit r) b more others = refl
bare-same other b more others = refl

bare-nearest : (front : List Mark) → unit_before_ten (nearest front) ≡ unit_before_ten front
bare-nearest [] = refl
bare-nearest (digit v ∷ []) = refl
bare-nearest (unit r ∷ []) = refl
bare-nearest (other ∷ []) = refl
bare-nearest (a ∷ b ∷ []) = bare-same a b (other ∷ []) []
bare-nearest (a ∷ b ∷ d ∷ more) = bare-same a b (d ∷ []) (d ∷ more)

pub near-bare : (front : List Mark) (mark : Mark) → bare_ten (nearest front) mark ≡ bare_ten front mark
near-bare front mark = ap (λ o. if is_unit 1 mark then o else None) (bare-nearest front)

pub counted-same : (rank : ℕ) (a b : Mark) (more others : List Mark)
    → counts_after_smaller rank (a ∷ b ∷ more) ≡ counts_after_smaller rank (a ∷ b ∷ others)
counted-same rank (digit v) (digit w) more others = refl
counted-same rank (digit v) (unit r) more others = refl
counted-same rank (digit v) other more others = refl
counted-same rank (unit r) b more others = refl
counted-same rank other b more others = refl

counted-one : (rank : ℕ) (a : Mark) (more : List Mark)
    → counts_after_smaller rank (a ∷ other ∷ more) ≡ counts_after_smaller rank (a ∷ [])
counted-one rank (digit v) more = refl
counted-one rank (unit r) more = refl
counted-one rank other more = refl

counted-nearest : (rank : ℕ) (front : List Mark)
    → (counts_after_smaller rank (nearest front)
    || (begins (is_unit 0) (nearest front) && counts_after_smaller rank (drop 1 (nearest front))))
    ≡ (counts_after_smaller rank front
    || (begins (is_unit 0) front && counts_after_smaller rank (drop 1 front)))
counted-nearest rank [] = refl
counted-nearest rank (a ∷ []) = ap (λ b. b || (is_unit 0 a && false)) (counted-one rank a (other ∷ []))
counted-nearest rank (a ∷ b ∷ []) =
    ap₂ (λ c d. c || (is_unit 0 a && d)) (counted-same rank a b (other ∷ []) [])
    (counted-one rank b [])
counted-nearest rank (a ∷ b ∷ d ∷ more) =
    ap₂ (λ c e. c || (is_unit 0 a && e)) (counted-same rank a b (d ∷ []) (d ∷ more))
    (counted-same rank b d [] more)

pub begins-nearest : (test : Mark → Bool) (front : List Mark) → test other ≡ false
    → begins test (nearest front) ≡ begins test front
begins-nearest test [] none = none
begins-nearest test (a ∷ []) none = refl
begins-nearest test (a ∷ b ∷ []) none = refl
begins-nearest test (a ∷ b ∷ d ∷ more) none = refl

pub two-nearest : (front : List Mark) (mark : Mark)
    → has_two_readings (nearest front) mark ≡ has_two_readings front mark
two-nearest front (digit v) = refl
two-nearest front other = refl
two-nearest front (unit rank) = ap (λ b. nat_le 4 rank && b) (counted-nearest rank front)

near-misread : (front : List Mark) (mark : Mark) (after : List Mark)
    → is_misread_mark (nearest front) mark after ≡ is_misread_mark front mark after
near-misread front mark after =
    let bare = near-bare front mark in
    let ten = begins-nearest (is_unit 1) front refl in
    let zero = begins-nearest is_zero front refl in
    let two = two-nearest front mark in
    let great = begins-nearest (is_unit_from 5) front refl in
    cc

pub near-weighs : (front after : List Mark) → weighs (nearest front) after ≡ weighs front after
near-weighs front after =
    let digit = begins-nearest is_digit front refl in
    let unit = begins-nearest (is_unit_from 1) front refl in
    cc

-- one more character
nearest-more : (front : List Mark) (mark : Mark) (before : Before) (now : ReadMark)
    → marks_before before ≡ nearest front → marked now ≡ mark
    → marks_before (record { first = now; second = before.first; third = before.second })
    ≡ nearest (mark ∷ front)
nearest-more [] mark before now near is = cc
nearest-more (a ∷ []) mark before now near is = cc
nearest-more (a ∷ b ∷ []) mark before now near is = cc
nearest-more (a ∷ b ∷ d ∷ more) mark before now near is = cc

-- no character before this suffix is misread
pub record IsPassed (bytes rest : List ℕ) (before : Before) : Type 0 where
  pub end : IsEnd bytes rest
  pub seen : List ℕ
  pub text : text_of bytes ≡ seen ++ text_of rest
  pub same : first_misread (text_of bytes) ≡ misread_after (reverse seen) (text_of rest)
  pub near : marks_before before ≡ nearest (marks_of (reverse seen))

pub IsPassed-none : (bytes : List ℕ)
    → IsPassed bytes bytes (record { first = Other; second = Other; third = Other })
IsPassed-none bytes =
    record { end = IsEnd-all bytes; seen = []; text = refl; same = refl; near = refl }

-- a condition on the marks nearest to a character is one on all marks before it
asked : (front : List ℕ) (before : Before) (c : ℕ) (after : List ℕ)
    → marks_before before ≡ nearest (marks_of front)
    → (is_misread_mark (marks_before before) (mark_of c) (marks_of after)
    || (is_liang c && weighs (marks_before before) (marks_of after))) ≡ is_misread_at front c after
asked front before c after near =
    ap₂ (λ m w. m || (is_liang c && w))
    (ap (λ l. is_misread_mark l (mark_of c) (marks_of after)) near
    ∙ near-misread (marks_of front) (mark_of c) (marks_of after))
    (ap (λ l. weighs l (marks_of after)) near ∙ near-weighs (marks_of front) (marks_of after))

-- the next character is misread, or it is not
misread-here : (front after : List ℕ) (c : ℕ) → is_misread_at front c after ≡ true
    → misread_after front (c ∷ after) ≡ Some (length front)
misread-here front after c is = rw is

misread-later : (front after : List ℕ) (c : ℕ) → is_misread_at front c after ≡ false
    → misread_after front (c ∷ after) ≡ misread_after (c ∷ front) after
misread-later front after c is = rw is

pub IsPassed-more : (bytes rest after : List ℕ) (before : Before) (now : ReadMark) (c : ℕ)
    (misread : Bool) → IsPassed bytes rest before → BeginsWith rest c after → marked now ≡ mark_of c
    → misread ≡ (is_misread_mark (marks_before before) (mark_of c) (marks_of (text_of after))
    || (is_liang c && weighs (marks_before before) (marks_of (text_of after))))
    → misread ≡ false
    → IsPassed bytes after (record { first = now; second = before.first; third = before.second })
IsPassed-more bytes rest after before now c misread p b mark is none = record {
  end = IsEnd-end bytes rest after p.end b.end;
  seen = p.seen ++ c ∷ [];
  text = p.text ∙ ap (λ l. p.seen ++ l) b.text ∙ sym (append_assoc p.seen (c ∷ []) (text_of after));
  same = p.same ∙ ap (misread_after (reverse p.seen)) b.text
      ∙ misread-later (reverse p.seen) (text_of after) c
      (sym (asked (reverse p.seen) before c (text_of after) p.near) ∙ sym is ∙ none)
      ∙ ap (λ l. misread_after l (text_of after)) back;
  near = nearest-more (marks_of (reverse p.seen)) (mark_of c) before now p.near mark
      ∙ ap (λ l. nearest (marks_of l)) back;
} where
  back : c ∷ reverse p.seen ≡ reverse (p.seen ++ c ∷ [])
  back = sym (reverse-append p.seen (c ∷ []))

pub SplitsAtMisread-at : (bytes rest after front : List ℕ) (before : Before) (now : ReadMark)
    (c : ℕ) (misread : Bool) (bare : Option ℕ)
    → IsPassed bytes rest before → BeginsWith rest c after → marked now ≡ mark_of c
    → misread ≡ (is_misread_mark (marks_before before) (mark_of c) (marks_of (text_of after))
    || (is_liang c && weighs (marks_before before) (marks_of (text_of after))))
    → misread ≡ true → chars bytes ≡ chars front ++ chars rest
    → bare ≡ bare_ten (marks_before before) (marked now) → SplitsAtMisread bytes front rest bare
SplitsAtMisread-at bytes rest after front before now c misread bare p b mark is here parts bare_is =
    record {
      first = c;
      after = text_of after;
      place = p.same ∙ ap (misread_after (reverse p.seen)) b.text
          ∙ misread-here (reverse p.seen) (text_of after) c
          (sym (asked (reverse p.seen) before c (text_of after) p.near) ∙ sym is ∙ here)
          ∙ ap Some (length-reverse p.seen ∙ ap length (sym same));
      parts = parts;
      from_is = b.text;
      bare_is = bare_is ∙ ap₂ bare_ten p.near mark
          ∙ near-bare (marks_of (reverse p.seen)) (mark_of c)
          ∙ ap (λ l. bare_ten (marks_of (reverse l)) (mark_of c)) (sym same);
    } where
      same : text_of front ≡ p.seen
      same = append_cancel_right (text_of front) p.seen (text_of rest)
          (sym (text-parts bytes front rest parts) ∙ p.text)

pub none-misread : (bytes rest : List ℕ) (before : Before) → IsPassed bytes rest before
    → text_of rest ≡ [] → first_misread (text_of bytes) ≡ None
none-misread bytes rest before p none = p.same ∙ ap (misread_after (reverse p.seen)) none
