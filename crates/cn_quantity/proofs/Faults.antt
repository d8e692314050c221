-- The reasons for refusals, from the answers.
use Rattle.std.proofs.Common.{◌≡◌, ℕ, ◌+◌, true, false, nat_lt, ◌++◌, List, length, chars, reverse, Option, Some, None, Result, Ok, Err, refl, sym, ap, ◌∙◌, zero-add}
use Rattle.std.proofs.lemmas.List.{append_cancel_right}
use Rattle.std.specs.Option.{option_or}
use Rattle.cn_core.specs.declared.method.ChineseCountMethod.{ChineseCountMethod}
use Rattle.cn_core.specs.CharIndex.{char_index_of}
use Rattle.cn_core.specs.Mark.{Mark, mark_of}
use Rattle.cn_core.specs.Refusal.{Refusal, empty, incorrect_at, too_large, too_small}
use Rattle.cn_core.specs.Text.{text_of, marks_of}
use Rattle.cn_judge.specs.Piece.{answer_at}
use Rattle.cn_judge.specs.Reason.{reason_of, rule_broken_at}
use Rattle.cn_judge.proofs.Cutting.{rule-at_place}
use Rattle.cn_quantity.specs.declared.fault.QuantityFault.{QuantityFault}
use Rattle.cn_quantity.specs.declared.fault.QuantityFault.TheVariants.{Misread, Numeral}
use Rattle.cn_quantity.specs.declared.misread.Before.{Before}
use Rattle.cn_quantity.specs.declared.misread.MisreadFault.{MisreadFault}
use Rattle.cn_quantity.specs.Misread.{bare_ten_between, first_misread, is_unit, is_zero}
use Rattle.cn_quantity.specs.Private.{BeginsWith, SplitsAtMisread, marks_before}
use Rattle.cn_quantity.specs.Reason.{fault_in, is_later, misread_fault, misread_rule, misread_rule_between, numeral_fault, placeless_fault, refused_fault, sum_fault}
use Rattle.cn_quantity.specs.WholeNumber.{reader_answer}
use Rattle.cn_quantity.proofs.Ends.{text-parts}
use Rattle.cn_quantity.proofs.Misreads.{IsPassed, begins-nearest, near-bare, near-weighs, nearest, two-nearest}
use Rattle.cn_quantity.proofs.WholeNumbers.{bare-between, later-same, reader-low}

-- the reason in the refusal of a reader of numerals
pub numeral-fault : (bytes : List ℕ) (refusal : Refusal) (answer : Result ℕ Refusal)
    → Err refusal ≡ answer_at 0 bytes answer
    → Some (Numeral (reason_of (rule_broken_at bytes) refusal))
    ≡ numeral_fault (text_of bytes) answer
numeral-fault bytes refusal (Ok number) h = cc
numeral-fault bytes refusal (Err empty) h =
    let same : refusal ≡ empty = cc in
    ap (λ r. Some (Numeral (reason_of (rule_broken_at bytes) r))) same
numeral-fault bytes refusal (Err too_large) h =
    let same : refusal ≡ too_large = cc in
    ap (λ r. Some (Numeral (reason_of (rule_broken_at bytes) r))) same
numeral-fault bytes refusal (Err too_small) h =
    let same : refusal ≡ too_small = cc in
    ap (λ r. Some (Numeral (reason_of (rule_broken_at bytes) r))) same
numeral-fault bytes refusal (Err (incorrect_at place)) h =
    let same : refusal ≡ incorrect_at (0 + char_index_of bytes place) = cc in
    ap (λ r. Some (Numeral (reason_of (rule_broken_at bytes) r))) same
    ∙ ap (λ n. Some (Numeral (rule_broken_at bytes n))) (zero-add (char_index_of bytes place))
    ∙ ap (λ rule. Some (Numeral rule)) (rule-at_place bytes place)

-- an answer to a piece of a string has the reason of the answer to its text
pub no-fault : {T : Type 0} (skipped : ℕ) (bytes : List ℕ) (value : T) (answer : Result T Refusal)
    (fault : Option QuantityFault) → Ok value ≡ answer_at skipped bytes answer
    → None ≡ fault_in answer fault
no-fault skipped bytes value (Ok v) fault h = refl
no-fault skipped bytes value (Err empty) fault h = cc
no-fault skipped bytes value (Err too_large) fault h = cc
no-fault skipped bytes value (Err too_small) fault h = cc
no-fault skipped bytes value (Err (incorrect_at place)) fault h = cc

fault-told : {T : Type 0} (skipped : ℕ) (bytes : List ℕ) (refusal : Refusal)
    (answer : Result T Refusal) (fault : Option QuantityFault)
    → Err refusal ≡ answer_at skipped bytes answer
    → option_or (placeless_fault refusal) fault ≡ fault_in answer fault
fault-told skipped bytes refusal (Ok v) fault h = cc
fault-told skipped bytes refusal (Err empty) fault h =
    let same : refusal ≡ empty = cc in ap (λ r. option_or (placeless_fault r) fault) same
fault-told skipped bytes refusal (Err too_large) fault h =
    let same : refusal ≡ too_large = cc in ap (λ r. option_or (placeless_fault r) fault) same
fault-told skipped bytes refusal (Err too_small) fault h =
    let same : refusal ≡ too_small = cc in ap (λ r. option_or (placeless_fault r) fault) same
fault-told skipped bytes refusal (Err (incorrect_at place)) fault h =
    let same : refusal ≡ incorrect_at (skipped + char_index_of bytes place) = cc in
    ap (λ r. option_or (placeless_fault r) fault) same

pub fault-placeless : {T : Type 0} (skipped : ℕ) (bytes : List ℕ) (refusal : Refusal)
    (answer : Result T Refusal) (found : QuantityFault) (fault : Option QuantityFault)
    → Err refusal ≡ answer_at skipped bytes answer → Some found ≡ placeless_fault refusal
    → Some found ≡ fault_in answer fault
fault-placeless skipped bytes refusal answer found fault h is =
    ap (λ first. option_or first fault) is ∙ fault-told skipped bytes refusal answer fault h

pub fault-placed : {T : Type 0} (skipped : ℕ) (bytes : List ℕ) (refusal : Refusal)
    (answer : Result T Refusal) (result fault : Option QuantityFault)
    → Err refusal ≡ answer_at skipped bytes answer → None ≡ placeless_fault refusal
    → result ≡ fault → result ≡ fault_in answer fault
fault-placed skipped bytes refusal answer result fault h is same =
    same ∙ ap (λ first. option_or first fault) is
    ∙ fault-told skipped bytes refusal answer fault h

-- the reason of the third of three answers
pub third-fault : (first second third result : Option QuantityFault) → None ≡ first
    → None ≡ second → result ≡ third → result ≡ option_or first (option_or second third)
third-fault first second third result one two same = rw (← one, ← two) same

-- the three marks nearest to a character tell its rule
near-rule : (front : List Mark) (c : ℕ) (after : List ℕ)
    → misread_rule (nearest front) c after ≡ misread_rule front c after
near-rule front c after =
    let bare = near-bare front (mark_of c) in
    let ten = begins-nearest (is_unit 1) front refl in
    let zero = begins-nearest is_zero front refl in
    let weight = near-weighs front (marks_of after) in
    let two = two-nearest front (mark_of c) in
    cc

pub rule-between : (bytes rest after front : List ℕ) (before : Before) (c : ℕ)
    → IsPassed bytes rest before → BeginsWith rest c after → chars bytes ≡ chars front ++ chars rest
    → misread_rule (marks_before before) c (text_of after)
    ≡ misread_rule_between (text_of front) (text_of rest)
rule-between bytes rest after front before c p b parts =
    ap (λ l. misread_rule l c (text_of after)) p.near
    ∙ near-rule (marks_of (reverse p.seen)) c (text_of after)
    ∙ ap (λ l. misread_rule (marks_of (reverse l)) c (text_of after)) (sym same)
    ∙ ap (misread_rule_between (text_of front)) (sym b.text) where
      same : text_of front ≡ p.seen
      same = append_cancel_right (text_of front) p.seen (text_of rest)
          (sym (text-parts bytes front rest parts) ∙ p.text)

-- what the readers of numerals read has a misread character
pub misread-alone : (bytes : List ℕ) (place number : ℕ) (rule : MisreadFault)
    (answer : Result ℕ Refusal) → Ok number ≡ answer_at 0 bytes answer
    → Some (Misread rule) ≡ refused_fault (text_of bytes) answer place rule
misread-alone bytes place number rule (Ok value) h = refl
misread-alone bytes place number rule (Err empty) h = cc
misread-alone bytes place number rule (Err too_large) h = cc
misread-alone bytes place number rule (Err too_small) h = cc
misread-alone bytes place number rule (Err (incorrect_at p)) h = cc

-- they refuse the text at a later place
pub numeral-later : (method : ChineseCountMethod) (bytes : List ℕ) (place : ℕ) (refusal : Refusal)
    (rule : MisreadFault) → Err refusal ≡ answer_at 0 bytes (reader_answer method (text_of bytes))
    → is_later refusal (incorrect_at (0 + char_index_of bytes place)) ≡ true
    → Some (Numeral (reason_of (rule_broken_at bytes) refusal))
    ≡ refused_fault (text_of bytes) (reader_answer method (text_of bytes)) place rule
numeral-later method bytes place refusal rule h later =
    by (reader_answer method (text_of bytes)) refl h where
      by : (answer : Result ℕ Refusal) → reader_answer method (text_of bytes) ≡ answer
          → Err refusal ≡ answer_at 0 bytes answer
          → Some (Numeral (reason_of (rule_broken_at bytes) refusal))
          ≡ refused_fault (text_of bytes) answer place rule
      by (Ok number) is h = cc
      by (Err empty) is h = numeral-fault bytes refusal (Err empty) h
      by (Err too_large) is h = numeral-fault bytes refusal (Err too_large) h
      by (Err too_small) is h = numeral-fault bytes refusal (Err too_small) h
      by (Err (incorrect_at p)) is h =
          let same : refusal ≡ incorrect_at (0 + char_index_of bytes p) = cc in
          let low = reader-low method (text_of bytes) p is in
          let yes : nat_lt place p ≡ true =
          sym (later-same 0 bytes place p low)
          ∙ ap (λ r. is_later r (incorrect_at (0 + char_index_of bytes place))) (sym same) ∙ later in
          rw yes (numeral-fault bytes refusal (Err (incorrect_at p)) h)

-- or they do not
pub misread-later : (method : ChineseCountMethod) (bytes : List ℕ) (place : ℕ) (refusal : Refusal)
    (rule : MisreadFault) → Err refusal ≡ answer_at 0 bytes (reader_answer method (text_of bytes))
    → is_later refusal (incorrect_at (0 + char_index_of bytes place)) ≡ false
    → Some (Misread rule)
    ≡ refused_fault (text_of bytes) (reader_answer method (text_of bytes)) place rule
misread-later method bytes place refusal rule h later =
    by (reader_answer method (text_of bytes)) refl h where
      other : (r : Refusal) → refusal ≡ r
          → is_later r (incorrect_at (0 + char_index_of bytes place)) ≡ false
      other r same =
          ap (λ r. is_later r (incorrect_at (0 + char_index_of bytes place))) (sym same) ∙ later

      by : (answer : Result ℕ Refusal) → reader_answer method (text_of bytes) ≡ answer
          → Err refusal ≡ answer_at 0 bytes answer
          → Some (Misread rule) ≡ refused_fault (text_of bytes) answer place rule
      by (Ok number) is h = refl
      by (Err empty) is h =
          let same : refusal ≡ empty = cc in let no = other empty same in absurd (cc)
      by (Err too_large) is h =
          let same : refusal ≡ too_large = cc in let no = other too_large same in absurd (cc)
      by (Err too_small) is h =
          let same : refusal ≡ too_small = cc in let no = other too_small same in absurd (cc)
      by (Err (incorrect_at p)) is h =
          let same : refusal ≡ incorrect_at (0 + char_index_of bytes p) = cc in
          let low = reader-low method (text_of bytes) p is in
          let no : nat_lt place p ≡ false =
          sym (later-same 0 bytes place p low)
          ∙ other (incorrect_at (0 + char_index_of bytes p)) same in
          rw no refl

-- the reason of a misread text that has no sum
pub refused-fault : (method : ChineseCountMethod) (bytes before from : List ℕ) (bare : Option ℕ)
    (rule : MisreadFault) (result : Option QuantityFault) → SplitsAtMisread bytes before from bare
    → bare_ten_between (text_of before) (text_of from) ≡ None
    → rule ≡ misread_rule_between (text_of before) (text_of from)
    → result ≡ refused_fault (text_of bytes) (reader_answer method (text_of bytes))
    (length (text_of before)) rule
    → result ≡ misread_fault method (text_of before) (text_of from)
refused-fault method bytes before from bare rule result s none rule_is is =
    let parts = text-parts bytes before from s.parts in
    let whole = rw (parts, rule_is) at is in rw none whole

-- and of one that has two parts to add
pub summed-fault : (method : ChineseCountMethod) (rank : ℕ) (bytes before from : List ℕ)
    (bare : Option ℕ) (result : Option QuantityFault) → SplitsAtMisread bytes before from bare
    → bare ≡ Some rank → first_misread (text_of from) ≡ None
    → result ≡ sum_fault method rank (text_of before) (text_of from)
    → result ≡ misread_fault method (text_of before) (text_of from)
summed-fault method rank bytes before from bare result s some none is =
    let between : bare_ten_between (text_of before) (text_of from) ≡ Some rank =
    bare-between (text_of before) (text_of from) s.first s.after s.from_is none
    ∙ sym s.bare_is ∙ some in
    rw between is
