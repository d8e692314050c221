-- Reading plain digits from left to right.
use Rattle.std.proofs.Common.{Bool, chars, ◌≡◌, ℕ, zero, suc, ◌+◌, ◌*◌, ◌^◌, ◌<◌, ◌≤◌, true, false, nat_le, List, [], ◌∷◌, ◌++◌, length, take, drop, Some, None, Err, refl, sym, ap, ◌∙◌, arith, add-one, ◌≢◌, length-drop, ◌==◌}
use Rattle.std.proofs.lemmas.Bool.Decides.{nat_tests}
use Rattle.std.proofs.lemmas.List.Sums.{fold-append}
use Rattle.std.specs.Option.{option_or}
use Rattle.cn_core.specs.Mark.{Mark, digit, unit, other, mark_of}
use Rattle.cn_core.specs.Text.{text_of, marks_of}
use Rattle.cn_core.specs.Naive.{naive_answer, first_fault, fault_at, decimal_value, digit_value, refused_or}
use Rattle.cn_core.specs.CharIndex.{char_index_of}
use Rattle.cn_judge.specs.Piece.{StandsAt, answer_at}
use Rattle.cn_judge.proofs.Pieces.{StandsAt-white, StandsAt-dark, char_index-at}
use Rattle.cn_judge.proofs.Walking.{digit-dark}
use Rattle.std.specs.Char.{is_whitespace}
use Rattle.cn_core.specs.Refusal.{Refusal, incorrect_at, too_large}

-- one more mark is read
taken : (place : ℕ) (marks rest : List Mark) (mark : Mark) → drop place marks ≡ mark ∷ rest
    → (take (suc place) marks ≡ take place marks ++ mark ∷ []) × (drop (suc place) marks ≡ rest)
taken zero [] rest mark h = cc
taken (suc place) [] rest mark h = cc
taken zero (m ∷ ms) rest mark h = (cc, cc)
taken (suc place) (m ∷ ms) rest mark h = let t =
    taken place ms rest mark h in (ap (λ l. m ∷ l) t.0, t.1)

value_taken : (place : ℕ) (marks rest : List Mark) (value number : ℕ)
    → drop place marks ≡ digit value ∷ rest → number ≡ decimal_value (take place marks)
    → decimal_value (take (place + 1) marks) ≡ number * 10 + value
value_taken place marks rest value number h n =
    rw (
      add-one,
      (taken place marks rest (digit value) h).0,
      fold-append (λ number mark. number * 10 + digit_value mark) 0 (take place marks)
          (digit value ∷ []),
      ← n,
    )

ahead_within : (place : ℕ) (marks rest : List Mark) (mark : Mark) → drop place marks ≡ mark ∷ rest
    → place + 1 ≤ length marks
ahead_within place marks rest mark h = let size : length (drop place marks) ≡ length rest + 1 =
    rw (h, add-one) in omega (arith, size, length-drop place marks)

-- the state after some digits: the marks that are left, and the number of the digits
pub record HasRead (marks rest : List Mark) (place number : ℕ) : Type 0 where
  pub within : place ≤ length marks
  pub ahead : drop place marks ≡ rest
  pub value : number ≡ decimal_value (take place marks)
  pub faults : first_fault marks 0 marks ≡ first_fault marks place rest

fault_small : (marks : List Mark) (place value total : ℕ) → decimal_value (take (place + 1) marks)
    ≡ total → total < 2 ^ 128 → fault_at marks place (digit value) ≡ None
fault_small marks place value total e small = let test : nat_le (2 ^ 128) total ≡ false =
    grind (arith, nat_tests) in rw (e, test)

fault_great : (marks : List Mark) (place value total : ℕ) → decimal_value (take (place + 1) marks)
    ≡ total → 2 ^ 128 ≤ total → fault_at marks place (digit value) ≡ Some too_large
fault_great marks place value total e great = let test : nat_le (2 ^ 128) total ≡ true =
    grind (arith, nat_tests) in rw (e, test)

HasRead-digit : (marks rest : List Mark) (place number value : ℕ)
    → HasRead marks (digit value ∷ rest) place number → number * 10 + value < 2 ^ 128
    → HasRead marks rest (place + 1) (number * 10 + value)
HasRead-digit marks rest place number value read small =
    let total = value_taken place marks rest value number read.ahead read.value in
    record {
      within = ahead_within place marks rest (digit value) read.ahead;
      ahead = rw add-one (taken place marks rest (digit value) read.ahead).1;
      value = sym total;
      faults = read.faults ∙ ap (λ f. option_or f (first_fault marks (place + 1) rest))
          (fault_small marks place value _ total small);
    }

some_marks : (marks : List Mark) (refusal : Refusal) → first_fault marks 0 marks ≡ Some refusal
    → naive_answer marks ≡ Err refusal
some_marks [] refusal h = cc
some_marks (mark ∷ rest) refusal h = ap (λ f. refused_or f (decimal_value (mark ∷ rest))) h

HasRead-great : (marks rest : List Mark) (place number value : ℕ)
    → HasRead marks (digit value ∷ rest) place number → 2 ^ 128 ≤ number * 10 + value
    → naive_answer marks ≡ Err too_large
HasRead-great marks rest place number value read great =
    let total = value_taken place marks rest value number read.ahead read.value in
    some_marks marks too_large (read.faults
    ∙ ap (λ f. option_or f (first_fault marks (place + 1) rest))
    (fault_great marks place value _ total great))

HasRead-sum : (marks rest : List Mark) (place number value total : ℕ)
    → HasRead marks (digit value ∷ rest) place number → total ≡ number * 10 + value
    → total < 2 ^ 128
    → HasRead marks rest (place + 1) total
HasRead-sum marks rest place number value total read e small =
    rw e (HasRead-digit marks rest place number value read (rw (← e) small))

-- the state of the reader in a string; the character that it reads next has this char_index in the
-- caller's string
pub record IsReading (skipped : ℕ) (bytes ahead : List ℕ) (char_index number : ℕ)
    (is_empty : Bool) : Type 0 where
  pub index : ℕ
  pub place : ℕ
  pub at : StandsAt bytes (chars ahead) index place
  pub char_index_is : char_index ≡ skipped + index
  pub read : HasRead (marks_of (text_of bytes)) (marks_of (text_of ahead)) place number
  pub empty_is : is_empty ≡ (place == 0)

-- the next character is white space
pub IsReading-white : (skipped : ℕ) (bytes ahead after : List ℕ) (char_index number c : ℕ)
    (is_empty : Bool) → IsReading skipped bytes ahead char_index number is_empty
    → chars ahead ≡ c ∷ chars after → is_whitespace c ≡ true
    → IsReading skipped bytes after (char_index + 1) number is_empty
IsReading-white skipped bytes ahead after char_index number c is_empty r parts white =
    let same : text_of ahead ≡ text_of after = rw (parts, white) in
    record {
      index = r.index + 1;
      place = r.place;
      at = StandsAt-white _ _ _ _ _ (rw parts at r.at) white;
      char_index_is = (let i = r.char_index_is in omega (arith, i));
      read = rw same at r.read;
      empty_is = r.empty_is;
    }

-- the marks of the rest, if the next character is not white space
ahead-dark : (ahead after : List ℕ) (c : ℕ) (mark : Mark) → chars ahead ≡ c ∷ chars after
    → is_whitespace c ≡ false → mark ≡ mark_of c
    → marks_of (text_of ahead) ≡ mark ∷ marks_of (text_of after)
ahead-dark ahead after c mark parts dark same =
    rw (parts, dark) (ap (λ m. m ∷ marks_of (text_of after)) (sym same))

-- the next character is a digit, and the number fits
pub IsReading-digit : (skipped : ℕ) (bytes ahead after : List ℕ)
    (char_index number c value total : ℕ) (is_empty : Bool)
    → IsReading skipped bytes ahead char_index number is_empty
    → chars ahead ≡ c ∷ chars after → digit value ≡ mark_of c → total ≡ number * 10 + value
    → total < 2 ^ 128
    → IsReading skipped bytes after (char_index + 1) total false
IsReading-digit skipped bytes ahead after char_index number c value total is_empty r parts mark sum
    small =
    let dark = digit-dark c value mark in
    let next = ahead-dark ahead after c (digit value) parts dark mark in
    record {
      index = r.index + 1;
      place = r.place + 1;
      at = StandsAt-dark _ _ _ _ _ (rw parts at r.at) dark;
      char_index_is = (let i = r.char_index_is in omega (arith, i));
      read = HasRead-sum _ _ _ _ value total (rw next at r.read) sum small;
      empty_is = grind (arith, nat_tests);
    }

-- the next character is a digit, and the number does not fit
pub IsReading-great : (skipped : ℕ) (bytes ahead after : List ℕ) (char_index number c value : ℕ)
    (is_empty : Bool) → IsReading skipped bytes ahead char_index number is_empty
    → chars ahead ≡ c ∷ chars after → digit value ≡ mark_of c → 2 ^ 128 ≤ number * 10 + value
    → answer_at skipped bytes (naive_answer (marks_of (text_of bytes))) ≡ Err too_large
IsReading-great skipped bytes ahead after char_index number c value is_empty r parts mark great =
    let next = ahead-dark ahead after c (digit value) parts (digit-dark c value mark) mark in
    ap (answer_at skipped bytes) (HasRead-great _ _ _ _ _ (rw next at r.read) great)

no_digit : (marks rest : List Mark) (mark : Mark) (place number : ℕ)
    → HasRead marks (mark ∷ rest) place number → ((value : ℕ) → mark ≢ digit value)
    → naive_answer marks ≡ Err (incorrect_at place)
no_digit marks rest (digit value) place number read none = absurd (none value refl)
no_digit marks rest (unit rank) place number read none =
    some_marks marks (incorrect_at place) read.faults
no_digit marks rest other place number read none = some_marks marks (incorrect_at place) read.faults

-- the next character is neither white space nor a digit
pub IsReading-incorrect : (skipped : ℕ) (bytes ahead after : List ℕ) (char_index number c : ℕ)
    (mark : Mark) (is_empty : Bool) → IsReading skipped bytes ahead char_index number is_empty
    → chars ahead ≡ c ∷ chars after → is_whitespace c ≡ false → mark ≡ mark_of c
    → ((value : ℕ) → mark ≢ digit value)
    → answer_at skipped bytes (naive_answer (marks_of (text_of bytes)))
    ≡ Err (incorrect_at char_index)
IsReading-incorrect skipped bytes ahead after char_index number c mark is_empty r parts dark same
    none =
    let next = ahead-dark ahead after c mark parts dark same in
    let index_is : char_index_of bytes r.place ≡ r.index =
    char_index-at bytes (chars after) c r.index r.place (rw parts at r.at) dark in
    ap (answer_at skipped bytes) (no_digit _ _ mark _ _ (rw next at r.read) none)
    ∙ ap (λ n. Err (incorrect_at n)) (ap (λ n. skipped + n) index_is ∙ sym r.char_index_is)
