-- The judgement of a text from the answers to its parts, with places reported as a char_index of
-- the string.
use Rattle.std.proofs.Common.{◌≡◌, ◌≢◌, ℕ, zero, suc, ◌+◌, ◌*◌, ◌/◌, ◌<◌, Bool, true, false, List, [], ◌∷◌, ◌++◌, length, filter, chars, Option, Some, None, Result, Ok, Err, refl, sym, ap, ◌∙◌, arith, if◌then◌else◌, add-one}
use Rattle.std.specs.Char.{is_whitespace, is_not_whitespace}
use Rattle.std.proofs.lemmas.List.{length-map, nil_from_length}
use Rattle.cn_core.specs.declared.method.ChineseCountMethod.{ChineseCountMethod}
use Rattle.cn_core.specs.Mark.{Mark, digit, mark_of}
use Rattle.cn_core.specs.Numeral.{may_precede, is_numeral, with_first_digit}
use Rattle.cn_core.specs.Place.{is_overflowing, is_unfit}
use Rattle.cn_core.specs.Refusal.{Refusal, empty, incorrect_at, too_large, too_small}
use Rattle.cn_core.specs.CharIndex.{char_index_among, char_index_of}
use Rattle.cn_core.specs.Text.{text_of, marks_of}
use Rattle.cn_core.specs.Value.{value}
use Rattle.cn_core.specs.Scale.{scale}
use Rattle.cn_judge.specs.declared.mark.Mark.{Mark as ReadMark}
use Rattle.cn_judge.specs.declared.mark.Mark.TheVariants.{Digit, Unit, Other}
use Rattle.cn_judge.specs.Marked.{marked}
use Rattle.cn_judge.specs.Judged.{after_first, JudgesAt}
use Rattle.cn_judge.specs.Piece.{StandsAt, EndsWith, answer_at}
use Rattle.cn_judge.specs.Private.Walk.{walked_answer, tail_answer, faults, fault_of, front_answer, fault_or, further_or, number_answer, HasTail, HasNoTail}
use Rattle.cn_judge.proofs.Endings.{judged_plain, judged_tail}
use Rattle.cn_judge.proofs.Pieces.{StandsAt-dark, char_index-at, char_index-rest}
use Rattle.cn_judge.proofs.Walking.{filter-append}

-- places are counted from the first character on
pub answer_at-first : (skipped : ℕ) (text rest : List ℕ) (index c : ℕ) (answer : Result ℕ Refusal)
    → StandsAt text (c ∷ chars rest) index 0 → is_whitespace c ≡ false
    → after_first (skipped + index) rest answer ≡ answer_at skipped text answer
answer_at-first skipped text rest index c (Ok number) at dark = refl
answer_at-first skipped text rest index c (Err empty) at dark = refl
answer_at-first skipped text rest index c (Err too_large) at dark = refl
answer_at-first skipped text rest index c (Err too_small) at dark = refl
answer_at-first skipped text rest index c (Err (incorrect_at zero)) at dark =
    ap (λ n. Err (incorrect_at (skipped + n)))
    (sym (char_index-at text (chars rest) c index 0 at dark))
answer_at-first skipped text rest index c (Err (incorrect_at (suc place))) at dark =
    let next : char_index_of text (place + (0 + 1)) ≡ index + 1 + char_index_of rest place =
    char_index-rest text rest (index + 1) (0 + 1) place
    (StandsAt-dark text (chars rest) c index 0 at dark) in
    let same : place + (0 + 1) ≡ suc place = omega arith in
    let there : char_index_of text (suc place) ≡ index + 1 + char_index_of rest place =
    rw same at next in
    let sum : skipped + index + 1 + char_index_of rest place
    ≡ skipped + char_index_of text (suc place) = omega (arith, there) in
    ap (λ n. Err (incorrect_at n)) sum

-- the text of a string by its first character
pub text-first : (text rest : List ℕ) (index c : ℕ) → StandsAt text (c ∷ chars rest) index 0
    → is_whitespace c ≡ false → text_of text ≡ c ∷ text_of rest
text-first text rest index c at dark = rw (
  at.parts,
  filter-append,
  dark,
  nil_from_length (filter is_not_whitespace at.front) at.place_is,
)

-- the place of a fault is one of the marks of the list
faults-low : (method : ChineseCountMethod) (marks : List Mark) (place : ℕ)
    → faults method marks ≡ Some (incorrect_at place) → place < length marks
faults-low method [] place h = cc
faults-low method (mark ∷ rest) place h =
    by (faults method rest) h (λ q e. faults-low method rest q e) where
      here : (a b c : Bool) → (if a then Some too_large
          else (if b then (if c then Some too_large else None) else Some (incorrect_at 0)))
          ≡ Some (incorrect_at place) → place ≡ 0
      here true b c h = cc
      here false true true h = cc
      here false true false h = cc
      here false false c h = cc

      by : (f : Option Refusal) → further_or f (fault_of method mark rest)
          ≡ Some (incorrect_at place)
          → ((q : ℕ) → f ≡ Some (incorrect_at q) → q < length rest) → place < suc (length rest)
      by None h low = let zero_is = here (is_overflowing method mark rest) (may_precede mark rest)
          (is_unfit method mark) h in omega (arith, zero_is)
      by (Some empty) h low = cc
      by (Some too_large) h low = cc
      by (Some too_small) h low = cc
      by (Some (incorrect_at q)) h low = let same : suc q ≡ place = cc in let l =
          low q refl in omega (arith, l, same)

-- the text after the character at a place does not change its char_index
pub char_index-prefix : (xs ys : List ℕ) (place : ℕ) → place < length (filter is_not_whitespace xs)
    → char_index_among (xs ++ ys) place ≡ char_index_among xs place
char_index-prefix [] ys place low = absurd (omega (arith, low))
char_index-prefix (c ∷ xs) ys zero low = by (is_whitespace c) refl (char_index-prefix xs ys 0) where
  by : (b : Bool) → is_whitespace c ≡ b
      → (0 < length (filter is_not_whitespace xs)
      → char_index_among (xs ++ ys) 0 ≡ char_index_among xs 0)
      → (if b then suc (char_index_among (xs ++ ys) 0) else 0)
      ≡ (if b then suc (char_index_among xs 0) else 0)
  by true white ih = ap suc (ih (rw white at low))
  by false dark ih = refl
char_index-prefix (c ∷ xs) ys (suc place) low =
    by (is_whitespace c) refl (λ p. char_index-prefix xs ys p) where
      by : (b : Bool) → is_whitespace c ≡ b
          → ((p : ℕ) → p < length (filter is_not_whitespace xs)
          → char_index_among (xs ++ ys) p ≡ char_index_among xs p)
          → suc (char_index_among (xs ++ ys) (if b then suc place else place))
          ≡ suc (char_index_among xs (if b then suc place else place))
      by true white ih = ap suc (ih (suc place) (rw white at low))
      by false dark ih = let l = rw dark at low in ap suc (ih place (omega (arith, l)))

-- and it does not change the answer to the body
pub front-same : (method : ChineseCountMethod) (char_index : ℕ) (first : Mark)
    (before rest more : List ℕ) → chars rest ≡ chars before ++ more
    → after_first char_index before (walked_answer method first (marks_of (text_of before)))
    ≡ after_first char_index rest (walked_answer method first (marks_of (text_of before)))
front-same method char_index first before rest more parts =
    by (faults method (marks_of (text_of before))) refl where
      front : (a b : Bool) (number : ℕ)
          → after_first char_index before
          (if a then (if b then Ok number else Err too_large) else Err (incorrect_at 0))
          ≡ after_first char_index rest (if a then (if b then Ok number else Err too_large)
          else Err (incorrect_at 0))
      front true true number = refl
      front true false number = refl
      front false b number = refl

      moved : (place : ℕ) → faults method (marks_of (text_of before)) ≡ Some (incorrect_at place)
          → char_index_of before place ≡ char_index_of rest place
      moved place e =
          let low = faults-low method (marks_of (text_of before)) place e in
          let size = length-map (text_of before) mark_of in
          rw parts (sym (char_index-prefix (chars before) more place (omega (arith, low, size))))

      by : (f : Option Refusal) → faults method (marks_of (text_of before)) ≡ f
          → after_first char_index before
          (fault_or f (front_answer method first (marks_of (text_of before))))
          ≡ after_first char_index rest
          (fault_or f (front_answer method first (marks_of (text_of before))))
      by None e = front (is_numeral (first ∷ marks_of (text_of before))) _
          (value method (with_first_digit (first ∷ marks_of (text_of before))))
      by (Some empty) e = refl
      by (Some too_large) e = refl
      by (Some too_small) e = refl
      by (Some (incorrect_at place)) e =
          ap (λ n. Err (incorrect_at (char_index + 1 + n))) (moved place e)

-- a text without characters to read
pub JudgesAt-empty : (method : ChineseCountMethod) (skipped : ℕ) (text : List ℕ)
    → text_of text ≡ [] → JudgesAt method skipped text (Err empty)
JudgesAt-empty method skipped text none = (Err empty, rw none refl, refl)

-- a text without a tail
pub JudgesAt-plain : (method : ChineseCountMethod) (skipped : ℕ) (text rest : List ℕ) (index c : ℕ)
    (answer : Result ℕ Refusal)
    → StandsAt text (c ∷ chars rest) index 0 → is_whitespace c ≡ false
    → HasNoTail (marks_of (text_of rest))
    → answer ≡ after_first (skipped + index) rest
    (walked_answer method (mark_of c) (marks_of (text_of rest)))
    → JudgesAt method skipped text answer
JudgesAt-plain method skipped text rest index c answer at dark none is = (
  walked_answer method (mark_of c) (marks_of (text_of rest)),
  judged_plain method (text_of text) (text_of rest) c _ (text-first text rest index c at dark) none
      refl,
  is ∙ answer_at-first skipped text rest index c _ at dark,
)

-- a text with a tail
pub JudgesAt-tail : (method : ChineseCountMethod) (skipped : ℕ) (text rest body : List ℕ)
    (index c rank : ℕ) (last : Mark) (answer : Result ℕ Refusal)
    → StandsAt text (c ∷ chars rest) index 0 → is_whitespace c ≡ false
    → HasTail (marks_of (text_of rest)) (marks_of (text_of body)) rank last
    → answer ≡ after_first (skipped + index) rest
    (tail_answer method (length (text_of body) + 1) rank last
    (walked_answer method (mark_of c) (marks_of (text_of body))))
    → JudgesAt method skipped text answer
JudgesAt-tail method skipped text rest body index c rank last answer at dark tail is = (
  tail_answer method (length (text_of body) + 1) rank last
      (walked_answer method (mark_of c) (marks_of (text_of body))),
  judged_tail method (text_of text) (text_of rest) (text_of body) c last rank _ _ _
      (text-first text rest index c at dark) tail refl refl refl,
  is ∙ answer_at-first skipped text rest index c _ at dark,
)

-- a refusal of the body is the refusal of the whole text
pub tail-refused : (method : ChineseCountMethod) (char_index place rank : ℕ) (last : Mark)
    (before rest : List ℕ) (refusal : Refusal) (walked : Result ℕ Refusal)
    → Err refusal ≡ after_first char_index before walked
    → after_first char_index before walked ≡ after_first char_index rest walked
    → Err refusal ≡ after_first char_index rest (tail_answer method place rank last walked)
tail-refused method char_index place rank last before rest refusal (Ok number) h same = cc
tail-refused method char_index place rank last before rest refusal (Err r) h same = h ∙ same

-- if the body is answered with a number, that number is the walk's
pub front-number : (char_index number : ℕ) (before : List ℕ) (walked : Result ℕ Refusal)
    → Ok number ≡ after_first char_index before walked → walked ≡ Ok number
front-number char_index number before (Ok n) h = sym h
front-number char_index number before (Err empty) h = cc
front-number char_index number before (Err too_large) h = cc
front-number char_index number before (Err too_small) h = cc
front-number char_index number before (Err (incorrect_at zero)) h = cc
front-number char_index number before (Err (incorrect_at (suc p))) h = cc

-- a tail that is not a digit is at fault
pub last-wrong : (char_index index : ℕ) (rest body : List ℕ) (c : ℕ) → EndsWith rest c body
    → index ≡ char_index + 1 + length (chars body)
    → Err (incorrect_at index) ≡ after_first char_index rest
    (Err (incorrect_at (length (text_of body) + 1)))
last-wrong char_index index rest body c e at =
    let stands : StandsAt rest (c ∷ e.white) (length (chars body)) (length (text_of body)) =
    record { front = chars body; parts = e.parts; index_is = refl; place_is = refl } in
    let index_is : char_index_of rest (length (text_of body)) ≡ length (chars body) =
    char_index-at rest e.white c _ _ stands e.dark in
    rw add-one (ap (λ n. Err (incorrect_at n)) (at ∙ ap (λ n. char_index + 1 + n) (sym index_is)))

-- a mark of the code that is not a digit stands for no digit
pub not-digit : (mark : ReadMark) → ((x : ℕ) → mark ≡ Digit x → ⊥) → (value : ℕ)
    → marked mark ≢ digit value
not-digit (Digit x) none value e = none x refl
not-digit (Unit u) none value e = cc
not-digit Other none value e = cc

-- the answer if the tail is a digit
pub last-adds : (method : ChineseCountMethod) (char_index place rank number value : ℕ)
    (rest : List ℕ) (mark : ReadMark) (walked answer : Result ℕ Refusal)
    → walked ≡ Ok number → mark ≡ Digit value
    → answer ≡ after_first char_index rest (number_answer (number + value * scale method rank / 10))
    → answer ≡ after_first char_index rest (tail_answer method place rank (marked mark) walked)
last-adds method char_index place rank number value rest mark walked answer w m is =
    is ∙ sym (ap (after_first char_index rest)
    (ap (tail_answer method place rank (marked mark)) w
    ∙ ap (λ x. tail_answer method place rank (marked x) (Ok number)) m))
