-- Which refusals come of which texts.
use Rattle.std.proofs.Common.{◌≡◌, ◌≢◌, ℕ, ◌+◌, ◌-◌, ◌^◌, ℤ, pos, int_lt, Bool, true, false, not, ◌&&◌, nat_lt, nat_le, MatchBool, if◌then◌else◌, List, [], ◌∷◌, length, take, Option, Some, None, Result, Ok, Err, is_ok, refl, sym, ap, subst, ◌∙◌, arith, true≢false}
use Rattle.std.proofs.lemmas.Int.{ints}
use Rattle.std.specs.Option.{option_or}
use Rattle.cn_core.specs.declared.method.ChineseCountMethod.{ChineseCountMethod}
use Rattle.cn_core.specs.declared.sign.Sign.{Sign}
use Rattle.cn_core.specs.declared.sign.Sign.TheVariants.{Plus, Minus}
use Rattle.cn_core.specs.Judge.{Judges, RefusesBody, numeral_answer, last_mark_answer}
use Rattle.cn_core.specs.Mark.{Mark, digit, unit, other}
use Rattle.cn_core.specs.Naive.{naive_answer, first_fault, refused_or, decimal_value}
use Rattle.cn_core.specs.Numeral.{is_numeral}
use Rattle.cn_core.specs.Place.{body, is_early, some_unfit}
use Rattle.cn_core.specs.Refusal.{Refusal, empty, incorrect_at, too_large, too_small}
use Rattle.cn_core.specs.Text.{marks_of}
use Rattle.cn_core.specs.Reading.{Reads, is_minus, typed_number, typed_answer, naive_reading}
use Rattle.cn_core.specs.Value.{numeral_value}
use Rattle.cn_core.specs.Whole.{signed_number, Kind}
use Rattle.chinese_number.specs.Parts.{sign_at, unsigned_text}
use Rattle.chinese_number.proofs.Reading.{Reads-parts}

-- a number, a place, or too large: what comes of a text that is not empty
abbrev is_of_some : Result ℕ Refusal → Bool
is_of_some (Ok number) = true
is_of_some (Err (incorrect_at place)) = true
is_of_some (Err too_large) = true
is_of_some (Err refusal) = false

numeral_some : (method : ChineseCountMethod) (marks : List Mark)
    → is_of_some (numeral_answer method marks) ≡ true
numeral_some method marks = by (not (some_unfit method marks)
    && nat_lt (numeral_value method marks) (2 ^ 128)) where
      by : (b : Bool) → is_of_some (if b then Ok (numeral_value method marks) else Err too_large)
          ≡ true
      by true = refl
      by false = refl

last_some : (method : ChineseCountMethod) (marks : List Mark)
    → is_of_some (last_mark_answer method marks) ≡ true
last_some method marks = by (is_ok (numeral_answer method (body marks))) where
  by : (b : Bool) → is_of_some (if b then Err (incorrect_at (length marks - 1)) else Err too_large)
      ≡ true
  by true = refl
  by false = refl

body_some : (method : ChineseCountMethod) (marks : List Mark) (answer : Result ℕ Refusal)
    → RefusesBody method marks answer → is_of_some answer ≡ true
body_some method marks answer (place, at_place, is) =
    ap is_of_some is ∙ by (is_early method marks place) where
      by : (b : Bool) → is_of_some (if b then Err too_large else Err (incorrect_at place)) ≡ true
      by true = refl
      by false = refl

-- a judgement is one of three
pub by_ways : {P Q R : Type 0} (G : Type 0) (b c : Bool) → (P → G) → (Q → G) → (R → G)
    → MatchBool b P (MatchBool c Q R) → G
by_ways G true c p q r x = p x
by_ways G false true p q r x = q x
by_ways G false false p q r x = r x

judged_some : (method : ChineseCountMethod) (mark : Mark) (rest : List Mark)
    (answer : Result ℕ Refusal) → Judges method (mark ∷ rest) answer → is_of_some answer ≡ true
judged_some method mark rest answer h =
    let marks = mark ∷ rest in
    by_ways (is_of_some answer ≡ true) (is_numeral marks) (is_numeral (body marks))
    (λ e. ap is_of_some e ∙ numeral_some method marks) (λ e. ap is_of_some e
    ∙ last_some method marks)
    (body_some method (body marks) answer) h

fault_some : (marks : List Mark) (place : ℕ) (rest : List Mark) (number : ℕ)
    → is_of_some (refused_or (first_fault marks place rest) number) ≡ true
fault_some marks place [] number = refl
fault_some marks place (unit rank ∷ rest) number = refl
fault_some marks place (other ∷ rest) number = refl
fault_some marks place (digit value ∷ rest) number =
    by (nat_le (2 ^ 128) (decimal_value (take (place + 1) marks))) (fault_some marks (place + 1)
    rest number) where
      by : (b : Bool) → is_of_some (refused_or (first_fault marks (place + 1) rest) number) ≡ true
          → is_of_some (refused_or (option_or (if b then Some too_large else None)
          (first_fault marks (place + 1) rest)) number) ≡ true
      by true h = refl
      by false h = h

-- so an empty refusal is one of an empty text
judged_empty : (method : ChineseCountMethod) (marks : List Mark) → Judges method marks (Err empty)
    → marks ≡ []
judged_empty method [] h = refl
judged_empty method (mark ∷ rest) h =
    absurd (true≢false (sym (judged_some method mark rest (Err empty) h)))

naive_empty : (marks : List Mark) → naive_answer marks ≡ Err empty → marks ≡ []
naive_empty [] h = refl
naive_empty (mark ∷ rest) h = absurd (true≢false (sym (fault_some (mark ∷ rest) 0 (mark ∷ rest)
    (decimal_value (mark ∷ rest))) ∙ ap is_of_some h))

no_marks : (text : List ℕ) → marks_of text ≡ [] → text ≡ []
no_marks [] h = refl
no_marks (c ∷ text) h = cc

held_not_empty : (kind : Kind) (number : ℤ) → typed_number kind number ≢ Err empty
held_not_empty kind number h = by (int_lt kind.greatest number) (int_lt number kind.least) h where
  by : (a b : Bool) → ¬ ((if a then Err too_large else (if b then Err too_small else Ok number))
      ≡ Err empty)
  by true b h = cc
  by false true h = cc
  by false false h = cc

typed_empty : (kind : Kind) (bytes : List ℕ) (sign : Option Sign) (judged : Result ℕ Refusal)
    → typed_answer kind bytes sign judged ≡ Err empty → judged ≡ Err empty
typed_empty kind bytes sign (Ok number) h =
    absurd (held_not_empty kind (signed_number (is_minus sign) number) h)
typed_empty kind bytes sign (Err empty) h = refl
typed_empty kind bytes sign (Err (incorrect_at place)) h = cc
typed_empty kind bytes None (Err too_large) h = cc
typed_empty kind bytes (Some Plus) (Err too_large) h = cc
typed_empty kind bytes (Some Minus) (Err too_large) h = cc
typed_empty kind bytes sign (Err too_small) h = cc

pub Reads-empty : (kind : Kind) (method : ChineseCountMethod) (bytes : List ℕ)
    → Reads kind method bytes (Err empty) → unsigned_text kind bytes ≡ []
Reads-empty kind method bytes (judged, is, answer) =
    let text = unsigned_text kind bytes in
    let e = typed_empty kind bytes (sign_at kind bytes) judged (sym answer) in
    no_marks text (judged_empty method (marks_of text) (subst (Judges method (marks_of text)) e is))

pub empty-Reads : (kind : Kind) (method : ChineseCountMethod) (bytes : List ℕ)
    → unsigned_text kind bytes ≡ [] → Reads kind method bytes (Err empty)
empty-Reads kind method bytes none =
    Reads-parts kind method bytes (sign_at kind bytes) [] (Err empty)
    (record { sign_is = refl; marks_is = ap marks_of none }) refl

pub naive_reading-empty : (kind : Kind) (bytes : List ℕ) → naive_reading kind bytes ≡ Err empty
    → unsigned_text kind bytes ≡ []
naive_reading-empty kind bytes h =
    let text = unsigned_text kind bytes in
    no_marks text (naive_empty (marks_of text)
    (typed_empty kind bytes (sign_at kind bytes) (naive_answer (marks_of text)) h))

pub empty-naive_reading : (kind : Kind) (bytes : List ℕ) → unsigned_text kind bytes ≡ []
    → naive_reading kind bytes ≡ Err empty
empty-naive_reading kind bytes none = ap (λ text. typed_answer kind bytes (sign_at kind bytes)
    (naive_answer (marks_of text))) none

-- and a text without sign is never too small
judged_not_small : (method : ChineseCountMethod) (marks : List Mark) (answer : Result ℕ Refusal)
    → Judges method marks answer → answer ≢ Err too_small
judged_not_small method [] answer h e = let same : Err empty ≡ Err too_small = sym h ∙ e in cc
judged_not_small method (mark ∷ rest) answer h e =
    true≢false (sym (judged_some method mark rest answer h) ∙ ap is_of_some e)

naive_not_small : (marks : List Mark) → naive_answer marks ≢ Err too_small
naive_not_small [] e = cc
naive_not_small (mark ∷ rest) e = true≢false (sym (fault_some (mark ∷ rest) 0 (mark ∷ rest)
    (decimal_value (mark ∷ rest))) ∙ ap is_of_some e)

held_not_small : (kind : Kind) (number : ℕ) → kind.least ≡ pos 0
    → typed_number kind (pos number) ≢ Err too_small
held_not_small kind number zero_least h =
    by (int_lt kind.greatest (pos number)) (int_lt (pos number) kind.least) refl h where
      below : int_lt (pos number) kind.least ≡ true → ⊥
      below e = let low : int_lt (pos number) (pos 0) ≡ true =
          rw zero_least at e in omega (arith, ints, low)

      by : (a b : Bool) → int_lt (pos number) kind.least ≡ b
          → (if a then Err too_large else (if b then Err too_small else Ok (pos number)))
          ≡ Err too_small → ⊥
      by true b e h = cc
      by false true e h = below e
      by false false e h = cc

typed_not_small : (kind : Kind) (bytes : List ℕ) (judged : Result ℕ Refusal) → kind.least ≡ pos 0
    → judged ≢ Err too_small → typed_answer kind bytes None judged ≢ Err too_small
typed_not_small kind bytes (Ok number) zero_least not_small h =
    held_not_small kind number zero_least h
typed_not_small kind bytes (Err empty) zero_least not_small h = cc
typed_not_small kind bytes (Err (incorrect_at place)) zero_least not_small h = cc
typed_not_small kind bytes (Err too_large) zero_least not_small h = cc
typed_not_small kind bytes (Err too_small) zero_least not_small h = not_small refl

no_sign_at : (kind : Kind) (bytes : List ℕ) → kind.signed ≡ false → sign_at kind bytes ≡ None
no_sign_at kind bytes unsigned = rw unsigned

pub Reads-not_small : (kind : Kind) (method : ChineseCountMethod) (bytes : List ℕ)
    → kind.signed ≡ false → kind.least ≡ pos 0 → ¬ Reads kind method bytes (Err too_small)
Reads-not_small kind method bytes unsigned zero_least (judged, is, answer) =
    typed_not_small kind bytes judged zero_least
    (judged_not_small method (marks_of (unsigned_text kind bytes)) judged is)
    (sym (ap (λ sign. typed_answer kind bytes sign judged) (no_sign_at kind bytes unsigned))
    ∙ sym answer)

pub naive_reading-not_small : (kind : Kind) (bytes : List ℕ) → kind.signed ≡ false
    → kind.least ≡ pos 0 → naive_reading kind bytes ≢ Err too_small
naive_reading-not_small kind bytes unsigned zero_least h =
    let judged = naive_answer (marks_of (unsigned_text kind bytes)) in
    typed_not_small kind bytes judged zero_least
    (naive_not_small (marks_of (unsigned_text kind bytes)))
    (sym (ap (λ sign. typed_answer kind bytes sign judged) (no_sign_at kind bytes unsigned)) ∙ h)
