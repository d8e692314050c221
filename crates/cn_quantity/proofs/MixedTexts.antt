-- A text, cut at its first 又.
use Rattle.std.proofs.Common.{◌≡◌, ℕ, Bool, true, false, ◌&&◌, nat_lt, List, [], ◌∷◌, ◌++◌, length, chars, Option, None, Result, Ok, Err, refl, sym, ap, ap₂, ◌∙◌, append_assoc, append-nil, arith}
use Rattle.std.proofs.lemmas.Bool.Decides.{nat_tests}
use Rattle.std.proofs.lemmas.List.{append_cancel_right}
use Rattle.cn_core.specs.declared.method.ChineseCountMethod.{ChineseCountMethod}
use Rattle.cn_core.specs.Refusal.{Refusal, empty, incorrect_at, too_large, too_small}
use Rattle.cn_core.specs.Text.{text_of}
use Rattle.cn_core.proofs.Fronts.{both}
use Rattle.cn_judge.specs.Piece.{answer_at}
use Rattle.cn_quantity.specs.declared.number.Decimal.{Decimal}
use Rattle.cn_quantity.specs.declared.ratio.Ratio.{Ratio}
use Rattle.cn_quantity.specs.Characters.{is_you}
use Rattle.cn_quantity.specs.Number.{divisor_answer, part_answer}
use Rattle.cn_quantity.specs.Private.{BeginsWith, IsEnd, SplitsAtBar, SplitsAtYou}
use Rattle.cn_quantity.specs.Ratio.{after_bar, after_you, before_bar, before_you, is_fraction, mixed, mixed_of}
use Rattle.cn_quantity.specs.WholeNumber.{whole_answer}
use Rattle.cn_quantity.proofs.Ends.{IsEnd-all, IsEnd-end, text-parts}

-- no 又 is before this suffix
pub record IsYouSought (bytes rest : List ℕ) : Type 0 where
  pub end : IsEnd bytes rest
  pub seen : List ℕ
  pub text : text_of bytes ≡ seen ++ text_of rest
  pub before : before_you (text_of bytes) ≡ seen ++ before_you (text_of rest)
  pub after : after_you (text_of bytes) ≡ after_you (text_of rest)

pub IsYouSought-none : (bytes : List ℕ) → IsYouSought bytes bytes
IsYouSought-none bytes =
    record { end = IsEnd-all bytes; seen = []; text = refl; before = refl; after = refl }

pub IsYouSought-more : (bytes rest after : List ℕ) (c : ℕ) → IsYouSought bytes rest
    → BeginsWith rest c after → is_you c ≡ false → IsYouSought bytes after
IsYouSought-more bytes rest after c s b none = record {
  end = IsEnd-end bytes rest after s.end b.end;
  seen = s.seen ++ c ∷ [];
  text = s.text ∙ ap (λ l. s.seen ++ l) b.text ∙ sym (append_assoc s.seen (c ∷ []) (text_of after));
  before = s.before ∙ ap (λ l. s.seen ++ before_you l) b.text
      ∙ ap (λ l. s.seen ++ l) (passed (text_of after))
      ∙ sym (append_assoc s.seen (c ∷ []) (before_you (text_of after)));
  after = s.after ∙ ap after_you b.text ∙ gone (text_of after);
} where
  passed : (l : List ℕ) → before_you (c ∷ l) ≡ c ∷ before_you l
  passed l = rw none

  gone : (l : List ℕ) → after_you (c ∷ l) ≡ after_you l
  gone l = rw none

pub SplitsAtYou-at : (bytes rest after before : List ℕ) (c : ℕ) → IsYouSought bytes rest
    → BeginsWith rest c after → is_you c ≡ true
    → chars bytes ≡ chars before ++ chars rest → SplitsAtYou bytes before after
SplitsAtYou-at bytes rest after before c s b point parts = record {
  before_is = same ∙ sym (s.before ∙ ap (λ l. s.seen ++ before_you l) b.text
      ∙ ap (λ l. s.seen ++ l) (stops (text_of after)) ∙ append-nil s.seen);
  rest_is = sym (s.after ∙ ap after_you b.text ∙ cut (text_of after));
} where
  same : text_of before ≡ s.seen
  same = append_cancel_right (text_of before) s.seen (text_of rest)
      (sym (text-parts bytes before rest parts) ∙ s.text)

  stops : (l : List ℕ) → before_you (c ∷ l) ≡ []
  stops l = rw point

  cut : (l : List ℕ) → after_you (c ∷ l) ≡ l
  cut l = rw point

pub none-sought : (bytes rest : List ℕ) → IsYouSought bytes rest → text_of rest ≡ []
    → after_you (text_of bytes) ≡ []
none-sought bytes rest s none = s.after ∙ ap after_you none

-- the answer does not depend on where places are counted from
same-of : (a b d : ℕ) (x y z : List ℕ) (whole divisor : Result ℕ Refusal)
    (decimal : Result Decimal Refusal)
    → mixed_of (answer_at a x whole) (answer_at b y divisor) (answer_at d z decimal)
    ≡ mixed_of whole divisor decimal
same-of a b d x y z (Ok w) (Ok v) (Ok n) = refl
same-of a b d x y z (Ok w) (Ok v) (Err empty) = refl
same-of a b d x y z (Ok w) (Ok v) (Err too_large) = refl
same-of a b d x y z (Ok w) (Ok v) (Err too_small) = refl
same-of a b d x y z (Ok w) (Ok v) (Err (incorrect_at p)) = refl
same-of a b d x y z (Ok w) (Err empty) decimal = refl
same-of a b d x y z (Ok w) (Err too_large) decimal = refl
same-of a b d x y z (Ok w) (Err too_small) decimal = refl
same-of a b d x y z (Ok w) (Err (incorrect_at p)) decimal = refl
same-of a b d x y z (Err empty) divisor decimal = refl
same-of a b d x y z (Err too_large) divisor decimal = refl
same-of a b d x y z (Err too_small) divisor decimal = refl
same-of a b d x y z (Err (incorrect_at p)) divisor decimal = refl

pub mixed-by : (method : ChineseCountMethod) (bytes before rest divisor over more : List ℕ)
    (index c : ℕ) (whole below : Result ℕ Refusal) (decimal : Result Decimal Refusal)
    (answer : Option Ratio) → SplitsAtYou bytes before rest → text_of before ≡ c ∷ more
    → is_fraction (text_of rest) ≡ true → SplitsAtBar rest divisor index over
    → whole ≡ answer_at 0 before (whole_answer method (text_of before))
    → below ≡ answer_at 0 divisor (divisor_answer method (text_of divisor))
    → decimal ≡ answer_at 0 over (part_answer method (text_of over))
    → answer ≡ mixed_of whole below decimal → answer ≡ mixed method (text_of bytes)
mixed-by method bytes before rest divisor over more index c whole below decimal answer s some fraction
    bar one two three is =
    is ∙ parts ∙ same-of 0 0 0 before divisor over (whole_answer method (text_of before))
    (divisor_answer method (text_of divisor)) (part_answer method (text_of over))
    ∙ texts ∙ sym here where
      parts : mixed_of whole below decimal
          ≡ mixed_of (answer_at 0 before (whole_answer method (text_of before)))
          (answer_at 0 divisor (divisor_answer method (text_of divisor)))
          (answer_at 0 over (part_answer method (text_of over)))
      parts = rw (one, two, three) refl

      texts : mixed_of (whole_answer method (text_of before))
          (divisor_answer method (text_of divisor)) (part_answer method (text_of over))
          ≡ mixed_of (whole_answer method (before_you (text_of bytes)))
          (divisor_answer method (before_bar (after_you (text_of bytes))))
          (part_answer method (after_bar (after_you (text_of bytes))))
      texts =
          ap₂ (λ b d. mixed_of (whole_answer method b) (divisor_answer method d)
          (part_answer method (text_of over))) s.before_is
          (bar.divisor_is ∙ ap before_bar s.rest_is)
          ∙ ap (λ o. mixed_of (whole_answer method (before_you (text_of bytes)))
          (divisor_answer method (before_bar (after_you (text_of bytes)))) (part_answer method o))
          (bar.behind_is ∙ ap after_bar s.rest_is)

      test : (nat_lt 0 (length (before_you (text_of bytes)))
          && is_fraction (after_you (text_of bytes))) ≡ true
      test =
          let filled : before_you (text_of bytes) ≡ c ∷ more = sym s.before_is ∙ some in
          let size = ap length filled in
          let one : nat_lt 0 (length (before_you (text_of bytes))) ≡ true =
          grind (arith, nat_tests, size) in
          both (nat_lt 0 (length (before_you (text_of bytes)))) (is_fraction (after_you (text_of bytes)))
          one (ap is_fraction (sym s.rest_is) ∙ fraction)

      here : mixed method (text_of bytes)
          ≡ mixed_of (whole_answer method (before_you (text_of bytes)))
          (divisor_answer method (before_bar (after_you (text_of bytes))))
          (part_answer method (after_bar (after_you (text_of bytes))))
      here = rw test

-- a text that is not a mixed fraction, by the part that is missing
mixed-not : (method : ChineseCountMethod) (text : List ℕ)
    → (nat_lt 0 (length (before_you text)) && is_fraction (after_you text)) ≡ false
    → mixed method text ≡ None
mixed-not method text none = rw none

and-last : (a b : Bool) → b ≡ false → (a && b) ≡ false
and-last true b h = h
and-last false b h = refl

pub no-you : (method : ChineseCountMethod) (text : List ℕ) → after_you text ≡ []
    → mixed method text ≡ None
no-you method text none =
    mixed-not method text (and-last (nat_lt 0 (length (before_you text))) (is_fraction (after_you text))
    (ap is_fraction none))
