-- A text, cut at its first point.
use Rattle.std.proofs.Common.{◌≡◌, ℕ, Bool, true, false, not, ◌&&◌, nat_lt, is_some, List, [], ◌∷◌, ◌++◌, length, chars, refl, sym, ap, ◌∙◌, append_assoc, append-nil}
use Rattle.std.proofs.lemmas.List.{append_cancel_right}
use Rattle.cn_core.specs.Characters.{digit_of}
use Rattle.cn_core.specs.Text.{text_of}
use Rattle.cn_quantity.specs.declared.characters.DigitKind.TheVariants.{Chinese}
use Rattle.cn_quantity.specs.Characters.{is_point}
use Rattle.cn_quantity.specs.Decimal.{before_point, after_point, ends_colloquially, is_chinese_decimal, is_great_unit}
use Rattle.cn_quantity.specs.Figures.{are_decimals}
use Rattle.cn_quantity.specs.Private.{BeginsWith, IsEnd, SplitsAtPoint}
use Rattle.cn_quantity.proofs.Ends.{IsEnd-all, IsEnd-end, text-parts}

-- no point is before this suffix
pub record IsSought (bytes rest : List ℕ) : Type 0 where
  pub end : IsEnd bytes rest
  pub seen : List ℕ
  pub text : text_of bytes ≡ seen ++ text_of rest
  pub before : before_point (text_of bytes) ≡ seen ++ before_point (text_of rest)
  pub after : after_point (text_of bytes) ≡ after_point (text_of rest)

pub IsSought-none : (bytes : List ℕ) → IsSought bytes bytes
IsSought-none bytes =
    record { end = IsEnd-all bytes; seen = []; text = refl; before = refl; after = refl }

pub IsSought-more : (bytes rest after : List ℕ) (c : ℕ) → IsSought bytes rest
    → BeginsWith rest c after → is_point Chinese c ≡ false → IsSought bytes after
IsSought-more bytes rest after c s b none = record {
  end = IsEnd-end bytes rest after s.end b.end;
  seen = s.seen ++ c ∷ [];
  text = s.text ∙ ap (λ l. s.seen ++ l) b.text ∙ sym (append_assoc s.seen (c ∷ []) (text_of after));
  before = s.before ∙ ap (λ l. s.seen ++ before_point l) b.text
      ∙ ap (λ l. s.seen ++ l) (passed (text_of after))
      ∙ sym (append_assoc s.seen (c ∷ []) (before_point (text_of after)));
  after = s.after ∙ ap after_point b.text ∙ gone (text_of after);
} where
  passed : (l : List ℕ) → before_point (c ∷ l) ≡ c ∷ before_point l
  passed l = rw none

  gone : (l : List ℕ) → after_point (c ∷ l) ≡ after_point l
  gone l = rw none

pub SplitsAtPoint-at : (bytes rest after before : List ℕ) (c : ℕ) → IsSought bytes rest
    → BeginsWith rest c after → is_point Chinese c ≡ true
    → chars bytes ≡ chars before ++ chars rest → SplitsAtPoint bytes before after
SplitsAtPoint-at bytes rest after before c s b point parts = record {
  before_is = same ∙ sym (s.before ∙ ap (λ l. s.seen ++ before_point l) b.text
      ∙ ap (λ l. s.seen ++ l) (stops (text_of after)) ∙ append-nil s.seen);
  behind_is = sym (s.after ∙ ap after_point b.text ∙ cut (text_of after));
  front = record { more = chars rest; parts = parts };
} where
  same : text_of before ≡ s.seen
  same = append_cancel_right (text_of before) s.seen (text_of rest)
      (sym (text-parts bytes before rest parts) ∙ s.text)

  stops : (l : List ℕ) → before_point (c ∷ l) ≡ []
  stops l = rw point

  cut : (l : List ℕ) → after_point (c ∷ l) ≡ l
  cut l = rw point

pub none-sought : (bytes rest : List ℕ) → IsSought bytes rest → text_of rest ≡ []
    → after_point (text_of bytes) ≡ []
none-sought bytes rest s none = s.after ∙ ap after_point none

-- a text by its last two characters
pub colloquial-last : (front : List ℕ) (c d : ℕ) → ends_colloquially (front ++ c ∷ d ∷ [])
    ≡ (is_great_unit c && is_some (digit_of d))
colloquial-last [] c d = refl
colloquial-last (x ∷ []) c d = refl
colloquial-last (x ∷ y ∷ rest) c d = by rest ∙ colloquial-last (y ∷ rest) c d where
  by : (rest : List ℕ) → ends_colloquially (x ∷ y ∷ rest ++ c ∷ d ∷ [])
      ≡ ends_colloquially (y ∷ rest ++ c ∷ d ∷ [])
  by [] = refl
  by (z ∷ rest) = refl

-- the same for a text that is cut twice
pub colloquial-cut : (text before front : List ℕ) (c d : ℕ) (great digit : Bool)
    → text ≡ before ++ d ∷ [] → before ≡ front ++ c ∷ [] → great ≡ is_great_unit c
    → digit ≡ is_some (digit_of d) → (great && digit) ≡ ends_colloquially text
colloquial-cut text before front c d great digit last second great_is digit_is =
    rw (great_is, digit_is) (sym (ap ends_colloquially (last ∙ ap (λ l. l ++ d ∷ []) second
    ∙ append_assoc front (c ∷ []) (d ∷ [])) ∙ colloquial-last front c d))

-- the text after the point is not decimals
pub no-decimals : (text behind : List ℕ) → behind ≡ after_point text
    → ¬ (are_decimals Chinese behind ≡ true) → is_chinese_decimal text ≡ false
no-decimals text behind is none =
    by (nat_lt 0 (length (before_point text))) (not (ends_colloquially (before_point text)))
    (are_decimals Chinese (after_point text)) _ (rw is at none) where
      by : (a b c d : Bool) → ¬ (c ≡ true) → (a && b && c && d) ≡ false
      by true true true d h = absurd (h refl)
      by true true false d h = refl
      by true false c d h = refl
      by false b c d h = refl
