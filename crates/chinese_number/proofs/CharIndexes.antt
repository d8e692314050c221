-- The char_index_of of a refusal is that of a character.
use Rattle.std.proofs.Common.{◌≡◌, ℕ, zero, suc, ◌+◌, ◌<◌, ℤ, int_lt, Bool, true, false, not, if◌then◌else◌, List, [], ◌∷◌, length, filter, take, drop, slice_get, chars, Option, Some, None, Result, Ok, Err, refl, sym, ap, subst, arith, length-drop}
use Rattle.std.proofs.lemmas.List.{length-map}
use Rattle.std.specs.Char.{is_whitespace, is_not_whitespace}
use Rattle.cn_core.specs.declared.method.ChineseCountMethod.{ChineseCountMethod}
use Rattle.cn_core.specs.declared.sign.Sign.{Sign}
use Rattle.cn_core.specs.declared.sign.Sign.TheVariants.{Plus, Minus}
use Rattle.cn_core.specs.Judge.{Judges}
use Rattle.cn_core.specs.Mark.{mark_of}
use Rattle.cn_core.specs.Naive.{naive_answer}
use Rattle.cn_core.specs.Refusal.{Refusal, empty, incorrect_at, too_large, too_small}
use Rattle.cn_core.specs.CharIndex.{char_index_of, char_index_among}
use Rattle.cn_core.specs.Text.{text_of, marks_of}
use Rattle.cn_core.specs.Reading.{Reads, leading_sign, sign_len, is_minus, typed_number, typed_answer, naive_reading}
use Rattle.cn_core.specs.Whole.{signed_number, Kind}
use Rattle.chinese_number.specs.Places.{PointsAt}
use Rattle.cn_core.proofs.Within.{Judges-within, naive-within}

-- the same of a list of characters
record PointsAmong (cs : List ℕ) (char_index place : ℕ) : Type 0 where
  character : ℕ
  there : slice_get cs char_index ≡ Some character
  visible : is_whitespace character ≡ false
  before : length (filter is_not_whitespace (take char_index cs)) ≡ place

points-white : (c : ℕ) (cs : List ℕ) (char_index place : ℕ) → is_whitespace c ≡ true
    → PointsAmong cs char_index place → PointsAmong (c ∷ cs) (suc char_index) place
points-white c cs char_index place white p =
    record {
      character = p.character;
      there = p.there;
      visible = p.visible;
      before =
          rw white p.before;
    }

points-dark : (c : ℕ) (cs : List ℕ) (char_index place : ℕ) → is_whitespace c ≡ false
    → PointsAmong cs char_index place → PointsAmong (c ∷ cs) (suc char_index) (suc place)
points-dark c cs char_index place dark p =
    record {
      character = p.character;
      there = p.there;
      visible = p.visible;
      before =
          rw dark (ap suc p.before);
    }

PointsAmong-place : (cs : List ℕ) (place : ℕ) → place < length (filter is_not_whitespace cs)
    → PointsAmong cs (char_index_among cs place) place
PointsAmong-place [] place h = absurd (omega (arith, h))
PointsAmong-place (c ∷ cs) zero h = by (is_whitespace c) refl h (PointsAmong-place cs zero) where
  by : (b : Bool) → is_whitespace c ≡ b
      → 0 < length (if not b then c ∷ filter is_not_whitespace cs else filter is_not_whitespace cs)
      → (0 < length (filter is_not_whitespace cs) → PointsAmong cs (char_index_among cs zero) zero)
      → PointsAmong (c ∷ cs) (if b then suc (char_index_among cs zero) else 0) zero
  by true e h ih = points-white c cs (char_index_among cs zero) zero e (ih h)
  by false e h ih = record { character = c; there = refl; visible = e; before = refl }
PointsAmong-place (c ∷ cs) (suc place) h =
    by (is_whitespace c) refl h (PointsAmong-place cs (suc place))
    (PointsAmong-place cs place) where
      by : (b : Bool) → is_whitespace c ≡ b → suc place
          < length (if not b then c ∷ filter is_not_whitespace cs else filter is_not_whitespace cs)
          → (suc place < length (filter is_not_whitespace cs)
          → PointsAmong cs (char_index_among cs (suc place)) (suc place))
          → (place < length (filter is_not_whitespace cs)
          → PointsAmong cs (char_index_among cs place) place)
          → PointsAmong (c ∷ cs) (suc (char_index_among cs (if b then suc place else place)))
          (suc place)
      by true e h next same = points-white c cs (char_index_among cs (suc place)) (suc place) e
          (next h)
      by false e h next same = points-dark c cs (char_index_among cs place) place e
          (same (omega (arith, h)))

pub PointsAt-place : (bytes : List ℕ) (place : ℕ) → place < length (text_of bytes)
    → PointsAt bytes (char_index_of bytes place) place
PointsAt-place bytes place h =
    let p = PointsAmong-place (chars bytes) place h in
    record { character = p.character; there = p.there; visible = p.visible; before = p.before }

-- the place that a typed answer came from
no_place : (kind : Kind) (number : ℤ) (place : ℕ)
    → typed_number kind number ≡ Err (incorrect_at place) → ⊥
no_place kind number place h = by (int_lt kind.greatest number) (int_lt number kind.least) h where
  by : (a b : Bool) → (if a then Err too_large else (if b then Err too_small else Ok number))
      ≡ Err (incorrect_at place) → ⊥
  by true b h = cc
  by false true h = cc
  by false false h = cc

place_behind : (kind : Kind) (bytes : List ℕ) (sign : Option Sign) (judged : Result ℕ Refusal)
    (char_index : ℕ) → typed_answer kind bytes sign judged ≡ Err (incorrect_at char_index)
    → (place : ℕ) × (judged ≡ Err (incorrect_at place))
    × (char_index_of bytes (place + sign_len sign) ≡ char_index)
place_behind kind bytes sign (Ok number) char_index h =
    absurd (no_place kind (signed_number (is_minus sign) number) char_index h)
place_behind kind bytes sign (Err empty) char_index h = cc
place_behind kind bytes sign (Err (incorrect_at place)) char_index h = (place, refl, cc)
place_behind kind bytes None (Err too_large) char_index h = cc
place_behind kind bytes (Some Plus) (Err too_large) char_index h = cc
place_behind kind bytes (Some Minus) (Err too_large) char_index h = cc
place_behind kind bytes sign (Err too_small) char_index h = cc

-- a sign is a character of the text
after_sign : (signed : Bool) (text : List ℕ) (place : ℕ)
    → place < length (drop (sign_len (leading_sign signed text)) text)
    → place + sign_len (leading_sign signed text) < length text
after_sign signed text place h = omega (
  arith,
  h,
  length-drop (sign_len (leading_sign signed text)) text,
)

pub refusal_points : (kind : Kind) (bytes : List ℕ) (judged : Result ℕ Refusal) (char_index : ℕ)
    → let text = text_of bytes in let sign = leading_sign kind.signed text in
    ((place : ℕ) → judged ≡ Err (incorrect_at place)
    → place < length (marks_of (drop (sign_len sign) text)))
    → typed_answer kind bytes sign judged ≡ Err (incorrect_at char_index)
    → (place : ℕ) × (judged ≡ Err (incorrect_at place))
    × PointsAt bytes char_index (place + sign_len sign)
refusal_points kind bytes judged char_index within h =
    let text = text_of bytes in
    let sign = leading_sign kind.signed text in
    let p = place_behind kind bytes sign judged char_index h in
    let l = within p.0 p.1 in
    let low : p.0 < length (drop (sign_len sign) text) =
    omega (arith, l, length-map (drop (sign_len sign) text) mark_of) in (
      p.0,
      p.1,
      subst (λ s. PointsAt bytes s (p.0 + sign_len sign)) p.2
          (PointsAt-place bytes (p.0 + sign_len sign) (after_sign kind.signed text p.0 low)),
    )

pub Reads-points : (kind : Kind) (method : ChineseCountMethod) (bytes : List ℕ) (char_index : ℕ)
    → Reads kind method bytes (Err (incorrect_at char_index))
    → let text = text_of bytes in let sign = sign_len (leading_sign kind.signed text) in
    (place : ℕ) × Judges method (marks_of (drop sign text)) (Err (incorrect_at place))
    × PointsAt bytes char_index (place + sign)
Reads-points kind method bytes char_index (judged, is, answer) =
    let marks = marks_of (drop (sign_len (leading_sign kind.signed (text_of bytes)))
    (text_of bytes)) in
    let p = refusal_points kind bytes judged char_index
    (λ place e. Judges-within method marks place
    (subst (Judges method marks) e is)) (sym answer) in
    (p.0, subst (Judges method marks) p.1 is, p.2)

pub naive_reading-points : (kind : Kind) (bytes : List ℕ) (char_index : ℕ)
    → naive_reading kind bytes ≡ Err (incorrect_at char_index)
    → let text = text_of bytes in let sign = sign_len (leading_sign kind.signed text) in
    (place : ℕ) × (naive_answer (marks_of (drop sign text)) ≡ Err (incorrect_at place))
    × PointsAt bytes char_index (place + sign)
naive_reading-points kind bytes char_index h =
    let marks = marks_of (drop (sign_len (leading_sign kind.signed (text_of bytes)))
    (text_of bytes)) in
    refusal_points kind bytes (naive_answer marks) char_index
    (λ place e. naive-within marks place e) h
