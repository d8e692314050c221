-- A text, cut at its first 分之, and before a percent sign at its end.
use Rattle.std.proofs.Common.{◌≡◌, ℕ, ◌+◌, ◌-◌, ◌<◌, true, false, ◌&&◌, nat_lt, List, [], ◌∷◌, ◌++◌, length, take, None, if◌then◌else◌, chars, refl, sym, ap, ◌∙◌, arith, append_assoc, append-nil, length-append}
use Rattle.std.proofs.lemmas.Bool.Decides.{nat_tests}
use Rattle.std.proofs.Math.Seq.{take-append_seam}
use Rattle.std.proofs.lemmas.List.{append_cancel_right}
use Rattle.cn_core.specs.Text.{text_of}
use Rattle.cn_quantity.specs.Characters.{is_fen, is_zhi, share_of}
use Rattle.cn_quantity.specs.Ratio.{after_bar, before_bar, begins_with_zhi, last_share, share}
use Rattle.cn_quantity.specs.Private.{BeginsWith, IsEnd, SplitsAtBar}
use Rattle.cn_quantity.proofs.Ends.{IsEnd-all, IsEnd-end, text-parts}

-- no 分之 begins before this suffix
pub record IsBarSought (bytes rest : List ℕ) : Type 0 where
  pub end : IsEnd bytes rest
  pub seen : List ℕ
  pub text : text_of bytes ≡ seen ++ text_of rest
  pub before : before_bar (text_of bytes) ≡ seen ++ before_bar (text_of rest)
  pub after : after_bar (text_of bytes) ≡ after_bar (text_of rest)

pub IsBarSought-none : (bytes : List ℕ) → IsBarSought bytes bytes
IsBarSought-none bytes =
    record { end = IsEnd-all bytes; seen = []; text = refl; before = refl; after = refl }

pub bar-gone : (c : ℕ) (l : List ℕ) → (is_fen c && begins_with_zhi l) ≡ false
    → after_bar (c ∷ l) ≡ after_bar l
bar-gone c [] none = refl
bar-gone c (next ∷ rest) none = rw none

pub bar-passed : (c : ℕ) (l : List ℕ) → (is_fen c && begins_with_zhi l) ≡ false
    → before_bar (c ∷ l) ≡ c ∷ before_bar l
bar-passed c l none = rw none

pub IsBarSought-more : (bytes rest after : List ℕ) (c : ℕ) → IsBarSought bytes rest
    → BeginsWith rest c after → (is_fen c && begins_with_zhi (text_of after)) ≡ false
    → IsBarSought bytes after
IsBarSought-more bytes rest after c s b none = record {
  end = IsEnd-end bytes rest after s.end b.end;
  seen = s.seen ++ c ∷ [];
  text = s.text ∙ ap (λ l. s.seen ++ l) b.text ∙ sym (append_assoc s.seen (c ∷ []) (text_of after));
  before = s.before ∙ ap (λ l. s.seen ++ before_bar l) b.text
      ∙ ap (λ l. s.seen ++ l) (bar-passed c (text_of after) none)
      ∙ sym (append_assoc s.seen (c ∷ []) (before_bar (text_of after)));
  after = s.after ∙ ap after_bar b.text ∙ bar-gone c (text_of after) none;
}

pub bar-stops : (c zhi : ℕ) (l : List ℕ) → is_fen c ≡ true → is_zhi zhi ≡ true
    → before_bar (c ∷ zhi ∷ l) ≡ []
bar-stops c zhi l e f = rw (e, f)

pub bar-cut : (c zhi : ℕ) (l : List ℕ) → is_fen c ≡ true → is_zhi zhi ≡ true
    → after_bar (c ∷ zhi ∷ l) ≡ l
bar-cut c zhi l e f = rw (e, f)

-- the position of the text after 分之
pub end-behind : (bytes rest after behind : List ℕ) (c zhi : ℕ) → IsBarSought bytes rest
    → BeginsWith rest c after → BeginsWith after zhi behind → IsEnd bytes behind
end-behind bytes rest after behind c zhi s b d =
    IsEnd-end bytes rest behind s.end (IsEnd-end rest after behind b.end d.end)

pub SplitsAtBar-at : (bytes rest after divisor front behind : List ℕ) (index c zhi : ℕ)
    → IsBarSought bytes rest → BeginsWith rest c after → is_fen c ≡ true → is_zhi zhi ≡ true
    → BeginsWith after zhi behind → chars bytes ≡ chars divisor ++ chars rest
    → chars bytes ≡ chars front ++ chars behind → index ≡ length (chars front)
    → SplitsAtBar bytes divisor index behind
SplitsAtBar-at bytes rest after divisor front behind index c zhi s b fen_is zhi_is d parts whole
    count = record {
      divisor_is = divisor_is;
      behind_is = sym (s.after ∙ ap after_bar ahead ∙ bar-cut c zhi (text_of behind) fen_is zhi_is);
      front = record { more = chars rest; parts = parts };
      stands = record {
        front = chars front;
        parts = whole;
        index_is = sym count;
        place_is =
            ap length front_is ∙ length-append (text_of divisor) (c ∷ zhi ∷ [])
            ∙ ap (λ l. length l + 2) divisor_is;
      };
    } where
      ahead : text_of rest ≡ c ∷ zhi ∷ text_of behind
      ahead = b.text ∙ ap (λ l. c ∷ l) d.text

      same : text_of divisor ≡ s.seen
      same = append_cancel_right (text_of divisor) s.seen (text_of rest)
          (sym (text-parts bytes divisor rest parts) ∙ s.text)

      divisor_is : text_of divisor ≡ before_bar (text_of bytes)
      divisor_is = same ∙ sym (s.before ∙ ap (λ l. s.seen ++ before_bar l) ahead
          ∙ ap (λ l. s.seen ++ l) (bar-stops c zhi (text_of behind) fen_is zhi_is)
          ∙ append-nil s.seen)

      front_is : text_of front ≡ text_of divisor ++ (c ∷ zhi ∷ [])
      front_is = append_cancel_right (text_of front) (text_of divisor ++ (c ∷ zhi ∷ []))
          (text_of behind) (sym (text-parts bytes front behind whole) ∙ s.text
          ∙ ap (λ l. l ++ text_of rest) (sym same) ∙ ap (λ l. text_of divisor ++ l) ahead
          ∙ sym (append_assoc (text_of divisor) (c ∷ zhi ∷ []) (text_of behind)))

pub none-barred : (bytes rest : List ℕ) → IsBarSought bytes rest → text_of rest ≡ []
    → after_bar (text_of bytes) ≡ []
none-barred bytes rest s none = s.after ∙ ap after_bar none

-- the last character
share-last : (c : ℕ) (xs : List ℕ) → last_share (xs ++ c ∷ []) ≡ share_of c
share-last c [] = refl
share-last c (x ∷ []) = refl
share-last c (x ∷ y ∷ rest) = share-last c (y ∷ rest)

pub share-none : (c : ℕ) (text before : List ℕ) → text ≡ before ++ c ∷ [] → before ≡ []
    → share text ≡ None
share-none c text before parts none = rw (parts, none)

pub share-some : (c x : ℕ) (text before rest : List ℕ) → text ≡ before ++ c ∷ []
    → before ≡ x ∷ rest → share text ≡ share_of c
share-some c x text before rest parts some =
    let size : 1 < length text =
    (let all = ap length parts in let front = ap length some in
    omega (arith, all, front, length-append before (c ∷ []))) in
    let test : nat_lt 1 (length text) ≡ true = grind (arith, nat_tests, size) in
    ap (λ b. if b then last_share text else None) test ∙ ap last_share parts ∙ share-last c before

pub front-taken : (c : ℕ) (text before : List ℕ) → text ≡ before ++ c ∷ []
    → before ≡ take (length text - 1) text
front-taken c text before parts =
    let size : length text - 1 ≡ length before =
    (let all = ap length parts in omega (arith, all, length-append before (c ∷ []))) in
    sym (ap (λ n. take n text) size ∙ ap (take (length before)) parts
    ∙ take-append_seam before (c ∷ []))
