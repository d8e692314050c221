-- The char_index in the string of a place of a text.
use Rattle.std.proofs.Common.{◌≡◌, ℤ, ℕ, zero, suc, ◌+◌, Bool, true, false, List, [], ◌∷◌, ◌++◌, length, filter, chars, drop, Ok, Err, Result, refl, sym, ap, ◌∙◌, arith, append_assoc, length-append, add-zero, zero-add, Option}
use Rattle.std.proofs.Math.Seq.{drop-append_seam}
use Rattle.std.specs.Char.{is_whitespace, is_not_whitespace}
use Rattle.cn_core.specs.declared.method.ChineseCountMethod.{ChineseCountMethod}
use Rattle.cn_core.specs.declared.sign.Sign.{Sign}
use Rattle.cn_core.specs.Judge.{Judges}
use Rattle.cn_core.specs.Refusal.{Refusal, empty, incorrect_at, too_large, too_small}
use Rattle.cn_core.specs.CharIndex.{char_index_among, char_index_of}
use Rattle.cn_core.specs.Text.{text_of, marks_of}
use Rattle.cn_core.specs.Reading.{Reads, leading_sign, typed_answer, sign_len}
use Rattle.cn_core.specs.Whole.{Kind}
use Rattle.cn_judge.specs.Piece.{StandsAt, EndsWith, answer_at}
use Rattle.cn_judge.specs.Signed.{signed_answer}
use Rattle.cn_judge.proofs.Walking.{filter-append}

-- the char_index after one more character
char_index-white : (c : ℕ) (rest : List ℕ) (place : ℕ) → is_whitespace c ≡ true
    → char_index_among (c ∷ rest) place ≡ suc (char_index_among rest place)
char_index-white c rest zero white = rw white
char_index-white c rest (suc place) white = rw white

char_index-dark : (c : ℕ) (rest : List ℕ) (place : ℕ) → is_whitespace c ≡ false
    → char_index_among (c ∷ rest) (suc place) ≡ suc (char_index_among rest place)
char_index-dark c rest place dark = rw dark

char_index-here : (c : ℕ) (rest : List ℕ) → is_whitespace c ≡ false
    → char_index_among (c ∷ rest) 0 ≡ 0
char_index-here c rest dark = rw dark

-- the characters of a prefix are all counted
char_index-front : (front rest : List ℕ) (place : ℕ)
    → char_index_among (front ++ rest) (place + length (filter is_not_whitespace front))
    ≡ length front + char_index_among rest place
char_index-front [] rest place = rw (add-zero, zero-add)
char_index-front (c ∷ front) rest place =
    by (is_whitespace c) refl (char_index-front front rest place) where
      by : (b : Bool) → is_whitespace c ≡ b
          → char_index_among (front ++ rest) (place + length (filter is_not_whitespace front))
          ≡ length front + char_index_among rest place
          → char_index_among (c ∷ front ++ rest)
          (place + length (filter is_not_whitespace (c ∷ front)))
          ≡ suc (length front) + char_index_among rest place
      by true white ih = rw (white, char_index-white c (front ++ rest) _ white, ih) (omega arith)
      by false dark ih =
          let next : place + suc (length (filter is_not_whitespace front))
          ≡ suc (place + length (filter is_not_whitespace front)) = omega arith in
          rw (dark, next, char_index-dark c (front ++ rest) _ dark, ih) (omega arith)

-- the char_index of the character at a place
pub char_index-at : (bytes rest : List ℕ) (c index place : ℕ)
    → StandsAt bytes (c ∷ rest) index place → is_whitespace c ≡ false
    → char_index_of bytes place ≡ index
char_index-at bytes rest c index place at dark =
    rw (at.parts, ← at.place_is)
    (rw zero-add at (char_index-front at.front (c ∷ rest) 0)
    ∙ ap (λ n. length at.front + n) (char_index-here c rest dark) ∙ add-zero (length at.front)
    ∙ at.index_is)

-- one more character is passed
pub StandsAt-white : (bytes rest : List ℕ) (c index place : ℕ)
    → StandsAt bytes (c ∷ rest) index place → is_whitespace c ≡ true
    → StandsAt bytes rest (index + 1) place
StandsAt-white bytes rest c index place at white = record {
  front = at.front ++ c ∷ [];
  parts = at.parts ∙ sym (append_assoc at.front (c ∷ []) rest);
  index_is = (let i = at.index_is in omega (arith, i, length-append at.front (c ∷ [])));
  place_is = rw (filter-append, white) (ap length (append_none (filter is_not_whitespace at.front))
      ∙ at.place_is);
} where
  append_none : (xs : List ℕ) → xs ++ [] ≡ xs
  append_none [] = refl
  append_none (x ∷ xs) = ap (λ l. x ∷ l) (append_none xs)

pub StandsAt-dark : (bytes rest : List ℕ) (c index place : ℕ)
    → StandsAt bytes (c ∷ rest) index place → is_whitespace c ≡ false
    → StandsAt bytes rest (index + 1) (place + 1)
StandsAt-dark bytes rest c index place at dark = record {
  front = at.front ++ c ∷ [];
  parts = at.parts ∙ sym (append_assoc at.front (c ∷ []) rest);
  index_is = (let i = at.index_is in omega (arith, i, length-append at.front (c ∷ [])));
  place_is = rw (filter-append, dark) (let i =
      at.place_is in omega (arith, i, length-append (filter is_not_whitespace at.front) (c ∷ [])));
}

-- the text of a suffix
pub text_of-rest : (bytes rest : List ℕ) (index place : ℕ)
    → StandsAt bytes (chars rest) index place → drop place (text_of bytes) ≡ text_of rest
text_of-rest bytes rest index place at =
    rw (
      at.parts,
      filter-append,
      ← at.place_is,
    ) (drop-append_seam (filter is_not_whitespace at.front) (text_of rest))

-- the char_index of a place after a prefix
pub char_index-rest : (bytes rest : List ℕ) (index place p : ℕ)
    → StandsAt bytes (chars rest) index place
    → char_index_of bytes (p + place) ≡ index + char_index_of rest p
char_index-rest bytes rest index place p at =
    rw (at.parts, ← at.place_is, ← at.index_is) (char_index-front at.front (chars rest) p)

-- the answer for a type, from the answer to the text after the sign
pub typed-rest : (kind : Kind) (bytes rest : List ℕ) (skipped : ℕ) (sign : Option Sign)
    (judged : Result ℕ Refusal)
    → StandsAt bytes (chars rest) skipped (sign_len sign)
    → signed_answer kind sign (answer_at skipped rest judged) ≡ typed_answer kind bytes sign judged
typed-rest kind bytes rest skipped sign (Ok number) at = refl
typed-rest kind bytes rest skipped sign (Err empty) at = refl
typed-rest kind bytes rest skipped sign (Err too_large) at = refl
typed-rest kind bytes rest skipped sign (Err too_small) at = refl
typed-rest kind bytes rest skipped sign (Err (incorrect_at place)) at =
    ap (λ n. Err (incorrect_at n))
    (sym (char_index-rest bytes rest skipped (sign_len sign) place at))

-- the answer to a string, from its sign and the judgement of the text after it
pub Reads-signed : (kind : Kind) (method : ChineseCountMethod) (bytes rest : List ℕ) (skipped : ℕ)
    (signed : Bool) (sign : Option Sign) (judged : Result ℕ Refusal) (answer : Result ℤ Refusal)
    → kind.signed ≡ signed → sign ≡ leading_sign signed (text_of bytes)
    → StandsAt bytes (chars rest) skipped (sign_len sign)
    → Judges method (marks_of (text_of rest)) judged
    → answer ≡ signed_answer kind sign (answer_at skipped rest judged)
    → Reads kind method bytes answer
Reads-signed kind method bytes rest skipped signed sign judged answer same leads at judges is =
    let sign_is : sign ≡ leading_sign kind.signed (text_of bytes) =
    leads ∙ ap (λ s. leading_sign s (text_of bytes)) (sym same) in (
      judged,
      rw (← sign_is, text_of-rest bytes rest skipped (sign_len sign) at) judges,
      is ∙ typed-rest kind bytes rest skipped sign judged at
          ∙ ap (λ s. typed_answer kind bytes s judged) sign_is,
    )

-- the text of a string by its last character
pub text-last : (bytes before : List ℕ) (c : ℕ) → EndsWith bytes c before
    → text_of bytes ≡ text_of before ++ c ∷ []
text-last bytes before c e = rw (e.parts, filter-append, e.dark, e.blank)
