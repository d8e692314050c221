-- A whole number, from what its parts are answered.
use Rattle.std.proofs.Common.{◌≡◌, ℕ, zero, suc, ◌+◌, ◌^◌, ◌<◌, ◌≤◌, Bool, true, false, not, nat_le, nat_lt, filter, List, [], ◌∷◌, ◌++◌, length, take, drop, chars, reverse, Option, Some, None, Result, Ok, Err, refl, sym, ap, ◌∙◌, arith, if◌then◌else◌, length-append, length-drop, length-take, zero-add}
use Rattle.std.proofs.lemmas.Bool.Decides.{nat_tests}
use Rattle.std.proofs.lemmas.List.{length-map}
use Rattle.std.proofs.Math.Seq.{take-append_seam, drop-append_seam}
use Rattle.std.proofs.Math.Nat.{pow-le-pow_right}
use Rattle.std.proofs.lemmas.Bool.{leb-true}
use Rattle.std.specs.Option.{option_map_or}
use Rattle.cn_core.specs.declared.method.ChineseCountMethod.{ChineseCountMethod}
use Rattle.cn_core.specs.CharIndex.{char_index_among, char_index_of}
use Rattle.cn_core.specs.Judging.{judge}
use Rattle.cn_core.specs.Mark.{mark_of}
use Rattle.cn_core.specs.Naive.{naive_answer}
use Rattle.cn_core.specs.Refusal.{Refusal, empty, incorrect_at, too_large, too_small}
use Rattle.cn_core.specs.Scale.{exponent, scale, scale_fits}
use Rattle.cn_core.specs.Text.{marks_of, text_of}
use Rattle.cn_core.proofs.Within.{judge-within, naive-within}
use Rattle.cn_judge.specs.Piece.{StandsAt, answer_at}
use Rattle.cn_judge.proofs.Pieces.{char_index-at, char_index-rest}
use Rattle.std.specs.Char.{is_not_whitespace, is_whitespace}
use Rattle.cn_quantity.specs.Answer.{and_then, further_by}
use Rattle.cn_quantity.specs.Misread.{bare_ten, bare_ten_between, first_misread, is_misread_at, misread_after}
use Rattle.cn_quantity.specs.Private.{SplitsAtMisread}
use Rattle.cn_quantity.specs.WholeNumber.{fitting, is_plain, later_of, misread_answer, reader_answer, refused_at, sum_answer, whole_answer}
use Rattle.cn_quantity.proofs.Ends.{text-parts}
use Rattle.cn_quantity.proofs.Told.{told-end, told-front, told-goes_on, told-stops}

-- which whole number the readers of numerals read
pub reader-plain : (method : ChineseCountMethod) (skipped : ℕ) (bytes text : List ℕ)
    (answer : Result ℕ Refusal) → is_plain text ≡ true
    → answer ≡ answer_at skipped bytes (naive_answer (marks_of text))
    → answer ≡ answer_at skipped bytes (reader_answer method text)
reader-plain method skipped bytes text answer plain is = rw plain is

pub reader-units : (method : ChineseCountMethod) (skipped : ℕ) (bytes text : List ℕ)
    (answer : Result ℕ Refusal) → is_plain text ≡ false
    → answer ≡ answer_at skipped bytes (judge method (marks_of text))
    → answer ≡ answer_at skipped bytes (reader_answer method text)
reader-units method skipped bytes text answer plain is = rw plain is

-- a refusal points into the text
judge-low : (method : ChineseCountMethod) (text : List ℕ) (place : ℕ)
    → judge method (marks_of text) ≡ Err (incorrect_at place) → place < length text
judge-low method text place h =
    let low = judge-within method (marks_of text) place h in
    let size = length-map text mark_of in omega (arith, low, size)

pub reader-low : (method : ChineseCountMethod) (text : List ℕ) (place : ℕ)
    → reader_answer method text ≡ Err (incorrect_at place) → place < length text
reader-low method text place h = by (is_plain text) h where
  by : (b : Bool) → (if b then naive_answer (marks_of text) else judge method (marks_of text))
      ≡ Err (incorrect_at place) → place < length text
  by true e =
      let low = naive-within (marks_of text) place e in
      let size = length-map text mark_of in omega (arith, low, size)
  by false e = judge-low method text place e

misread-low : (front text : List ℕ) (place : ℕ) → misread_after front text ≡ Some place
    → place < length front + length text
misread-low front [] place h = cc
misread-low front (c ∷ after) place h =
    by (is_misread_at front c after) h (misread-low (c ∷ front) after place) where
      by : (b : Bool) → (if b then Some (length front) else misread_after (c ∷ front) after)
          ≡ Some place
          → (misread_after (c ∷ front) after ≡ Some place
          → place < length (c ∷ front) + length after)
          → place < length front + length (c ∷ after)
      by true e ih = let same : length front ≡ place = cc in omega (arith, same)
      by false e ih = let low = ih e in omega (arith, low)

-- a place that the sum of two parts names is in one of them
further-low : (size more place : ℕ) (answer : Result ℕ Refusal)
    → ((p : ℕ) → answer ≡ Err (incorrect_at p) → p < more)
    → further_by size answer ≡ Err (incorrect_at place) → place < size + more
further-low size more place (Ok number) low h = cc
further-low size more place (Err empty) low h = cc
further-low size more place (Err too_large) low h = cc
further-low size more place (Err too_small) low h = cc
further-low size more place (Err (incorrect_at p)) low h =
    let same : p + size ≡ place = cc in
    let less = low p refl in omega (arith, same, less)

fitting-placeless : (number place : ℕ) → fitting number ≡ Err (incorrect_at place) → ⊥
fitting-placeless number place h = by (nat_lt number (2 ^ 128)) h where
  by : (b : Bool) → (if b then Ok number else Err too_large) ≡ Err (incorrect_at place) → ⊥
  by true e = cc
  by false e = cc

at-front : {size : ℕ} (place : ℕ)
    → ◌≡◌ {A = Result ℕ Refusal} (Err (incorrect_at size)) (Err (incorrect_at place))
    → size ≡ place
at-front place h = cc

sum-low : (method : ChineseCountMethod) (rank : ℕ) (before from : List ℕ) (place : ℕ)
    → 0 < length from → sum_answer method rank before from ≡ Err (incorrect_at place)
    → place < length before + length from
sum-low method rank before from place some h = by (judge method (marks_of before)) refl h where
  below : (b : Bool) (sum : ℕ)
      → (if b then fitting sum else Err (incorrect_at (length before)))
      ≡ Err (incorrect_at place) → place < length before + length from
  below true sum e = absurd (fitting-placeless sum place e)
  below false sum e = omega (arith, at-front place e, some)

  next : (first : ℕ) (second : Result ℕ Refusal)
      → further_by (length before) (judge method (marks_of from)) ≡ second
      → and_then second (λ second. if nat_lt second (scale method rank)
      then fitting (first + second) else Err (incorrect_at (length before)))
      ≡ Err (incorrect_at place) → place < length before + length from
  next first (Ok second) is e = below (nat_lt second (scale method rank)) (first + second) e
  next first (Err refusal) is e =
      let same : Err refusal ≡ Err (incorrect_at place) = cc in
      further-low (length before) (length from) place (judge method (marks_of from))
      (judge-low method from) (is ∙ same)

  by : (first : Result ℕ Refusal) → judge method (marks_of before) ≡ first
      → and_then first (λ first.
      and_then (further_by (length before) (judge method (marks_of from))) (λ second.
      if nat_lt second (scale method rank) then fitting (first + second)
      else Err (incorrect_at (length before)))) ≡ Err (incorrect_at place)
      → place < length before + length from
  by (Ok first) is e = next first (further_by (length before) (judge method (marks_of from))) refl e
  by (Err refusal) is e =
      let same : Err refusal ≡ Err (incorrect_at place) = cc in
      let low = judge-low method before place (is ∙ same) in omega (arith, low)

-- what refuses a misread text is in it
refused-low : (method : ChineseCountMethod) (before from : List ℕ) (place : ℕ) → 0 < length from
    → refused_at (reader_answer method (before ++ from)) (length before) ≡ Err (incorrect_at place)
    → place < length before + length from
refused-low method before from place some h = by (reader_answer method (before ++ from)) refl h where
  size : length (before ++ from) ≡ length before + length from
  size = length-append before from

  later : (p : ℕ) → reader_answer method (before ++ from) ≡ Err (incorrect_at p)
      → (b : Bool) → (if b then length before else p) ≡ place → place < length before + length from
  later p is true same = omega (arith, same, some)
  later p is false same =
      let low = reader-low method (before ++ from) p is in omega (arith, low, same, size)

  by : (answer : Result ℕ Refusal) → reader_answer method (before ++ from) ≡ answer
      → refused_at answer (length before) ≡ Err (incorrect_at place)
      → place < length before + length from
  by (Ok number) is e = omega (arith, at-front place e, some)
  by (Err (incorrect_at p)) is e = later p is (nat_le p (length before)) (at-front place e)
  by (Err empty) is e = cc
  by (Err too_large) is e = cc
  by (Err too_small) is e = cc

misread_answer-low : (method : ChineseCountMethod) (before from : List ℕ) (place : ℕ)
    → 0 < length from → misread_answer method before from ≡ Err (incorrect_at place)
    → place < length before + length from
misread_answer-low method before from place some h = by (bare_ten_between before from) h where
  by : (bare : Option ℕ) → option_map_or (λ rank. sum_answer method rank before from) bare
      (refused_at (reader_answer method (before ++ from)) (length before))
      ≡ Err (incorrect_at place)
      → place < length before + length from
  by (Some rank) e = sum-low method rank before from place some e
  by None e = refused-low method before from place some e

-- a refusal of a whole number points into its text
pub whole-low : (method : ChineseCountMethod) (text : List ℕ) (place : ℕ)
    → whole_answer method text ≡ Err (incorrect_at place) → place < length text
whole-low method text place h = by (first_misread text) refl h where
  by : (found : Option ℕ) → first_misread text ≡ found
      → option_map_or (λ place. misread_answer method (take place text) (drop place text)) found
      (reader_answer method text) ≡ Err (incorrect_at place) → place < length text
  by None is e = reader-low method text place e
  by (Some p) is e =
      let within = misread-low [] text p is in
      let front : length (take p text) ≡ p = grind (arith, length-take p text, within) in
      let back = length-drop p text in
      let low = misread_answer-low method (take p text) (drop p text) place
      (omega (arith, back, within)) e in
      omega (arith, low, front, back, within)

-- a text that is not misread
pub whole-reader : (method : ChineseCountMethod) (text : List ℕ) → first_misread text ≡ None
    → whole_answer method text ≡ reader_answer method text
whole-reader method text none = rw none

-- a text that is misread
pub whole-misread : (method : ChineseCountMethod) (bytes before from : List ℕ) (bare : Option ℕ)
    → SplitsAtMisread bytes before from bare
    → whole_answer method (text_of bytes)
    ≡ misread_answer method (text_of before) (text_of from)
whole-misread method bytes before from bare s =
    let parts = text-parts bytes before from s.parts in
    let place = s.place in
    rw (
      place,
      parts,
      take-append_seam (text_of before) (text_of from),
      drop-append_seam (text_of before) (text_of from),
    ) refl

pub bare-between : (before from : List ℕ) (first : ℕ) (after : List ℕ)
    → from ≡ first ∷ after → first_misread from ≡ None
    → bare_ten_between before from ≡ bare_ten (marks_of (reverse before)) (mark_of first)
bare-between before from first after is none = rw is (let n = rw is at none in rw n)

bare-none : (before from : List ℕ) (place : ℕ) → first_misread from ≡ Some place
    → bare_ten_between before from ≡ None
bare-none before [] place is = refl
bare-none before (c ∷ after) place is = rw is

-- a later place has no smaller char_index
char_index-rises : (text : List ℕ) (one two : ℕ) → one ≤ two
    → char_index_among text one ≤ char_index_among text two
char_index-rises [] one two le = omega arith
char_index-rises (c ∷ rest) one two le = by (is_whitespace c) one two le refl
    (char_index-rises rest) where
      by : (b : Bool) (one two : ℕ) → one ≤ two → is_whitespace c ≡ b
          → ((one two : ℕ) → one ≤ two → char_index_among rest one ≤ char_index_among rest two)
          → char_index_among (c ∷ rest) one ≤ char_index_among (c ∷ rest) two
      by true zero zero le white ih = omega arith
      by true zero (suc two) le white ih = rw white (let h = ih 0 (suc two) le in omega (arith, h))
      by true (suc one) (suc two) le white ih =
          rw white (let h = ih (suc one) (suc two) le in omega (arith, h))
      by false zero two le dark ih = rw dark (omega arith)
      by false (suc one) (suc two) le dark ih =
          rw dark (let h = ih one two (omega (arith, le)) in omega (arith, h))
      by b (suc one) zero le is ih = absurd (omega (arith, le))

-- a later place has a greater char_index
char_index-grows : (text : List ℕ) (one two : ℕ) → one < two
    → one < length (filter is_not_whitespace text)
    → char_index_among text one < char_index_among text two
char_index-grows [] one two less low = absurd (omega (arith, low))
char_index-grows (c ∷ rest) one two less low = by (is_whitespace c) one two less refl low
    (char_index-grows rest) where
      by : (b : Bool) (one two : ℕ) → one < two → is_whitespace c ≡ b
          → one < length (if not b then c ∷ filter is_not_whitespace rest
          else filter is_not_whitespace rest)
          → ((one two : ℕ) → one < two → one < length (filter is_not_whitespace rest)
          → char_index_among rest one < char_index_among rest two)
          → char_index_among (c ∷ rest) one < char_index_among (c ∷ rest) two
      by true zero (suc two) less white low ih =
          rw white (let h = ih 0 (suc two) less low in omega (arith, h))
      by true (suc one) (suc two) less white low ih =
          rw white (let h = ih (suc one) (suc two) less low in omega (arith, h))
      by false zero (suc two) less dark low ih = rw dark (omega arith)
      by false (suc one) (suc two) less dark low ih =
          rw dark (let h = ih one two (omega (arith, less)) (omega (arith, low)) in omega (arith, h))
      by b one zero less is low ih = absurd (omega (arith, less))

-- a place in a text is later exactly if its char_index is greater
pub later-same : (skipped : ℕ) (bytes : List ℕ) (place p : ℕ) → p < length (text_of bytes)
    → nat_lt (skipped + char_index_of bytes place) (skipped + char_index_of bytes p)
    ≡ nat_lt place p
later-same skipped bytes place p low = by (nat_lt place p) refl where
  by : (b : Bool) → nat_lt place p ≡ b
      → nat_lt (skipped + char_index_of bytes place) (skipped + char_index_of bytes p) ≡ b
  by true is =
      let less : place < p = grind (arith, nat_tests, is) in
      let grows = char_index-grows (chars bytes) place p less (omega (arith, less, low)) in
      grind (arith, nat_tests, grows)
  by false is =
      let small : p ≤ place = grind (arith, nat_tests, is) in
      let rises = char_index-rises (chars bytes) p place small in
      grind (arith, nat_tests, rises)

-- the later of two places in a text is that in the string
places-later : (skipped : ℕ) (bytes : List ℕ) (one two : ℕ)
    → later_of (incorrect_at (skipped + char_index_of bytes one))
    (incorrect_at (skipped + char_index_of bytes two))
    ≡ incorrect_at (skipped + char_index_of bytes (if nat_le one two then two else one))
places-later skipped bytes one two = by (nat_le one two) refl where
  index : ℕ → ℕ
  index place = skipped + char_index_of bytes place

  next : (b c : Bool) → nat_le one two ≡ b → nat_le (index one) (index two) ≡ c
      → (if c then index two else index one) ≡ index (if b then two else one)
  next true true le is = refl
  next false false le is = refl
  next true false le is =
      let small : one ≤ two = grind (arith, nat_tests, le) in
      let rises = char_index-rises (chars bytes) one two small in
      absurd (grind (arith, nat_tests, rises, is))
  next false true le is =
      let more : two ≤ one = grind (arith, nat_tests, le) in
      let rises = char_index-rises (chars bytes) two one more in
      let same : index two ≤ index one = omega (arith, rises) in
      let other : index one ≤ index two = grind (arith, nat_tests, is) in
      omega (arith, same, other)

  by : (b : Bool) → nat_le one two ≡ b
      → later_of (incorrect_at (index one)) (incorrect_at (index two))
      ≡ incorrect_at (index (if nat_le one two then two else one))
  by b is =
      ap incorrect_at (rw is (next b (nat_le (index one) (index two)) is refl))

-- the later of the readers' refusal and one at a place
pub refused-later : (skipped : ℕ) (bytes : List ℕ) (place : ℕ) (answer : Result ℕ Refusal)
    (refusal : Refusal) → Err refusal ≡ answer_at skipped bytes answer
    → Err (later_of refusal (incorrect_at (skipped + char_index_of bytes place)))
    ≡ answer_at skipped bytes (refused_at answer place)
refused-later skipped bytes place (Ok number) refusal is = cc
refused-later skipped bytes place (Err empty) refusal is =
    let same : refusal ≡ empty = cc in rw same
refused-later skipped bytes place (Err too_large) refusal is =
    let same : refusal ≡ too_large = cc in rw same
refused-later skipped bytes place (Err too_small) refusal is =
    let same : refusal ≡ too_small = cc in rw same
refused-later skipped bytes place (Err (incorrect_at p)) refusal is =
    let same : refusal ≡ incorrect_at (skipped + char_index_of bytes p) = cc in
    rw same (ap Err (places-later skipped bytes p place))

-- which answer a misread text has
pub misread-refused : (method : ChineseCountMethod) (skipped : ℕ) (bytes before from : List ℕ)
    (refusal : Refusal) (bare : Option ℕ) → SplitsAtMisread bytes before from bare
    → bare_ten_between (text_of before) (text_of from) ≡ None
    → Err refusal ≡ answer_at skipped bytes
    (refused_at (reader_answer method (text_of bytes)) (length (text_of before)))
    → Err refusal ≡ answer_at skipped bytes (misread_answer method (text_of before) (text_of from))
misread-refused method skipped bytes before from refusal bare s none is =
    let parts = text-parts bytes before from s.parts in
    let whole = rw parts at is in rw none whole

pub no-bare : (bytes before from : List ℕ) (bare : Option ℕ) → bare ≡ None
    → SplitsAtMisread bytes before from bare
    → bare_ten_between (text_of before) (text_of from) ≡ None
no-bare bytes before from bare none s = by (first_misread (text_of from)) refl where
  by : (found : Option ℕ) → first_misread (text_of from) ≡ found
      → bare_ten_between (text_of before) (text_of from) ≡ None
  by None is =
      bare-between (text_of before) (text_of from) s.first s.after s.from_is is
      ∙ sym s.bare_is ∙ none
  by (Some place) is = bare-none (text_of before) (text_of from) place is

-- the parts of a sum, with places counted in the whole text
front-told : (method : ChineseCountMethod) (skipped : ℕ) (bytes before from : List ℕ)
    → chars bytes ≡ chars before ++ chars from
    → answer_at skipped before (judge method (marks_of (text_of before)))
    ≡ answer_at skipped bytes (judge method (marks_of (text_of before)))
front-told method skipped bytes before from parts =
    told-front skipped bytes before (judge method (marks_of (text_of before)))
    (record { more = chars from; parts = parts }) (judge-low method (text_of before))

end-told : (method : ChineseCountMethod) (skipped : ℕ) (bytes before from : List ℕ)
    → chars bytes ≡ chars before ++ chars from
    → answer_at (skipped + length (chars before)) from (judge method (marks_of (text_of from)))
    ≡ answer_at skipped bytes
    (further_by (length (text_of before)) (judge method (marks_of (text_of from))))
end-told method skipped bytes before from parts =
    told-end skipped bytes from (length (chars before)) (length (text_of before))
    (judge method (marks_of (text_of from)))
    (record { front = chars before; parts = parts; index_is = refl; place_is = refl })

pub sum-stops : (method : ChineseCountMethod) (skipped rank : ℕ) (bytes before from : List ℕ)
    (refusal : Refusal) → chars bytes ≡ chars before ++ chars from
    → Err refusal ≡ answer_at skipped before (judge method (marks_of (text_of before)))
    → Err refusal
    ≡ answer_at skipped bytes (sum_answer method rank (text_of before) (text_of from))
sum-stops method skipped rank bytes before from refusal parts h =
    told-stops skipped bytes (judge method (marks_of (text_of before))) _ refusal
    (h ∙ front-told method skipped bytes before from parts)

sum-after : (method : ChineseCountMethod) (skipped rank first : ℕ) (bytes before from : List ℕ)
    → chars bytes ≡ chars before ++ chars from
    → Ok first ≡ answer_at skipped before (judge method (marks_of (text_of before)))
    → sum_answer method rank (text_of before) (text_of from)
    ≡ and_then (further_by (length (text_of before)) (judge method (marks_of (text_of from))))
    (λ second. if nat_lt second (scale method rank) then fitting (first + second)
    else Err (incorrect_at (length (text_of before))))
sum-after method skipped rank first bytes before from parts h =
    told-goes_on skipped bytes (judge method (marks_of (text_of before))) _ first
    (h ∙ front-told method skipped bytes before from parts)

pub sum-stops_after : (method : ChineseCountMethod) (skipped rank first : ℕ)
    (bytes before from : List ℕ) (refusal : Refusal) → chars bytes ≡ chars before ++ chars from
    → Ok first ≡ answer_at skipped before (judge method (marks_of (text_of before)))
    → Err refusal ≡ answer_at (skipped + length (chars before)) from
    (judge method (marks_of (text_of from)))
    → Err refusal
    ≡ answer_at skipped bytes (sum_answer method rank (text_of before) (text_of from))
sum-stops_after method skipped rank first bytes before from refusal parts h g =
    told-stops skipped bytes
    (further_by (length (text_of before)) (judge method (marks_of (text_of from)))) _ refusal
    (g ∙ end-told method skipped bytes before from parts)
    ∙ ap (answer_at skipped bytes) (sym (sum-after method skipped rank first bytes before from parts h))

both-read : (method : ChineseCountMethod) (skipped rank first second : ℕ)
    (bytes before from : List ℕ) → chars bytes ≡ chars before ++ chars from
    → Ok first ≡ answer_at skipped before (judge method (marks_of (text_of before)))
    → Ok second ≡ answer_at (skipped + length (chars before)) from
    (judge method (marks_of (text_of from)))
    → sum_answer method rank (text_of before) (text_of from)
    ≡ (if nat_lt second (scale method rank) then fitting (first + second)
    else Err (incorrect_at (length (text_of before))))
both-read method skipped rank first second bytes before from parts h g =
    sum-after method skipped rank first bytes before from parts h
    ∙ told-goes_on skipped bytes
    (further_by (length (text_of before)) (judge method (marks_of (text_of from)))) _ second
    (g ∙ end-told method skipped bytes before from parts)

fitting-told : (skipped : ℕ) (bytes : List ℕ) (number : ℕ)
    → fitting number ≡ answer_at skipped bytes (fitting number)
fitting-told skipped bytes number = by (nat_lt number (2 ^ 128)) where
  by : (b : Bool) → ◌≡◌ {A = Result ℕ Refusal} (if b then Ok number else Err too_large)
      (answer_at skipped bytes (if b then Ok number else Err too_large))
  by true = refl
  by false = refl

pub sum-goes_on : (method : ChineseCountMethod) (skipped rank first second : ℕ)
    (bytes before from : List ℕ) (answer : Result ℕ Refusal)
    → chars bytes ≡ chars before ++ chars from
    → Ok first ≡ answer_at skipped before (judge method (marks_of (text_of before)))
    → Ok second ≡ answer_at (skipped + length (chars before)) from
    (judge method (marks_of (text_of from)))
    → nat_lt second (scale method rank) ≡ true → answer ≡ fitting (first + second)
    → answer ≡ answer_at skipped bytes (sum_answer method rank (text_of before) (text_of from))
sum-goes_on method skipped rank first second bytes before from answer parts h g below is =
    is ∙ fitting-told skipped bytes (first + second)
    ∙ ap (answer_at skipped bytes) (sym (both-read method skipped rank first second bytes before from
    parts h g ∙ rw below))

pub sum-refused : (method : ChineseCountMethod) (skipped rank first second : ℕ)
    (bytes before from : List ℕ) (refusal : Refusal)
    → chars bytes ≡ chars before ++ chars from
    → Ok first ≡ answer_at skipped before (judge method (marks_of (text_of before)))
    → Ok second ≡ answer_at (skipped + length (chars before)) from
    (judge method (marks_of (text_of from)))
    → nat_lt second (scale method rank) ≡ false
    → refusal ≡ incorrect_at (skipped + char_index_of bytes (length (text_of before)))
    → Err refusal ≡ answer_at skipped bytes (sum_answer method rank (text_of before) (text_of from))
sum-refused method skipped rank first second bytes before from refusal parts h g below is =
    let whole : sum_answer method rank (text_of before) (text_of from)
    ≡ Err (incorrect_at (length (text_of before))) =
    both-read method skipped rank first second bytes before from parts h g ∙ rw below refl in
    ap Err is ∙ ap (answer_at skipped bytes) (sym whole)

-- a unit whose scale does not fit 128 bits is above each number that does
pub unfit-above : (method : ChineseCountMethod) (rank number : ℕ) → scale_fits method rank ≡ false
    → number < 2 ^ 128 → nat_lt number (scale method rank) ≡ true
unfit-above method rank number unfit small =
    let much : 39 ≤ exponent method rank = grind (arith, nat_tests, unfit) in
    let power : 10 ^ 39 ≤ 10 ^ exponent method rank = pow-le-pow_right (omega arith) much in
    let least : 2 ^ 128 ≤ 10 ^ 39 = leb-true _ _ refl in
    grind (arith, nat_tests, power, least, small)

-- the position of the misread character in the string
pub misread-index : (bytes before from rest : List ℕ) (bare : Option ℕ) (index c : ℕ)
    → SplitsAtMisread bytes before from bare → StandsAt from (c ∷ chars rest) index 0
    → is_whitespace c ≡ false
    → length (chars before) + index ≡ char_index_of bytes (length (text_of before))
misread-index bytes before from rest bare index c s at dark =
    let inner : char_index_of from 0 ≡ index = char_index-at from (chars rest) c index 0 at dark in
    let there = char_index-rest bytes from (length (chars before)) (length (text_of before)) 0
    (record { front = chars before; parts = s.parts; index_is = refl; place_is = refl }) in
    rw zero-add at (sym (there ∙ ap (λ n. length (chars before) + n) inner))
