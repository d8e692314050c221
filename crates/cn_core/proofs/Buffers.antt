-- The text in a buffer after a piece is written.
use Rattle.std.proofs.Common.{◌≡◌, ℕ, ◌+◌, ◌^◌, ◌<◌, ◌≤◌, Bool, true, false, nat_le, List, [], ◌++◌, length, take, drop, refl, sym, ap, ◌∙◌, arith, append_assoc, length-append, length-drop, take_at, drop_at}
use Rattle.std.specs.Bool.{MatchBool}
use Rattle.std.proofs.lemmas.Bool.Decides.{nat_tests}
use Rattle.std.proofs.lemmas.List.{drop-drop, length-take-le, take-append-le}
use Rattle.std.proofs.Math.Seq.{take-length}
use Rattle.cn_core.specs.declared.buffer.Buffer.{Buffer}
use Rattle.cn_core.specs.Buffers.{Appends, HasText, PutsIfTheyFit}

-- a text that fits is there as it is
pub text-there : (buffer start : Buffer) (text : List ℕ)
    → HasText start text buffer → length text ≤ length start.bytes.now
    → (buffer.count ≤ length buffer.bytes.now) × (take buffer.count buffer.bytes.now ≡ text)
text-there buffer start text has fits =
    let all : buffer.count ≡ length text =
    omega (arith, has.count, has.size, fits, buffer.small) in (
      omega (arith, all, has.size, fits),
      ap (take buffer.count) (has.fits fits)
          ∙ take_at text (drop (length text) start.bytes.now) buffer.count (sym all),
    )

-- a piece that fits is written after the text
piece-there : (lent text more bytes : List ℕ) → bytes ≡ text ++ drop (length text) lent
    → take (length text) bytes ++ (more ++ drop (length text + length more) bytes)
    ≡ (text ++ more) ++ drop (length (text ++ more)) lent
piece-there lent text more bytes is =
    ap (λ front. front ++ (more ++ drop (length text + length more) bytes))
    (ap (take (length text)) is ∙ take_at text behind (length text) refl)
    ∙ ap (λ rest. text ++ (more ++ rest)) rest ∙ sym (append_assoc text more _) where
      behind : List ℕ
      behind = drop (length text) lent

      rest : drop (length text + length more) bytes ≡ drop (length (text ++ more)) lent
      rest = sym (drop-drop (length more) (length text) bytes)
          ∙ ap (drop (length more)) (ap (drop (length text)) is ∙ drop_at text behind (length text) refl)
          ∙ drop-drop (length more) (length text) lent
          ∙ ap (λ n. drop n lent) (sym (length-append text more))

-- a piece is written if it fits, and counted
pub piece-put : (old new : Buffer) (more : List ℕ) → new.bytes.ghost_name ≡ old.bytes.ghost_name
    → PutsIfTheyFit old.count old.bytes.now new.count new.bytes.now more → Appends old new more
unfolding Appends
piece-put old new more lender put = λ start text h.
    by start text h (nat_le (old.count + length more) (length old.bytes.now)) refl put.1 where
      by : (start : Buffer) (text : List ℕ) → HasText start text old → (fits : Bool)
          → nat_le (old.count + length more) (length old.bytes.now) ≡ fits
          → MatchBool fits (new.bytes.now ≡ take old.count old.bytes.now
          ++ (more ++ drop (old.count + length more) old.bytes.now)) (new.bytes.now ≡ old.bytes.now)
          → HasText start (text ++ more) new
      by start text h true is bytes =
          let sizes = length-append text more in
          let fit : old.count + length more ≤ length old.bytes.now = grind (arith, nat_tests, is) in
          let all : old.count ≡ length text = omega (arith, fit, h.count, old.small) in
          let whole : new.bytes.now ≡ (text ++ more) ++ drop (length (text ++ more)) start.bytes.now =
          (rw all at bytes) ∙ piece-there start.bytes.now text more old.bytes.now
          (h.fits (omega (arith, all, fit, h.size))) in
          let kept = take-length (text ++ more) in
          record {
            lender = lender ∙ h.lender;
            size = omega (
              arith,
              ap length whole,
              length-append (text ++ more) (drop (length (text ++ more)) start.bytes.now),
              length-drop (length (text ++ more)) start.bytes.now,
              sizes,
              fit,
              all,
              h.size,
            );
            count = omega (arith, put.0, all, sizes);
            prefix = (
              length (text ++ more),
              omega arith,
              whole ∙ ap (λ front. front ++ drop (length (text ++ more)) start.bytes.now) (sym kept),
            );
            fits = λ _. whole;
          }
      by start text h false is bytes =
          let sizes = length-append text more in
          let over : length old.bytes.now < old.count + length more = grind (arith, nat_tests, is) in
          record {
            lender = lender ∙ h.lender;
            size = ap length bytes ∙ h.size;
            count = omega (arith, put.0, h.count, sizes);
            prefix = (
              h.prefix.0,
              omega (arith, h.prefix.1, sizes),
              bytes ∙ h.prefix.2 ∙ ap (λ front. front ++ drop h.prefix.0 start.bytes.now)
                  (sym (take-append-le h.prefix.0 text more h.prefix.1)),
            );
            fits = λ fits. absurd (omega (arith, fits, sizes, over, h.count, h.size));
          }

-- the bytes that are counted, if they are all there
pub counted-bytes : (from end : ℕ) (old new more : List ℕ) → PutsIfTheyFit from old end new more
    → length old < 2 ^ 63 → length new ≡ length old → end ≤ length new
    → (from ≤ length old) × (take end new ≡ take from old ++ more)
counted-bytes from end old new more put small size within =
    let fit : from + length more ≤ length old = omega (arith, put.0, small, size, within) in
    let is : nat_le (from + length more) (length old) ≡ true = grind (arith, nat_tests, fit) in
    let bytes : new ≡ take from old ++ (more ++ drop (from + length more) old) = rw is at put.1 in
    let long : length (take from old ++ more) ≡ end = omega (
      arith,
      length-append (take from old) more,
      length-take-le from old (omega (arith, fit)),
      put.0,
      fit,
      small,
    ) in (
      omega (arith, fit),
      ap (take end) (bytes ∙ sym (append_assoc (take from old) more (drop (from + length more) old)))
          ∙ take_at (take from old ++ more) (drop (from + length more) old) end long,
    )

-- a text that is written to a new buffer
pub first-text : (start new : Buffer) (text : List ℕ) → HasText start [] start
    → Appends start new text → HasText start text new
unfolding Appends
first-text start new text has put = put start [] has
