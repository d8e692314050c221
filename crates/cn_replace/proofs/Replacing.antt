-- A text is written piece by piece with its expressions replaced.
use Rattle.std.proofs.Common.{◌≡◌, ℕ, ◌+◌, ◌≤◌, nat_le, true, false, List, [], ◌∷◌, ◌++◌, length, slice_index_or, drop, chars, encode_utf8_all, IsUtf8, IsCharBoundary, Option, Some, None, is_some, unwrap_or, refl, sym, ap, subst, ◌∙◌, arith, append_assoc, length-append}
use Rattle.std.specs.List.{Contains}
use Rattle.std.proofs.lemmas.Bool.Decides.{nat_tests}
use Rattle.std.proofs.lemmas.List.{get_or_append_left}
use Rattle.std.proofs.lemmas.List.Elements.{Contains-append_right}
use Rattle.std.proofs.lemmas.Str.{IsCharBoundary-at_seam, IsCharBoundary-start, encodes-append, encodes-chars}
use Rattle.cn_core.proofs.Fronts.{and-left, and-right}
use Rattle.cn_find.specs.declared.wanted.Wanted.{Wanted}
use Rattle.cn_find.specs.Expressions.{expression_rule}
use Rattle.cn_find.specs.Runs.{IsRunBy, is_rising}
use Rattle.cn_find.specs.Spans.{Span, expressions}
use Rattle.cn_find.proofs.RunLaws.{found-is_run, spans-rise}
use Rattle.cn_replace.specs.Replaced.{replaced, replaced_from, text_for}

-- an expression is between the texts before and after it
pub parts-of : (wanted : Wanted) (bytes : List ℕ) (span : Span) → IsUtf8 bytes
    → Contains (expressions wanted bytes) span
    → bytes ≡ span.before ++ (span.text ++ span.after)
parts-of wanted bytes span utf8 found =
    sym (encodes-chars bytes utf8) ∙ ap encode_utf8_all r.parts
    ∙ encodes-append r.left (r.run ++ r.right)
    ∙ ap (λ l. encode_utf8_all r.left ++ l) (encodes-append r.run r.right)
    ∙ ap (λ l. l ++ (encode_utf8_all r.run ++ encode_utf8_all r.right)) (sym r.before_is)
    ∙ ap (λ l. span.before ++ (l ++ encode_utf8_all r.right)) (sym r.text_is)
    ∙ ap (λ l. span.before ++ (span.text ++ l)) (sym r.after_is) where
      r : IsRunBy (expression_rule wanted) (chars bytes) span
      r = found-is_run (expression_rule wanted) bytes span found

-- a place where a text can be cut is one where its beginning can be cut
pub boundary-front : (bytes front behind : List ℕ) (from : ℕ) → bytes ≡ front ++ behind
    → from ≤ length front → IsCharBoundary bytes from → IsCharBoundary front from
boundary-front bytes front behind from parts within boundary = (
  within,
  λ low. let same = get_or_append_left front behind 0 from low in
      let whole : length bytes ≡ length front + length behind =
      ap length parts ∙ length-append front behind in
      let high = boundary.1 (omega (arith, low, whole)) in
      subst (λ byte. 128 ≤ byte → 192 ≤ byte) (ap (λ l. slice_index_or l from 0) parts ∙ same) high,
)

-- a text was written up to a byte with its expressions replaced, and these expressions remain
pub record Put {S : Type 0} (took : S → S → List ℕ → Type 0) (new : Span → Option (List ℕ))
    (wanted : Wanted) (bytes : List ℕ) (old now : S) (from : ℕ) (left : List Span) : Type 0 where
  pub passed : List Span
  pub parts : expressions wanted bytes ≡ passed ++ left
  pub rises : is_rising from left ≡ true
  pub boundary : IsCharBoundary bytes from
  pub put : List ℕ
  pub took_put : took old now put
  pub completes : replaced new wanted bytes ≡ put ++ replaced_from new bytes from left

module _ {S : Type 0} (took : S → S → List ℕ → Type 0)
    (both : (old mid new : S) (first second : List ℕ) → took old mid first → took mid new second
    → took old new (first ++ second)) where
  -- for an expression that is left unchanged nothing was written, and then the expression itself
  pub put-old : (old mid new : S) (text : Option (List ℕ)) (stays : List ℕ)
      → is_some text ≡ false → took old mid (unwrap_or text []) → took mid new stays
      → took old new (unwrap_or text stays)
  put-old old mid new None stays e first second = both old mid new [] stays first second
  put-old old mid new (Some text) stays e first second = cc

  pub Put-none : (new : Span → Option (List ℕ)) (wanted : Wanted) (bytes : List ℕ) (old : S)
      (left : List Span) → IsUtf8 bytes → took old old [] → left ≡ expressions wanted bytes
      → Put took new wanted bytes old old 0 left
  Put-none new wanted bytes old left utf8 none all = record {
    passed = [];
    parts = sym all;
    rises = ap (is_rising 0) all ∙ spans-rise (expression_rule wanted) bytes;
    boundary = IsCharBoundary-start bytes utf8;
    put = [];
    took_put = none;
    completes = ap (replaced_from new bytes 0) (sym all);
  }

  found-next : {new : Span → Option (List ℕ)} {wanted : Wanted} {bytes : List ℕ} {old now : S}
      {from : ℕ} {left : List Span} (p : Put took new wanted bytes old now from left) (span : Span)
      (others : List Span) → left ≡ span ∷ others → Contains (expressions wanted bytes) span
  found-next p span others e =
      subst (λ l. Contains l span) (sym (p.parts ∙ ap (λ l. p.passed ++ l) e))
      (Contains-append_right p.passed (span ∷ others) span (0, omega arith, refl))

  module _ {new : Span → Option (List ℕ)} {wanted : Wanted} {bytes : List ℕ} {old now : S}
      {from : ℕ} {left : List Span} (p : Put took new wanted bytes old now from left)
      (utf8 : IsUtf8 bytes) where
    -- the next one is after that byte, and the text before it can be cut there
    pub Put-cut : (span : Span) (others : List Span) → left ≡ span ∷ others
        → IsCharBoundary span.before from
    Put-cut span others e =
        boundary-front bytes span.before (span.text ++ span.after) from
        (parts-of wanted bytes span utf8 (found-next p span others e)) within p.boundary where
          within : from ≤ length span.before
          within = let rises : is_rising from (span ∷ others) ≡ true =
              ap (is_rising from) (sym e) ∙ p.rises in
              let first : nat_le from (length span.before) ≡ true = and-left _ _ rises in
              grind (arith, nat_tests, first)

    -- after one more
    pub Put-more : (span : Span) (others : List Span) (mid then : S) (between : List ℕ) (end : ℕ)
        → left ≡ span ∷ others → IsUtf8 span.after → between ≡ drop from span.before
        → took now mid between → took mid then (text_for new span)
        → end ≡ length span.before + length span.text
        → Put took new wanted bytes old then end others
    Put-more span others mid then between end e ended same front text ends = record {
      passed = p.passed ++ span ∷ [];
      parts = p.parts ∙ ap (λ l. p.passed ++ l) e
          ∙ sym (append_assoc p.passed (span ∷ []) others);
      rises = ap (λ n. is_rising n others) ends ∙ and-right (nat_le from (length span.before)) _
          (ap (is_rising from) (sym e) ∙ p.rises);
      boundary = subst (IsCharBoundary bytes)
          (length-append span.before span.text ∙ sym ends)
          (IsCharBoundary-at_seam bytes (span.before ++ span.text) span.after at ended);
      put = p.put ++ (between ++ text_for new span);
      took_put = both old now then p.put (between ++ text_for new span) p.took_put
          (both now mid then between (text_for new span) front text);
      completes =
          p.completes ∙ ap (λ l. p.put ++ replaced_from new bytes from l) e
          ∙ ap (λ l. p.put ++ (l ++ text_for new span ++ replaced_from new bytes
          (length span.before + length span.text) others)) (sym same)
          ∙ ap (λ n. p.put ++ (between ++ text_for new span ++ replaced_from new bytes n others))
          (sym ends)
          ∙ sym (append_assoc p.put (between ++ text_for new span)
          (replaced_from new bytes end others));
    } where
      at : bytes ≡ (span.before ++ span.text) ++ span.after
      at = parts-of wanted bytes span utf8 (found-next p span others e)
          ∙ sym (append_assoc span.before span.text span.after)

    -- and at the end
    pub Put-all : (then : S) (rest : List ℕ) → left ≡ [] → rest ≡ drop from bytes
        → took now then rest → took old then (replaced new wanted bytes)
    Put-all then rest none same last = subst (took old then)
        (ap (λ l. p.put ++ l) same
        ∙ sym (p.completes ∙ ap (λ l. p.put ++ replaced_from new bytes from l) none))
        (both old now then p.put rest p.took_put last)
