-- A text that is written chain by chain.
use Rattle.std.proofs.Common.{◌≡◌, ℕ, ◌-◌, Bool, true, false, ◌&&◌, ◌||◌, List, [], ◌∷◌, ◌++◌, length, drop, IsUtf8, Option, Some, None, unwrap_or, refl, sym, ap, subst, ◌∙◌, arith, append_assoc, length-append}
use Rattle.std.specs.Str.{IsCharBoundary}
use Rattle.std.proofs.Math.Seq.{drop-append_seam}
use Rattle.std.proofs.lemmas.Str.{IsCharBoundary-at_seam, IsCharBoundary-start}
use Rattle.cn_find.specs.Spans.{IsPartOf, Span, text_before}
use Rattle.cn_find.proofs.Runs.{IsEnd, IsEnd-at}
use Rattle.cn_replace.specs.Chains.{IsPart, held_on, in_chains, in_chains_from, is_held, is_joined_to_next, text_unless}
use Rattle.cn_replace.specs.Joined.{end_of, is_joined_at}
use Rattle.cn_replace.proofs.Replacing.{boundary-front}

-- what was written and searched ends at this byte, and `rest` is what is left of the text
pub record IsCutAt (text : List ℕ) (end : ℕ) (rest : List ℕ) : Type 0 where
  pub ends : IsEnd text rest
  pub at : end ≡ length text - length rest
  pub boundary : IsCharBoundary text end

pub cut-start : (text : List ℕ) → IsUtf8 text → IsCutAt text 0 text
cut-start text utf8 = record {
  ends = IsEnd-at text [] text refl;
  at = omega arith;
  boundary = IsCharBoundary-start text utf8;
}

-- the text is cut where one of its parts ends
pub cut-after : (text : List ℕ) (span : Span) → IsPart text span → IsUtf8 span.after
    → IsCutAt text (end_of span) span.after
cut-after text span part after = record {
  ends = IsEnd-at text (span.before ++ span.text) span.after at;
  at = omega (arith, ap length at, length-append (span.before ++ span.text) span.after, both);
  boundary = subst (IsCharBoundary text) both
      (IsCharBoundary-at_seam text (span.before ++ span.text) span.after at after);
} where
  both : length (span.before ++ span.text) ≡ end_of span
  both = length-append span.before span.text

  at : text ≡ (span.before ++ span.text) ++ span.after
  at = part ∙ sym (append_assoc span.before span.text span.after)

-- the text before a part that comes later can be cut there
pub cut-before : (text rest : List ℕ) (end : ℕ) (span : Span) → IsCutAt text end rest
    → IsPartOf text rest span → IsCharBoundary span.before end
cut-before text rest end span cut part =
    boundary-front text span.before (span.text ++ span.after) end part.parts
    (omega (arith, cut.at, part.from)) cut.boundary

-- what is left is the text from there on
rest-is : (text rest : List ℕ) (end : ℕ) → IsCutAt text end rest → rest ≡ drop end text
rest-is text rest end cut = sym (
    ap (λ l. drop end l) (sym cut.ends)
    ∙ ap (λ n. drop n (text_before text rest ++ rest)) (omega (
      arith,
      cut.at,
      ap length (sym cut.ends),
      length-append (text_before text rest) rest,
    ))
    ∙ drop-append_seam (text_before text rest) rest)

-- the search along a chain: the part that ended at that byte is joined up to here, and none so far
-- holds the chain
pub record Looking (holds : Span → Bool) (left : List ℕ → List ℕ → List Span) (text : List ℕ)
    (all : Bool) (end : ℕ) (rest : List ℕ) : Type 0 where
  pub last : Span
  pub ends : end ≡ end_of last
  pub cut : IsCutAt text end rest
  pub same : all ≡ (is_joined_to_next last (left text rest) && is_held holds (left text rest))

module _ (holds : Span → Bool) (left : List ℕ → List ℕ → List Span) (text : List ℕ) where
  pub looking_first : (first : Span) (end : ℕ) → IsPart text first → IsUtf8 first.after
      → end ≡ end_of first → holds first ≡ false
      → Looking holds left text (is_held holds (first ∷ left text first.after)) end first.after
  looking_first first end part after e none = record {
    last = first;
    ends = e;
    cut = subst (λ n. IsCutAt text n first.after) (sym e) (cut-after text first part after);
    same = rw none refl;
  }

  module _ (all : Bool) (end : ℕ) (rest : List ℕ) (p : Looking holds left text all end rest) where
    pub looking_all : left text rest ≡ [] → false ≡ all
    looking_all e =
        sym (p.same ∙ ap (λ l. is_joined_to_next p.last l && is_held holds l) e)

    module _ (next : Span) (others : List Span) (e : left text rest ≡ next ∷ others) where
      same-next : all ≡ (is_joined_at end next && (holds next
          || (is_joined_to_next next others && is_held holds others)))
      same-next = p.same ∙ ap (λ l. is_joined_to_next p.last l && is_held holds l) e
          ∙ ap (λ n. is_joined_at n next && (holds next
          || (is_joined_to_next next others && is_held holds others))) (sym p.ends)

      pub looking_ends : is_joined_at end next ≡ false → false ≡ all
      looking_ends none = sym (same-next ∙ rw none refl)

      pub looking_found : is_joined_at end next ≡ true → holds next ≡ true → true ≡ all
      looking_found joined held = sym (same-next ∙ rw (joined, held) refl)

      pub looking_more : IsPart text next → IsUtf8 next.after → others ≡ left text next.after
          → is_joined_at end next ≡ true → holds next ≡ false → (new_end : ℕ)
          → new_end ≡ end_of next → Looking holds left text all new_end next.after
      looking_more part after are joined none new_end ends = record {
        last = next;
        ends = ends;
        cut = subst (λ n. IsCutAt text n next.after) (sym ends) (cut-after text next part after);
        same = same-next ∙ rw (joined, none) (ap (λ l. is_joined_to_next next l && is_held holds l) are);
      }

-- a text was written up to a byte, chain by chain
pub record PutChains {S : Type 0} (took : S → S → List ℕ → Type 0) (new : Span → Option (List ℕ))
    (holds : Span → Bool) (left : List ℕ → List ℕ → List Span) (text : List ℕ) (old now : S)
    (end : Option ℕ) (held : Bool) (rest : List ℕ) : Type 0 where
  pub cut : IsCutAt text (unwrap_or end 0) rest
  pub put : List ℕ
  pub took_put : took old now put
  pub completes : in_chains new holds text (left text text)
      ≡ put ++ in_chains_from new holds text end held (left text rest)

module _ {S : Type 0} (took : S → S → List ℕ → Type 0)
    (both : (old mid new : S) (first second : List ℕ) → took old mid first → took mid new second
    → took old new (first ++ second)) (new : Span → Option (List ℕ)) (holds : Span → Bool)
    (left : List ℕ → List ℕ → List Span) (text : List ℕ) where
  pub chains_none : (old : S) → IsUtf8 text → took old old []
      → PutChains took new holds left text old old None false text
  chains_none old utf8 none = record {
    cut = cut-start text utf8;
    put = [];
    took_put = none;
    completes = refl;
  }

  module _ (old now : S) (end : Option ℕ) (held : Bool) (rest : List ℕ)
      (p : PutChains took new holds left text old now end held rest) where
    pub chains_all : (last : S) → left text rest ≡ [] → took now last rest
        → took old last (in_chains new holds text (left text text))
    chains_all last none put = subst (took old last)
        (ap (λ l. p.put ++ l) (rest-is text rest (unwrap_or end 0) p.cut)
        ∙ sym (p.completes ∙ ap (λ l. p.put ++ in_chains_from new holds text end held l) none))
        (both old now last p.put rest p.took_put put)

    pub chains_more : (span : Span) (others : List Span) → left text rest ≡ span ∷ others
        → IsPart text span → IsUtf8 span.after → others ≡ left text span.after
        → (mid last : S) (between : List ℕ) (here : Bool) (new_end : ℕ)
        → here ≡ held_on holds end held span (left text span.after)
        → between ≡ drop (unwrap_or end 0) span.before → took now mid between
        → took mid last (text_unless here new span) → new_end ≡ end_of span
        → PutChains took new holds left text old last (Some new_end) here span.after
    chains_more span others e part after are mid last between here new_end h same front text_put ends =
        record {
          cut = subst (λ n. IsCutAt text n span.after) (sym ends) (cut-after text span part after);
          put = p.put ++ (between ++ text_unless here new span);
          took_put = both old now last p.put (between ++ text_unless here new span) p.took_put
              (both now mid last between (text_unless here new span) front text_put);
          completes =
              p.completes
              ∙ ap (λ l. p.put ++ in_chains_from new holds text end held l)
              (e ∙ ap (λ l. span ∷ l) are)
              ∙ ap (λ l. p.put ++ (l ++ text_unless (held_on holds end held span there) new span
              ++ in_chains_from new holds text (Some (end_of span))
              (held_on holds end held span there) there)) (sym same)
              ∙ ap (λ (b : Bool). p.put ++ (between ++ text_unless b new span
              ++ in_chains_from new holds text (Some (end_of span)) b there)) (sym h)
              ∙ ap (λ n. p.put ++ (between ++ text_unless here new span
              ++ in_chains_from new holds text (Some n) here there)) (sym ends)
              ∙ sym (append_assoc p.put (between ++ text_unless here new span)
              (in_chains_from new holds text (Some new_end) here there));
        } where
          there : List Span
          there = left text span.after
