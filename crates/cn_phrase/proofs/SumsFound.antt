-- A sum of money after a sign is found.
use Rattle.std.proofs.Common.{◌≡◌, ℕ, false, List, [], ◌∷◌, ◌++◌, length, reverse, chars, encode_utf8_all, IsUtf8, Option, Some, None, sym, ap, subst, ◌∙◌, arith, length-append}
use Rattle.std.proofs.lemmas.Str.{encodes-chars}
use Rattle.std.specs.Option.{option_and_then, option_map}
use Rattle.cn_find.specs.declared.wanted.Wanted.{Wanted}
use Rattle.cn_find.specs.Expressions.{expression_rule}
use Rattle.cn_find.specs.Spans.{Span, run_after, text_before}
use Rattle.cn_find.proofs.Runs.{IsEnd, front-utf8}
use Rattle.cn_phrase.specs.Between.{characters_before, part_between}
use Rattle.cn_phrase.specs.Money.{Money, signed, signed_from}
use Rattle.cn_phrase.specs.Pieces.{without_blank}
use Rattle.cn_phrase.specs.Suffix.{EndsWith}
use Rattle.cn_phrase.specs.Written.{passed_text}
use Rattle.cn_phrase.proofs.Between.{characters-before}
use Rattle.cn_phrase.proofs.ItemsFound.{ends-at}
use Rattle.cn_phrase.proofs.ItemSteps.{Leaves}
use Rattle.cn_phrase.proofs.Suffixes.{Ends-again, Ends-blank}

-- the text before a suffix, by its characters
pub passed-is : (ahead start : List ℕ) → IsEnd ahead start → IsUtf8 ahead → IsUtf8 start
    → text_before ahead start ≡ passed_text (chars ahead) (chars start)
passed-is ahead start ends utf8 start_utf8 =
    let front_utf8 = front-utf8 ahead start ends utf8 start_utf8 in
    sym (ap encode_utf8_all (characters-before ahead start (text_before ahead start) (sym ends) front_utf8)
    ∙ encodes-chars (text_before ahead start) front_utf8)

-- what is after a sign and a blank is a suffix
sign-leaves : (text after start : List ℕ) (c : ℕ) → text ≡ c ∷ after → start ≡ without_blank false after
    → Leaves text start
sign-leaves text after start c parts same =
    let ends = subst (EndsWith after) (sym same) (Ends-blank false after) in (
      Ends-again text after start (c ∷ [], parts) ends,
      omega (arith, ap length parts, ap length ends.1, length-append ends.0 start),
    )

pub sign-ends : (ahead after start : List ℕ) (c : ℕ) → IsUtf8 ahead → IsUtf8 start
    → chars ahead ≡ c ∷ chars after → chars start ≡ without_blank false (chars after) → IsEnd ahead start
sign-ends ahead after start c utf8 start_utf8 parts same =
    ends-at ahead start utf8 start_utf8
    (sign-leaves (chars ahead) (chars after) (chars start) c parts same)

module _ (wanted : Wanted) (front text start before sign : List ℕ)
    (front_is : before ≡ reverse (characters_before text start) ++ front)
    (sign_is : sign ≡ passed_text text start) where
  -- the sum of a run, with the sign and the characters before it
  abbrev sum_of : List ℕ → Option (List ℕ) → Option Money
  sum_of l run = option_and_then (λ r. signed (passed_text text start) (part_between l start r) r) run

  from-front : sum_of before (run_after (expression_rule wanted) before start)
      ≡ signed_from wanted front text start
  from-front =
      ap (λ l. sum_of l (run_after (expression_rule wanted) l start)) front_is

  pub signed-none : None ≡ run_after (expression_rule wanted) before start
      → None ≡ signed_from wanted front text start
  signed-none none = ap (sum_of before) none ∙ from-front

  pub signed-some : (number : Span) (rest : List ℕ)
      → Some number ≡ option_map (part_between before start) (run_after (expression_rule wanted) before start)
      → Some rest ≡ run_after (expression_rule wanted) before start
      → signed sign number rest ≡ signed_from wanted front text start
  signed-some number rest spans rests =
      ap (λ s. signed s number rest) sign_is
      ∙ ap (option_and_then (λ n. signed (passed_text text start) n rest))
      (spans ∙ ap (option_map (part_between before start)) (sym rests))
      ∙ ap (sum_of before) rests ∙ from-front
