-- Texts with their signs as they are meant.
use Rattle.std.proofs.Common.{◌≡◌, ℕ, List, [], ◌∷◌, ◌++◌, reverse, chars, IsUtf8, sym, ap, ◌∙◌, refl}
use Rattle.std.proofs.lemmas.Str.{chars-nil}
use Rattle.cn_find.specs.Spans.{in_front, text_before}
use Rattle.cn_find.proofs.Runs.{IsEnd, Passed, Passed-of, seam-front}
use Rattle.cn_speech.specs.Meant.{meant, meant_from}

-- nothing is before a text
pub front-none : (whole : List ℕ) → in_front (text_before whole whole) ≡ []
front-none whole = ap in_front (seam-front whole [] whole refl) ∙ ap reverse chars-nil

-- a character is written as it is meant
pub record MeantStep (whole ahead after : List ℕ) (m : ℕ) : Type 0 where
  pub ends : IsEnd whole after
  pub same : meant_from (in_front (text_before whole ahead)) (chars ahead)
      ≡ (m ∷ []) ++ meant_from (in_front (text_before whole after)) (chars after)

pub MeantStep-of : (whole before ahead after : List ℕ) (c m : ℕ) → before ≡ text_before whole ahead
    → IsEnd whole ahead → IsUtf8 before → IsUtf8 ahead → IsUtf8 after → chars ahead ≡ c ∷ chars after
    → m ≡ meant (in_front before) c (chars after) → MeantStep whole ahead after m
MeantStep-of whole before ahead after c m at ends before_utf8 utf8 ended parts is = record {
  ends = passed.ends;
  same = ap (λ l. meant_from (in_front l) (chars ahead)) (sym at)
      ∙ ap (meant_from (in_front before)) parts
      ∙ ap (λ k. k ∷ meant_from (c ∷ in_front before) (chars after)) (sym is)
      ∙ ap (λ l. m ∷ meant_from l (chars after)) (sym passed.front);
} where
  passed : Passed whole before after c
  passed = Passed-of whole before ahead after c (sym ends ∙ ap (λ l. l ++ ahead) (sym at))
      before_utf8 utf8 ended parts
