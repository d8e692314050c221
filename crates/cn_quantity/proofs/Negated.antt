-- A fraction with a minus sign directly after 分之.
use Rattle.std.proofs.Common.{◌≡◌, ℕ, ◌+◌, true, false, ◌&&◌, List, [], ◌∷◌, length, chars, drop, Option, sym, ap, ◌∙◌, arith}
use Rattle.cn_core.specs.declared.sign.Sign.{Sign}
use Rattle.cn_core.specs.Reading.{is_minus}
use Rattle.cn_core.specs.Text.{text_of}
use Rattle.cn_judge.specs.Piece.{StandsAt}
use Rattle.cn_quantity.specs.Characters.{sign_of}
use Rattle.cn_quantity.specs.Private.{IsEnd, SplitsAtBar, SplitsNegated}
use Rattle.cn_quantity.specs.Ratio.{after_bar, before_bar, begins_with_minus, is_fraction, is_negated}
use Rattle.cn_quantity.proofs.Ratios.{bar-lengths, some-divisor, some-over}

pub IsEnd-over : (bytes divisor over : List ℕ) (index : ℕ) → SplitsAtBar bytes divisor index over
    → IsEnd bytes over
IsEnd-over bytes divisor over index s = record { front = s.stands.front; parts = s.stands.parts }

-- whether it has one, by the first character of the numerator
pub negated-test : (bytes divisor over after : List ℕ) (index c next : ℕ) (rest : List ℕ)
    (sign : Option Sign) → is_fraction (text_of bytes) ≡ true
    → SplitsAtBar bytes divisor index over → text_of over ≡ c ∷ after → after ≡ next ∷ rest
    → sign ≡ sign_of c → is_negated (text_of bytes) ≡ is_minus sign
negated-test bytes divisor over after index c next rest sign fraction s first second is =
    ap (λ b. b && begins_with_minus (after_bar (text_of bytes))) fraction
    ∙ ap begins_with_minus (sym s.behind_is ∙ first ∙ ap (λ l. c ∷ l) second)
    ∙ ap is_minus (sym is)

-- nothing is after that character
pub negated-short : (bytes divisor over after : List ℕ) (index c : ℕ)
    → is_fraction (text_of bytes) ≡ true → SplitsAtBar bytes divisor index over
    → text_of over ≡ c ∷ after → after ≡ [] → is_negated (text_of bytes) ≡ false
negated-short bytes divisor over after index c fraction s first none =
    ap (λ b. b && begins_with_minus (after_bar (text_of bytes))) fraction
    ∙ ap begins_with_minus (sym s.behind_is ∙ first ∙ ap (λ l. c ∷ l) none)

pub negated-none : (text : List ℕ) → is_fraction text ≡ false → is_negated text ≡ false
negated-none text none = rw none

-- the parts of the text
pub SplitsNegated-at : (bytes divisor over after : List ℕ) (bar index c : ℕ)
    → is_fraction (text_of bytes) ≡ true → SplitsAtBar bytes divisor bar over
    → text_of over ≡ c ∷ text_of after
    → ((place : ℕ) → place + length (text_of after) ≡ length (text_of bytes)
    → StandsAt bytes (chars after) index place)
    → SplitsNegated bytes divisor index after
SplitsNegated-at bytes divisor over after bar index c fraction s first stands = record {
  divisor_is = s.divisor_is;
  over_is = sym (ap (drop 1) (sym s.behind_is ∙ first));
  parts = record {
    some = (let h = some-divisor (text_of bytes) fraction in rw s.divisor_is h);
    front = s.front;
    stands = stands (length (before_bar (text_of bytes)) + 3)
        (let all = bar-lengths (text_of bytes) (some-over (text_of bytes) fraction) in
        let over_is = ap length (sym s.behind_is ∙ first) in
        omega (arith, all, over_is));
  };
}
