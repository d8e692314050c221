-- Of the characters of a run only 正 is a sign, and none is white space.
use Rattle.std.proofs.Common.{◌≡◌, ◌≢◌, ℕ, Bool, true, false, not, ◌&&◌, List, ◌∷◌, ◌++◌, filter, reverse, chars, Option, Some, None, IsUtf8, refl, sym, ap, ◌∙◌}
use Rattle.std.specs.Char.{is_whitespace, is_not_whitespace}
use Rattle.std.specs.List.{Contains, list_all}
use Rattle.std.proofs.lemmas.Str.{chars_from_encodes}
use Rattle.cn_core.specs.declared.sign.Sign.{Sign}
use Rattle.cn_core.specs.declared.sign.Sign.TheVariants.{Plus, Minus}
use Rattle.cn_core.specs.Characters.{rank, digit_rows, unit_rows, sign_of}
use Rattle.cn_core.specs.Mark.{mark_of, other}
use Rattle.cn_core.specs.Reading.{is_minus, leading_sign}
use Rattle.cn_core.specs.Text.{text_of}
use Rattle.cn_core.proofs.Fronts.{and-left, and-right}
use Rattle.cn_judge.proofs.Walking.{outside-mark}
use Rattle.cn_find.specs.declared.wanted.Wanted.{Wanted}
use Rattle.cn_find.specs.Belongs.{belongs, is_numeral, is_wanted, is_wanted_mark}
use Rattle.cn_find.specs.Rule.{number_rule}
use Rattle.cn_find.specs.Runs.{each_belongs}
use Rattle.cn_find.specs.Spans.{Span, spans}
use Rattle.cn_find.proofs.RunLaws.{span-is_run}

-- the character is neither white space nor a minus sign
is_dark : ℕ → Bool
is_dark c = not (is_whitespace c) && not (is_minus (sign_of c))

all_digits : list_all (list_all is_dark) digit_rows ≡ true
unfolding is_dark sign_of
all_digits = refl

all_units : list_all (list_all is_dark) unit_rows ≡ true
unfolding is_dark sign_of
all_units = refl

-- a character that belongs to a number is neither
belongs-wanted : (wanted : Wanted) (c : ℕ) (after : List ℕ) → belongs wanted c after ≡ true
    → is_wanted wanted c ≡ true
unfolding belongs
belongs-wanted wanted c after h =
    and-left (is_wanted wanted c) _ (and-left (is_numeral wanted c after) _ h)

belongs-dark : (wanted : Wanted) (c : ℕ) (after : List ℕ) → belongs wanted c after ≡ true
    → is_dark c ≡ true
belongs-dark wanted c after h = by (is_dark c) refl where
  marked : is_wanted_mark (rank wanted.greatest) (mark_of c) ≡ true
  marked = and-left (is_wanted_mark (rank wanted.greatest) (mark_of c)) _
      (belongs-wanted wanted c after h)

  by : (b : Bool) → is_dark c ≡ b → is_dark c ≡ true
  by true e = e
  by false e =
      let none : is_wanted_mark (rank wanted.greatest) other ≡ true =
      ap (is_wanted_mark (rank wanted.greatest))
      (sym (outside-mark is_dark c all_digits all_units e)) ∙ marked in cc

sign-none : (sign : Option Sign) → not (is_minus sign) ≡ true → sign ≢ Some Plus → sign ≡ None
sign-none None h not_plus = refl
sign-none (Some Plus) h not_plus = absurd (not_plus refl)
sign-none (Some Minus) h not_plus = cc

dark-first : (c : ℕ) (rest : List ℕ) → is_dark c ≡ true → sign_of c ≢ Some Plus
    → leading_sign true (filter is_not_whitespace (c ∷ rest)) ≡ None
unfolding is_dark
dark-first c rest dark not_plus =
    let not_white : not (is_whitespace c) ≡ true = and-left (not (is_whitespace c)) _ dark in
    rw not_white (sign-none (sign_of c) (and-right (not (is_whitespace c)) _ dark) not_plus)

pub no-other_sign : (wanted : Wanted) (bytes : List ℕ) (span : Span) (c : ℕ) (rest : List ℕ)
    → Contains (spans wanted bytes) span → IsUtf8 span.text → chars span.text ≡ c ∷ rest
    → sign_of c ≢ Some Plus → leading_sign true (text_of span.text) ≡ None
no-other_sign wanted bytes span c rest found ended first not_plus =
    let r = span-is_run wanted bytes span found in
    let run : r.run ≡ c ∷ rest = chars_from_encodes r.run span.text ended (sym r.text_is) ∙ first in
    let each : each_belongs (number_rule wanted) (reverse r.left) (c ∷ rest) r.right ≡ true =
    ap (λ l. each_belongs (number_rule wanted) (reverse r.left) l r.right) (sym run) ∙ r.each in
    ap (λ l. leading_sign true (filter is_not_whitespace l)) first
    ∙ dark-first c rest (belongs-dark wanted c (rest ++ r.right)
    (and-left (belongs wanted c (rest ++ r.right)) _ each)) not_plus
