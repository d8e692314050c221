-- The list of characters has each character that figures have, with or without a minus before them.
use Rattle.std.proofs.Common.{◌≡◌, ℕ, ◌≤◌, take, Bool, true, false, List, [], ◌∷◌, length, nat_lt, option_map, Some, None, refl, ap, codes, if◌then◌else◌, arith}
use Rattle.std.specs.List.{list_all, position_or_len}
use Rattle.cn_core.proofs.Fronts.{and-left, and-right}
use Rattle.cn_figures.specs.declared.part.Part.TheVariants.{Digit}
use Rattle.std.specs.Char.{char_set_contains}
use Rattle.cn_grammar.specs.Expected.{IsListed}
use Rattle.cn_grammar.specs.declared.sign.Front.TheVariants.{Open}
use Rattle.cn_grammar.proofs.Lists.{classes-listed, sifted-listed}
use Rattle.cn_grammar.proofs.LookUp.{none-in}
use Rattle.cn_grammar.proofs.Signs.{left-out}
use Rattle.cn_core.specs.FigureCharacters.{figure_of, figure_rows, is_comma, is_currency, is_figure_point}
use Rattle.cn_figures.specs.declared.listed.TheConstants.{CHARACTERS}
use Rattle.cn_figures.specs.Parts.{part_of}
use Rattle.cn_figures.specs.Working.Signs.{minus_signs, sign_sieve, both, signed_value, signed_machine}
use Rattle.cn_figures.specs.Working.Steps.{advance, figures_machine}
use Rattle.cn_figures.proofs.SignedReads.{signs-sifted}

-- a character that is in no row
none-at : (is : ℕ → Bool) (c : ℕ) (rows : List (List ℕ))
    → list_all (λ row. list_all is row) rows ≡ true → is c ≡ false
    → position_or_len (λ row. char_set_contains row c) rows ≡ length rows
none-at is c [] all other = refl
none-at is c (row ∷ rows) all other =
    let first : char_set_contains row c ≡ false =
    none-in is c row (and-left (list_all is row) _ all) other in
    let rest = none-at is c rows (and-right (list_all is row) _ all) other in
    rw first (omega (arith, rest))

-- a list that has the characters of figures
record HasParts (characters : List ℕ) : Type 0 where
  few : length characters ≤ 48
  currency : list_all (char_set_contains characters) (codes "¥￥") ≡ true
  comma : list_all (char_set_contains characters) (codes ",，") ≡ true
  point : list_all (char_set_contains characters) (codes ".．") ≡ true
  figure : list_all (λ row. list_all (char_set_contains characters) row) figure_rows ≡ true

no-figure : (characters : List ℕ) → HasParts characters → (c : ℕ)
    → char_set_contains characters c ≡ false → figure_of c ≡ None
unfolding figure_of
no-figure characters all c h = ap (λ count. if nat_lt count 10 then Some count else None)
    (none-at (char_set_contains characters) c figure_rows all.figure h)

others : (characters : List ℕ) → HasParts characters → (c : ℕ)
    → char_set_contains characters c ≡ false → part_of c ≡ None
unfolding part_of
others characters all c h =
    let currency : is_currency c ≡ false =
    none-in (char_set_contains characters) c (codes "¥￥") all.currency h in
    let comma : is_comma c ≡ false =
    none-in (char_set_contains characters) c (codes ",，") all.comma h in
    let point : is_figure_point c ≡ false =
    none-in (char_set_contains characters) c (codes ".．") all.point h in
    rw (currency, comma, point) (ap (option_map Digit) (no-figure characters all c h))

listed-in : (characters : List ℕ) → HasParts characters → IsListed characters false figures_machine
listed-in characters all = classes-listed figures_machine advance part_of characters
    (λ state c. refl) all.few (others characters all)

pub figures_listed : IsListed (take 26 CHARACTERS) false figures_machine
figures_listed = listed-in (take 26 CHARACTERS) (record {
  few = omega arith;
  currency = refl;
  comma = refl;
  point = refl;
  figure = refl;
})

pub signed_listed : IsListed CHARACTERS false signed_machine
signed_listed = sifted-listed sign_sieve both signed_value figures_machine signed_machine Open
    signs-sifted (λ state. (state.front, state.progress, refl)) CHARACTERS false
    (listed-in CHARACTERS (record {
      few = omega arith;
      currency = refl;
      comma = refl;
      point = refl;
      figure = refl;
    })) (left-out minus_signs CHARACTERS refl) (λ e front c h. absurd (cc))
