-- Groups of figures, read one after another.
use Rattle.std.proofs.Common.{◌≡◌, ℕ, suc, ◌<◌, Bool, true, false, not, ◌&&◌, ◌||◌, ◌==◌, nat_lt, nat_le, List, [], ◌∷◌, length, is_some, Option, Some, None, refl, sym, ap, ap₂, ◌∙◌, arith, if◌then◌else◌}
use Rattle.std.specs.List.{list_all, onto_first, slice_split}
use Rattle.std.proofs.lemmas.Bool.Decides.{nat_tests}
use Rattle.std.proofs.lemmas.List.Splits.{slice_split-cons_no, slice_split-cons_yes}
use Rattle.cn_core.specs.FigureCharacters.{figure_of, figure_rows, is_comma}
use Rattle.cn_judge.proofs.Walking.{rows_have}
use Rattle.cn_quantity.specs.declared.characters.DigitKind.{DigitKind}
use Rattle.cn_quantity.specs.declared.characters.DigitKind.TheVariants.{Figure}
use Rattle.cn_quantity.specs.Digits.{after_digits, begins_with_digit, begins_with_nought, is_digit, leading_digits}
use Rattle.cn_quantity.specs.Figures.{after_whole, are_groups, groups_of, may_lead_groups, whole_part}

-- no figure is a comma
no-comma : (c : ℕ) → is_digit Figure c ≡ true → is_comma c ≡ true → ⊥
unfolding figure_of
no-comma c digit comma = by (figure_of c) refl digit where
  by : (d : Option ℕ) → figure_of c ≡ d → is_some d ≡ true → ⊥
  by None is some = cc
  by (Some value) is some =
      let none : not (is_comma c) ≡ true =
      rows_have (λ c. not (is_comma c)) figure_rows c value refl is in
      let both : not true ≡ true = ap not (sym comma) ∙ none in cc

-- the figures that a text begins with
abbrev pub figures_of : List ℕ → List ℕ
figures_of [] = []
figures_of (c ∷ rest) = if is_digit Figure c then c ∷ figures_of rest else []

figures-count : (text : List ℕ) → length (figures_of text) ≡ leading_digits Figure text
figures-count [] = refl
figures-count (c ∷ rest) = by (is_digit Figure c) (figures-count rest) where
  by : (b : Bool) → length (figures_of rest) ≡ leading_digits Figure rest
      → length (if b then c ∷ figures_of rest else [])
      ≡ (if b then suc (leading_digits Figure rest) else 0)
  by true ih = ap suc ih
  by false ih = refl

nought-first : (text : List ℕ)
    → begins_with_nought (figures_of text) ≡ begins_with_nought text
nought-first [] = refl
nought-first (c ∷ rest) = by (figure_of c) refl where
  by : (d : Option ℕ) → figure_of c ≡ d
      → begins_with_nought (figures_of (c ∷ rest)) ≡ begins_with_nought (c ∷ rest)
  by None is =
      ap (λ d. begins_with_nought (if is_some d then c ∷ figures_of rest else [])) is ∙ rw is refl
  by (Some figure) is =
      ap (λ d. begins_with_nought (if is_some d then c ∷ figures_of rest else [])) is

pub digits-over : (kind : DigitKind) (text : List ℕ)
    → begins_with_digit kind (after_digits kind text) ≡ false
digits-over kind [] = refl
digits-over kind (c ∷ rest) = by (is_digit kind c) refl (digits-over kind rest) where
  by : (b : Bool) → is_digit kind c ≡ b → begins_with_digit kind (after_digits kind rest) ≡ false
      → begins_with_digit kind (if b then after_digits kind rest else c ∷ rest) ≡ false
  by true is ih = ih
  by false is ih = is

-- the groups after the figures that a text begins with
abbrev pub more_groups : List ℕ → List (List ℕ)
more_groups [] = []
more_groups (c ∷ rest) = if is_comma c then groups_of rest else []

groups-first : (text : List ℕ)
    → groups_of text ≡ figures_of text ∷ more_groups (after_digits Figure text)
groups-first [] = refl
groups-first (c ∷ rest) = by (is_digit Figure c) (is_comma c) refl refl (groups-first rest) where
  in_whole : (f k : Bool) → is_digit Figure c ≡ f → is_comma c ≡ k
      → groups_of (c ∷ rest) ≡ slice_split is_comma (if f || k then c ∷ whole_part rest else [])
  in_whole f k =
      ap₂ (λ f k. slice_split is_comma (if f || k then c ∷ whole_part rest else []))

  first : (f : Bool) → is_digit Figure c ≡ f
      → figures_of (c ∷ rest) ∷ more_groups (after_digits Figure (c ∷ rest))
      ≡ (if f then c ∷ figures_of rest else [])
      ∷ more_groups (if f then after_digits Figure rest else c ∷ rest)
  first f = ap (λ f. (if f then c ∷ figures_of rest else [])
      ∷ more_groups (if f then after_digits Figure rest else c ∷ rest))

  by : (f k : Bool) → is_digit Figure c ≡ f → is_comma c ≡ k
      → groups_of rest ≡ figures_of rest ∷ more_groups (after_digits Figure rest)
      → groups_of (c ∷ rest) ≡ figures_of (c ∷ rest) ∷ more_groups (after_digits Figure (c ∷ rest))
  by true true figure comma ih = absurd (no-comma c figure comma)
  by true false figure comma ih =
      in_whole true false figure comma ∙ slice_split-cons_no is_comma c (whole_part rest) comma
      ∙ ap (onto_first c) ih ∙ sym (first true figure)
  by false true figure comma ih =
      in_whole false true figure comma ∙ slice_split-cons_yes is_comma c (whole_part rest) comma
      ∙ sym (first false figure ∙ rw comma refl)
  by false false figure comma ih =
      in_whole false false figure comma ∙ sym (first false figure ∙ rw comma refl)

-- whether groups are written well after figures that may lead them or not
abbrev pub go_on : Bool → List (List ℕ) → Bool
go_on leads [] = true
go_on leads groups = leads && list_all (λ group. length group == 3) groups

pub groups-none : (text : List ℕ) → leading_digits Figure text ≡ 0
    → are_groups (groups_of text) ≡ false
groups-none text none =
    ap are_groups (groups-first text)
    ∙ by (figures_of text) (more_groups (after_digits Figure text)) (figures-count text ∙ none) where
      by : (figures : List ℕ) (others : List (List ℕ)) → length figures ≡ 0
          → are_groups (figures ∷ others) ≡ false
      by [] [] none = refl
      by [] (group ∷ others) none = refl
      by (c ∷ rest) others none = absurd (omega (arith, none))

pub groups-begin : (text : List ℕ) → 0 < leading_digits Figure text
    → go_on (nat_le (leading_digits Figure text) 3 && not (begins_with_nought text))
    (more_groups (after_digits Figure text)) ≡ are_groups (groups_of text)
groups-begin text some =
    sym (ap are_groups (groups-first text) ∙ by (more_groups (after_digits Figure text))) where
      alone : nat_lt 0 (length (figures_of text)) ≡ true
      alone = let count = figures-count text in grind (arith, nat_tests, count, some)

      lead : may_lead_groups (figures_of text)
          ≡ (nat_le (leading_digits Figure text) 3 && not (begins_with_nought text))
      lead = rw (alone, figures-count text, nought-first text) refl

      by : (groups : List (List ℕ)) → are_groups (figures_of text ∷ groups)
          ≡ go_on (nat_le (leading_digits Figure text) 3 && not (begins_with_nought text)) groups
      by [] = alone
      by (group ∷ groups) =
          ap (λ b. b && list_all (λ group. length group == 3) (group ∷ groups)) lead

-- one group more, of three figures or not
go_on-next : (leads : Bool) (c : ℕ) (rest : List ℕ) → is_comma c ≡ true
    → go_on leads (more_groups (c ∷ rest))
    ≡ (leads && ((leading_digits Figure rest == 3)
    && go_on leads (more_groups (after_digits Figure rest))))
go_on-next leads c rest comma =
    rw comma (ap (go_on leads) (groups-first rest)
    ∙ by leads (more_groups (after_digits Figure rest))) where
      by : (leads : Bool) (groups : List (List ℕ)) → go_on leads (figures_of rest ∷ groups)
          ≡ (leads && ((leading_digits Figure rest == 3) && go_on leads groups))
      by false groups = refl
      by true [] = ap (λ n. (n == 3) && true) (figures-count rest)
      by true (group ∷ groups) =
          ap (λ n. (n == 3) && list_all (λ group. length group == 3) (group ∷ groups))
          (figures-count rest)

pub go_on-more : (leads : Bool) (c : ℕ) (rest : List ℕ) → is_comma c ≡ true → leads ≡ true
    → leading_digits Figure rest ≡ 3
    → go_on leads (more_groups (after_digits Figure rest)) ≡ go_on leads (more_groups (c ∷ rest))
go_on-more leads c rest comma on three = sym (go_on-next leads c rest comma ∙ rw (on, three) refl)

pub go_on-stops : (leads : Bool) (c : ℕ) (rest : List ℕ) → is_comma c ≡ true
    → (leads ≡ true → leading_digits Figure rest ≡ 3 → ⊥)
    → go_on leads (more_groups (c ∷ rest)) ≡ false
go_on-stops false c rest comma other = go_on-next false c rest comma
go_on-stops true c rest comma other =
    let some = other refl in
    let test : (leading_digits Figure rest == 3) ≡ false = grind (arith, nat_tests, some) in
    go_on-next true c rest comma ∙ rw test refl

-- what follows the whole part
pub after-figures : (text : List ℕ) → after_whole (after_digits Figure text) ≡ after_whole text
after-figures [] = refl
after-figures (c ∷ rest) = by (is_digit Figure c) refl (after-figures rest) where
  by : (b : Bool) → is_digit Figure c ≡ b
      → after_whole (after_digits Figure rest) ≡ after_whole rest
      → after_whole (if b then after_digits Figure rest else c ∷ rest) ≡ after_whole (c ∷ rest)
  by true figure ih = ih ∙ sym (rw figure refl)
  by false figure ih = refl

pub after-comma : (c : ℕ) (rest : List ℕ) → is_comma c ≡ true
    → after_whole (c ∷ rest) ≡ after_whole rest
after-comma c rest comma = by (is_digit Figure c) where
  by : (b : Bool) → (if b || is_comma c then after_whole rest else c ∷ rest) ≡ after_whole rest
  by true = refl
  by false = rw comma refl
