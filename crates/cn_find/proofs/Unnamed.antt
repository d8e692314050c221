-- The characters that part a text into expressions.
use Rattle.std.proofs.Common.{◌≡◌, ℕ, zero, suc, Bool, false, not, ◌&&◌, ◌||◌, List, [], ◌∷◌, ◌++◌, codes, is_some, refl, ap, ◌∙◌}
use Rattle.std.specs.Char.{char_set_contains}
use Rattle.std.proofs.lemmas.Bool.{or_from}
use Rattle.std.proofs.Math.Bool.{and-false}
use Rattle.cn_core.specs.Characters.{digit_of}
use Rattle.cn_core.specs.FigureCharacters.{is_comma, is_currency, is_figure, is_figure_minus, is_percent, is_wide_figure}
use Rattle.cn_core.specs.Mark.{mark_of}
use Rattle.cn_find.specs.declared.wanted.Wanted.{Wanted}
use Rattle.cn_find.specs.Belongs.{belongs, first_is, first_then, is_ge, is_wanted}
use Rattle.cn_find.specs.Expressions.{begins_below_zero, begins_decimals, begins_degrees, begins_fraction, begins_minutes, begins_multiplier, begins_number, begins_numeral, begins_numerator, begins_signed, begins_time, begins_word, binds_minus, ends_decimals, ends_head, ends_numeral, expression_rule, follows_one, is_extra, is_han, is_item, is_kilo, is_multiplier, is_numeric, is_other_word, is_power, is_tens, is_weight, joins, may_precede_minus, precedes_minus, three_figures}
use Rattle.cn_find.specs.Flags.{is_any_digit}
use Rattle.cn_find.specs.Parting.{is_named, is_of_measure}
use Rattle.cn_find.proofs.Extra.{neither, IsUsual-of, no-joiner, usual_belongs, usual-numeric}
use Rattle.cn_find.proofs.Parting.{Parts}
use Rattle.cn_find.proofs.Unwanted.{belongs-same, outside, unwanted, IsUnseen}

-- the facts about such a character
record IsUnnamed (wanted : Wanted) (c : ℕ) : Type 0 where
  unseen : IsUnseen wanted c
  han : is_han c ≡ false
  figure : is_figure c ≡ false
  digit : is_some (digit_of c) ≡ false
  extra : is_extra c ≡ false
  binds : binds_minus c ≡ false
  degree : char_set_contains (codes "℃") c ≡ false

IsUnnamed-of : (wanted : Wanted) (c : ℕ) → is_wanted wanted c ≡ false → is_named c ≡ false
    → IsUnnamed wanted c
unfolding is_named is_of_measure is_han
IsUnnamed-of wanted c unwanted e =
    let a = neither _ (char_set_contains (codes "℃") c) e in
    let b = neither _ (binds_minus c) a.0 in
    let d = neither _ (is_extra c) b.0 in
    let f = neither _ (is_some (digit_of c)) d.0 in
    let g = neither (is_han c) (is_figure c) f.0 in
    record {
      unseen = record {
        unwanted = unwanted;
        unmeasured = outside is_han
            (codes "瓦赫帕焦伏乏字节節比特电電子宽寬带帶頻位数數欧歐元") c refl g.0;
      };
      han = g.0;
      figure = g.1;
      digit = f.1;
      extra = d.1;
      binds = b.1;
      degree = a.1;
    }

-- such a character belongs to nothing
none-belongs : (wanted : Wanted) (front : List ℕ) (c : ℕ) (after : List ℕ) → IsUnnamed wanted c
    → (expression_rule wanted).belongs front c after ≡ false
none-belongs wanted front c after u = usual_belongs wanted front c after u.extra
    ∙ unwanted wanted c after u.unseen

none-numeric : (wanted : Wanted) (c : ℕ) (after : List ℕ) → IsUnnamed wanted c
    → is_numeric wanted c after ≡ false
none-numeric wanted c after u = usual-numeric wanted c after u.extra
    ∙ unwanted wanted c after u.unseen

-- a character before it is treated as if the text ended there
numeric-same : (wanted : Wanted) (d c : ℕ) (right xs : List ℕ) → IsUnnamed wanted c
    → is_numeric wanted d (xs ++ c ∷ right) ≡ is_numeric wanted d xs
unfolding is_numeric
numeric-same wanted d c right xs u =
    ap (λ b. b || (is_tens d || is_wide_figure d)) (belongs-same wanted d c right xs u.unseen)

-- the test of a text treats the character like the end of the text
abbrev Stops : ℕ → (List ℕ → Bool) → Type 0
Stops c passes = (right xs : List ℕ) → passes (xs ++ c ∷ right) ≡ passes xs

first-stops : (test : ℕ → Bool) (c : ℕ) → test c ≡ false → Stops c (first_is test)
first-stops test c none right [] = none
first-stops test c none right (x ∷ xs) = refl

then-stops : (test : ℕ → Bool) (passes : List ℕ → Bool) (c : ℕ) → test c ≡ false
    → Stops c passes → Stops c (first_then test passes)
then-stops test passes c none same right [] = rw none
then-stops test passes c none same right (x ∷ xs) = ap (λ b. test x && b) (same right xs)

three-stops : (passes : List ℕ → Bool) (c : ℕ) → is_figure c ≡ false → Stops c passes
    → Stops c (three_figures passes)
three-stops passes c none same =
    then-stops is_figure (first_then is_figure (first_then is_figure passes)) c none
    (then-stops is_figure (first_then is_figure passes) c none
    (then-stops is_figure passes c none same))

numeral-stops : (wanted : Wanted) (c : ℕ) → IsUnnamed wanted c → Stops c (begins_numeral wanted)
numeral-stops wanted c u right [] = none-numeric wanted c right u
numeral-stops wanted c u right (x ∷ xs) = numeric-same wanted x c right xs u

time-stops : (wanted : Wanted) (c : ℕ) → IsUnnamed wanted c → Stops c begins_time
unfolding is_han
time-stops wanted c u =
    first-stops (char_set_contains (codes "分刻十点點")) c
    (outside is_han (codes "分刻十点點") c refl u.han)

minutes-stops : (wanted : Wanted) (c : ℕ) → IsUnnamed wanted c → Stops c begins_minutes
minutes-stops wanted c u =
    then-stops is_any_digit begins_time c
    (or_from (is_some (digit_of c)) _ u.digit (IsUsual-of c u.extra).wide) (time-stops wanted c u)

word-stops : (wanted : Wanted) (d c : ℕ) → IsUnnamed wanted c → Stops c (begins_word d)
unfolding begins_word follows_one is_han
word-stops wanted d c u right xs = rw (
  time-stops wanted c u right xs,
  minutes-stops wanted c u right xs,
  first-stops follows_one c (outside is_han (codes "定直起样樣些下切滴线線") c refl u.han) right xs,
)

decimals-stops : (wanted : Wanted) (c : ℕ) → IsUnnamed wanted c → Stops c (begins_decimals wanted)
decimals-stops wanted c u right [] = rw u.digit
decimals-stops wanted c u right (x ∷ xs) = rw (word-stops wanted x c u right xs)

multiplier-stops : (wanted : Wanted) (c : ℕ) → IsUnnamed wanted c
    → Stops c (begins_multiplier wanted)
multiplier-stops wanted c u right [] =
    or_from (is_multiplier (mark_of c) && belongs wanted c right) _
    (ap (λ b. is_multiplier (mark_of c) && b) (unwanted wanted c right u.unseen)
    ∙ and-false (is_multiplier (mark_of c)))
    (or_from (is_percent c) _ (no-joiner (codes "%％") c refl u.extra)
    (no-joiner (codes "‰") c refl u.extra))
multiplier-stops wanted c u right (x ∷ xs) = rw (belongs-same wanted x c right xs u.unseen)

signed-stops : (wanted : Wanted) (c : ℕ) → IsUnnamed wanted c → Stops c (begins_signed wanted)
signed-stops wanted c u right [] = rw (
  none-numeric wanted c right u,
  no-joiner (codes "负負-−－") c refl u.extra,
)
signed-stops wanted c u right (x ∷ xs) = rw (
  numeric-same wanted x c right xs u,
  numeral-stops wanted c u right xs,
)

numerator-stops : (wanted : Wanted) (c : ℕ) → IsUnnamed wanted c
    → Stops c (begins_numerator wanted)
numerator-stops wanted c u =
    then-stops (char_set_contains (codes "之")) (begins_signed wanted) c
    (no-joiner (codes "之") c refl u.extra) (signed-stops wanted c u)

fraction-stops : (wanted : Wanted) (c : ℕ) → IsUnnamed wanted c → Stops c (begins_fraction wanted)
fraction-stops wanted c u right [] = rw (none-numeric wanted c right u)
fraction-stops wanted c u right (x ∷ xs) = rw (
  numeric-same wanted x c right xs u,
  then-stops (char_set_contains (codes "分")) (begins_numerator wanted) c
      (no-joiner (codes "分") c refl u.extra) (numerator-stops wanted c u) right xs,
  fraction-stops wanted c u right xs,
)

degrees-stops : (wanted : Wanted) (c : ℕ) → IsUnnamed wanted c → Stops c (begins_degrees wanted)
unfolding is_han
degrees-stops wanted c u right xs = rw (
  numeral-stops wanted c u right xs,
  first-stops (char_set_contains (codes "度点點摄攝℃")) c
      (outside (λ d. is_han d || char_set_contains (codes "℃") d) (codes "度点點摄攝℃") c refl
      (or_from (is_han c) _ u.han u.degree)) right xs,
)

below-stops : (wanted : Wanted) (c : ℕ) → IsUnnamed wanted c → Stops c (begins_below_zero wanted)
below-stops wanted c u right [] = rw (u.figure, u.unseen.unwanted)
below-stops wanted c u right (x ∷ xs) = rw (degrees-stops wanted c u right xs)

joins-ahead : (wanted : Wanted) (front : List ℕ) (d c : ℕ) → IsUnnamed wanted c
    → Stops c (joins wanted front d)
unfolding joins
joins-ahead wanted front d c u right xs =
    let figure = first-stops is_figure c u.figure in
    rw (
      decimals-stops wanted c u right xs,
      figure right xs,
      three-stops (λ others. not (first_is is_figure others)) c u.figure
          (λ more ys. ap not (figure more ys)) right xs,
      first-stops is_wide_figure c (IsUsual-of c u.extra).wide right xs,
      multiplier-stops wanted c u right xs,
      numerator-stops wanted c u right xs,
      signed-stops wanted c u right xs,
      fraction-stops wanted c u right xs,
      below-stops wanted c u right xs,
      numeral-stops wanted c u right xs,
      then-stops is_currency (first_is is_figure) c (no-joiner (codes "¥￥") c refl u.extra) figure
          right xs,
    )

words-ahead : (wanted : Wanted) (front : List ℕ) (d c : ℕ) → IsUnnamed wanted c
    → Stops c (is_other_word wanted front d)
unfolding is_weight is_item is_kilo is_han
words-ahead wanted front d c u right xs =
    let may = not (ends_numeral wanted front) in
    rw (
      first-stops (λ e. is_wanted wanted e && (is_multiplier (mark_of e) || is_ge (mark_of e))) c
          (rw u.unseen.unwanted) right xs,
      then-stops (char_set_contains (codes "万萬")) (λ others. may || first_is is_han others) c
          (outside is_han (codes "万萬") c refl u.han)
          (λ more ys. ap (λ b. may || b) (first-stops is_han c u.han more ys)) right xs,
      first-stops (char_set_contains (codes "瓦克米卡赫伏安焦帕")) c
          (outside is_han (codes "瓦克米卡赫伏安焦帕") c refl u.han) right xs,
    )

-- a character after it is treated as if the text began there
nearest-numeral : (wanted : Wanted) (c : ℕ) → IsUnnamed wanted c → Stops c (ends_numeral wanted)
nearest-numeral wanted c u =
    first-stops (λ d. is_numeric wanted d []) c (none-numeric wanted c [] u)

nearest-number : (wanted : Wanted) (d c : ℕ) → IsUnnamed wanted c → Stops c (begins_number d)
unfolding begins_number
nearest-number wanted d c u left front =
    ap (λ b. not (char_set_contains (codes "0０") d) && not b)
    (first-stops (λ e. is_figure e || char_set_contains (codes ",.．") e) c
    (or_from (is_figure c) _ u.figure (no-joiner (codes ",.．") c refl u.extra)) left front)

nearest-head : (wanted : Wanted) (most c : ℕ) → IsUnnamed wanted c → Stops c (ends_head most)
nearest-head wanted zero c u left front = refl
nearest-head wanted (suc most) c u left [] = rw u.figure
nearest-head wanted (suc most) c u left (x ∷ front) = rw (
  nearest-number wanted x c u left front,
  nearest-head wanted most c u left front,
)

joins-behind : (wanted : Wanted) (d c : ℕ) (after : List ℕ) → IsUnnamed wanted c
    → Stops c (λ front. joins wanted front d after)
unfolding joins precedes_minus is_han
joins-behind wanted d c after u left front =
    let figure = first-stops is_figure c u.figure in
    let numeral = nearest-numeral wanted c u in
    let bound = first-stops binds_minus c u.binds in
    rw (
      figure left front,
      nearest-head wanted 3 c u left front,
      three-stops (first_is is_comma) c u.figure
          (first-stops is_comma c (no-joiner (codes ",，") c refl u.extra)) left front,
      first-stops is_wide_figure c (IsUsual-of c u.extra).wide left front,
      numeral left front,
      then-stops (char_set_contains (codes "分")) (ends_numeral wanted) c
          (no-joiner (codes "分") c refl u.extra) numeral left front,
      then-stops (char_set_contains (codes " ")) (first_is is_figure) c
          (no-joiner (codes " ") c refl u.extra) figure left front,
      then-stops (char_set_contains (codes "零")) (λ others. not (ends_numeral wanted others)) c
          (outside is_han (codes "零") c refl u.han) (λ more ys. ap not (numeral more ys)) left front,
      first-stops precedes_minus c
          (outside is_han (codes "正非背揹肩担擔抱胜勝辜欺自不") c refl u.han) left front,
      bound left front,
      then-stops is_figure_minus (may_precede_minus wanted) c
          (no-joiner (codes "-−－") c refl u.extra) (λ more ys. rw (numeral more ys, bound more ys))
          left front,
    )

nearest-decimals : (wanted : Wanted) (c : ℕ) → IsUnnamed wanted c → Stops c ends_decimals
nearest-decimals wanted c u left [] = rw (u.digit, (IsUsual-of c u.extra).wide)
nearest-decimals wanted c u left (x ∷ front) = rw (
  first-stops (char_set_contains (codes "点點.．")) c
      (no-joiner (codes "点點.．") c refl u.extra) left front,
  nearest-decimals wanted c u left front,
)

words-behind : (wanted : Wanted) (d c : ℕ) (after : List ℕ) → IsUnnamed wanted c
    → Stops c (λ front. is_other_word wanted front d after)
unfolding is_weight is_item is_kilo
words-behind wanted d c after u left front = rw (
  nearest-numeral wanted c u left front,
  first-stops (λ e. is_wanted wanted e && is_power (mark_of e)) c (rw u.unseen.unwanted) left front,
  nearest-decimals wanted c u left front,
)

pub unnamed-parts : (wanted : Wanted) (c : ℕ) → is_wanted wanted c ≡ false
    → is_named c ≡ false → Parts (expression_rule wanted) c
unnamed-parts wanted c not_wanted unnamed = record {
  outside = λ front after. none-belongs wanted front c after u;
  ends = λ front d xs right.
      rw (
        numeric-same wanted d c right xs u,
        words-ahead wanted front d c u right xs,
        joins-ahead wanted front d c u right xs,
      );
  begins = λ front left d after.
      rw (words-behind wanted d c after u left front, joins-behind wanted d c after u left front);
} where
  u : IsUnnamed wanted c
  u = IsUnnamed-of wanted c not_wanted unnamed
