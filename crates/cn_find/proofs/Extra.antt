-- The characters that belong to expressions but not to numbers.
use Rattle.std.proofs.Common.{◌≡◌, ℕ, Bool, true, false, not, ◌&&◌, ◌||◌, List, [], ◌∷◌, ◌++◌, chars, codes, refl, sym, ap, ◌∙◌, Option, Some, None, is_some, append-nil}
use Rattle.std.specs.Char.{char_set_contains, is_ascii_digit}
use Rattle.std.specs.List.{list_all}
use Rattle.std.proofs.lemmas.Bool.{not-true}
use Rattle.std.proofs.lemmas.List.{map-id}
use Rattle.std.proofs.Math.Bool.{and-false, and-true, or-false}
use Rattle.cn_core.proofs.Fronts.{and-left, and-right}
use Rattle.cn_core.specs.Characters.{digit_of, rank_of}
use Rattle.cn_core.specs.FigureCharacters.{is_figure, is_wide_figure}
use Rattle.cn_core.specs.Mark.{mark_from, mark_of, other}
use Rattle.cn_find.specs.declared.wanted.Wanted.{Wanted}
use Rattle.cn_find.specs.Belongs.{belongs, is_parted}
use Rattle.cn_find.specs.Expressions.{expression_rule, is_extra, is_item, is_kilo, is_numeric, is_other_word, is_tens, is_weight, is_word_digit, joins, parts_expressions}
use Rattle.cn_find.specs.Rule.{number_rule}
use Rattle.cn_find.specs.Spans.{expressions, spans}
use Rattle.cn_find.proofs.Parting.{Agreement, all-alike}
use Rattle.cn_find.proofs.Unwanted.{outside}

-- if an alternative is false, so are both of its parts
pub neither : (a b : Bool) → (a || b) ≡ false → (a ≡ false) × (b ≡ false)
neither true b e = cc
neither false b e = (refl, e)

pub record IsUsual (c : ℕ) : Type 0 where
  pub tens : is_tens c ≡ false
  pub wide : is_wide_figure c ≡ false
  pub joiner : char_set_contains (codes "点點.．,， 分之%％‰又下负負-−－¥￥两兩个個千仟") c ≡ false

pub IsUsual-of : (c : ℕ) → is_extra c ≡ false → IsUsual c
unfolding is_extra
IsUsual-of c e =
    let one = neither (is_tens c || is_wide_figure c) _ e in
    let two = neither (is_tens c) _ one.0 in
    record { tens = two.0; wide = two.1; joiner = one.1 }

abbrev pub is_joiner : ℕ → Bool
is_joiner c = char_set_contains (codes "点點.．,， 分之%％‰又下负負-−－¥￥两兩个個千仟") c

-- a character that is not extra is in no set of joiners
pub no-joiner : (set : List ℕ) (c : ℕ) → list_all is_joiner set ≡ true → is_extra c ≡ false
    → char_set_contains set c ≡ false
no-joiner set c all e = outside is_joiner set c all (IsUsual-of c e).joiner

pub usual-joins : (wanted : Wanted) (front : List ℕ) (c : ℕ) (after : List ℕ) → is_extra c ≡ false
    → joins wanted front c after ≡ false
unfolding joins
usual-joins wanted front c after e = rw (
  no-joiner (codes "点點") c refl e,
  no-joiner (codes ".．") c refl e,
  no-joiner (codes ",") c refl e,
  no-joiner (codes "，") c refl e,
  no-joiner (codes " ") c refl e,
  no-joiner (codes "分") c refl e,
  no-joiner (codes "之") c refl e,
  no-joiner (codes "%％") c refl e,
  no-joiner (codes "‰") c refl e,
  no-joiner (codes "又") c refl e,
  no-joiner (codes "下") c refl e,
  no-joiner (codes "负負") c refl e,
  no-joiner (codes "-−－") c refl e,
  no-joiner (codes "¥￥") c refl e,
)

usual-word : (wanted : Wanted) (front : List ℕ) (c : ℕ) (after : List ℕ) → is_extra c ≡ false
    → is_other_word wanted front c after ≡ false
unfolding is_weight is_item is_kilo
usual-word wanted front c after e = rw (
  no-joiner (codes "两兩") c refl e,
  no-joiner (codes "个個") c refl e,
  no-joiner (codes "千仟") c refl e,
)

-- a character without a mark belongs to no such word, and is a numeral character only if it is 廿,
-- 卅 or a full-width figure
abbrev has_mark : ℕ → Bool
has_mark c = is_some (digit_of c) || is_some (rank_of c)

no-mark : (c : ℕ) → mark_of c ≡ other → has_mark c ≡ false
no-mark c e = by (digit_of c) (rank_of c) e where
  by : (d r : Option ℕ) → mark_from d r ≡ other → (is_some d || is_some r) ≡ false
  by (Some value) r e = cc
  by None (Some rank) e = cc
  by None None e = refl

unmarked-word : (wanted : Wanted) (front : List ℕ) (c : ℕ) (after : List ℕ) → mark_of c ≡ other
    → is_other_word wanted front c after ≡ false
unfolding is_weight is_item is_kilo digit_of rank_of
unmarked-word wanted front c after e = rw (
  outside has_mark (codes "两兩") c refl (no-mark c e),
  outside has_mark (codes "个個") c refl (no-mark c e),
  outside has_mark (codes "千仟") c refl (no-mark c e),
)

pub unmarked-belongs : (wanted : Wanted) (c : ℕ) (after : List ℕ) → mark_of c ≡ other
    → belongs wanted c after ≡ false
unfolding belongs
unmarked-belongs wanted c after e = rw e

pub unmarked : (wanted : Wanted) (front : List ℕ) (c : ℕ) (after : List ℕ) → mark_of c ≡ other
    → (is_numeric wanted c after && not (is_other_word wanted front c after))
    ≡ (is_tens c || is_wide_figure c)
unfolding is_numeric
unmarked wanted front c after e =
    rw (unmarked-word wanted front c after e, unmarked-belongs wanted c after e)
    (and-true (is_tens c || is_wide_figure c))

pub usual-numeric : (wanted : Wanted) (c : ℕ) (after : List ℕ) → is_extra c ≡ false
    → is_numeric wanted c after ≡ belongs wanted c after
unfolding is_numeric
usual-numeric wanted c after e =
    let u = IsUsual-of c e in rw (u.tens, u.wide) (or-false (belongs wanted c after))

-- such a character belongs to an expression exactly if it belongs to a number
pub usual_belongs : (wanted : Wanted) (front : List ℕ) (c : ℕ) (after : List ℕ)
    → is_extra c ≡ false
    → (expression_rule wanted).belongs front c after ≡ belongs wanted c after
usual_belongs wanted front c after e =
    rw (usual-word wanted front c after e, usual-joins wanted front c after e)
    (or-false (is_numeric wanted c after && true) ∙ and-true (is_numeric wanted c after)
    ∙ usual-numeric wanted c after e)

-- in a text without such characters and without figures the expressions are the numbers
abbrev is_usual : ℕ → Bool
is_usual c = not (is_figure c) && not (is_extra c)

usual-extra : (c : ℕ) → is_usual c ≡ true → is_extra c ≡ false
usual-extra c e = not-true (is_extra c) (and-right (not (is_figure c)) (not (is_extra c)) e)

usual-figure : (c : ℕ) → is_usual c ≡ true → is_figure c ≡ false
usual-figure c e = not-true (is_figure c) (and-left (not (is_figure c)) (not (is_extra c)) e)

usual-ascii : (c : ℕ) → is_usual c ≡ true → is_ascii_digit c ≡ false
usual-ascii c e = (neither (is_ascii_digit c) (is_wide_figure c) (usual-figure c e)).0

usual-apart : (c next : ℕ) → is_usual c ≡ true → is_usual next ≡ true
    → parts_expressions c next ≡ false
unfolding parts_expressions
usual-apart c next e f = rw (
  usual-figure c e,
  usual-figure next f,
  no-joiner (codes "%％") c refl (usual-extra c e),
  no-joiner (codes "‰") c refl (usual-extra c e),
) (or-false ((is_word_digit c && not (char_set_contains (codes "零〇") c)) && false)
    ∙ and-false (is_word_digit c && not (char_set_contains (codes "零〇") c)))

usual-met : (c next : ℕ) → is_usual c ≡ true → is_usual next ≡ true → is_parted c next ≡ false
usual-met c next e f =
    rw (usual-ascii c e, usual-ascii next f) (and-false (is_some (digit_of c) && true))

usual-parts : (c next : ℕ) → is_usual c ≡ true → is_usual next ≡ true
    → parts_expressions c next ≡ is_parted c next
usual-parts c next e f = usual-apart c next e f ∙ sym (usual-met c next e f)

abbrev is_usual_text : List ℕ → Bool
is_usual_text cs = list_all is_usual cs

first-usual : (c : ℕ) (cs : List ℕ) → is_usual_text (c ∷ cs) ≡ true → is_usual c ≡ true
first-usual c cs all = and-left (is_usual c) _ all

others-usual : (c : ℕ) (cs : List ℕ) → is_usual_text (c ∷ cs) ≡ true → is_usual_text cs ≡ true
others-usual c cs all = and-right (is_usual c) _ all

abbrev usual : Wanted → Agreement []
usual wanted = record {
  here = expression_rule wanted;
  there = number_rule wanted;
  Near = λ f g. f ≡ g;
  Such = λ cs. is_usual_text cs ≡ true;
  change = λ span. span;
  nearer = λ f g d near. ap (λ l. d ∷ l) near;
  others = others-usual;
  belongs = λ f g d xs near all.
      usual_belongs wanted f d (xs ++ []) (usual-extra d (first-usual d xs all))
      ∙ ap (belongs wanted d) (append-nil xs);
  parts = λ d x xs all. usual-parts d x (first-usual d (x ∷ xs) all)
      (first-usual x xs (others-usual d (x ∷ xs) all));
  ends = λ f d. refl;
  changed = λ f g run after near.
      rw (near, append-nil after);
}

pub numbers-alone : (wanted : Wanted) (bytes : List ℕ) → is_usual_text (chars bytes) ≡ true
    → expressions wanted bytes ≡ spans wanted bytes
numbers-alone wanted bytes all = all-alike (usual wanted) false [] [] (chars bytes) refl all
    ∙ map-id (spans wanted bytes)
