-- No item begins with a character that fails the quick test.
use Rattle.std.proofs.Common.{◌≡◌, ℕ, Bool, true, false, List, [], ◌∷◌, codes, Option, Some, None, option_map, if◌then◌else◌, refl, ◌∙◌}
use Rattle.cn_core.specs.Characters.{digit_of, rank_of}
use Rattle.cn_core.specs.FigureCharacters.{is_figure, tens_of}
use Rattle.cn_core.specs.Mark.{Mark, digit, unit, mark_of, other}
use Rattle.cn_find.specs.declared.wanted.Wanted.{Wanted}
use Rattle.cn_find.specs.Expressions.{expression_rule, is_extra, is_tens}
use Rattle.cn_find.specs.Spans.{run_after}
use Rattle.cn_find.proofs.Extra.{neither, unmarked-belongs, usual_belongs}
use Rattle.cn_find.proofs.Unwanted.{outside}
use Rattle.cn_replace.specs.Pieces.{begins}
use Rattle.cn_phrase.specs.Items.{Item, first_of, is_price_within, item_rest, rest_of, whole_phrase}
use Rattle.cn_phrase.specs.Money.{is_sign, money_at}
use Rattle.cn_phrase.specs.Phrases.{phrase_at}
use Rattle.cn_phrase.specs.Pieces.{is_numeral}
use Rattle.cn_phrase.specs.Ranges.{range_at}
use Rattle.cn_phrase.specs.Private.{is_marked, may_be_first, may_lead}
use Rattle.cn_phrase.proofs.Beginnings.{none-begins, nothing_by_word}

record IsPassed (c : ℕ) : Type 0 where
  unmarked : is_marked (mark_of c) ≡ false
  no_figure : is_figure c ≡ false
  no_extra : is_extra c ≡ false
  no_lead : may_lead c ≡ false

IsPassed-of : (c : ℕ) → may_be_first c ≡ false → IsPassed c
IsPassed-of c e =
    let one = neither (is_marked (mark_of c)) _ e in
    let two = neither (is_figure c) _ one.1 in
    let three = neither (is_extra c) _ two.1 in
    record { unmarked = one.0; no_figure = two.0; no_extra = three.0; no_lead = three.1 }

is-other : (mark : Mark) → is_marked mark ≡ false → mark ≡ other
is-other (digit n) e = cc
is-other (unit n) e = cc
is-other other e = refl

no-numeral : (c : ℕ) → IsPassed c → is_numeral c ≡ false
unfolding is_numeral digit_of rank_of
no-numeral c passed = rw (
  passed.no_figure,
  outside (λ d. is_marked (mark_of d)) (codes "零〇一二两兩三四五六七八九十百") c refl passed.unmarked,
) refl

no-expression : (wanted : Wanted) (front : List ℕ) (c : ℕ) (ahead : List ℕ) → IsPassed c
    → run_after (expression_rule wanted) front (c ∷ ahead) ≡ None
no-expression wanted front c ahead passed =
    let none = usual_belongs wanted front c ahead passed.no_extra
    ∙ unmarked-belongs wanted c ahead (is-other (mark_of c) passed.unmarked) in
    rw none refl

no-phrase : (front : List ℕ) (c : ℕ) (ahead : List ℕ) → IsPassed c → phrase_at front (c ∷ ahead) ≡ None
no-phrase front c ahead passed = rw (
  none-begins front (c ∷ ahead) (no-numeral c passed),
  nothing_by_word front (c ∷ ahead) passed.no_lead,
) refl

no-sign : (c : ℕ) → is_extra c ≡ false → is_sign c ≡ false
unfolding is_sign is_extra is_tens tens_of
no-sign c e = outside is_extra (codes "￥¥") c refl e

no-sum : (wanted : Wanted) (front : List ℕ) (c : ℕ) (ahead : List ℕ) → IsPassed c
    → money_at wanted front (c ∷ ahead) ≡ None
no-sum wanted front c ahead passed = rw (
  no-sign c passed.no_extra,
  no-expression wanted front c ahead passed,
) refl

-- nothing, whether it is sought or not
nothing-either : (b : Bool) (o : Option Item) → o ≡ None
    → option_map rest_of (if b then None else o) ≡ None
nothing-either true o e = refl
nothing-either false o e = rw e refl

pub no_item_begins : (wanted : Wanted) (front text : List ℕ) → begins may_be_first text ≡ false
    → item_rest wanted front text ≡ None
no_item_begins wanted front [] e = rw (
  none-begins front [] refl,
  nothing_by_word front [] refl,
) refl
no_item_begins wanted front (c ∷ ahead) e =
    let passed = IsPassed-of c e in
    nothing-either (is_price_within wanted front (c ∷ ahead))
    (first_of (whole_phrase wanted front (c ∷ ahead)) (money_at wanted front (c ∷ ahead))
    (range_at wanted front (c ∷ ahead)) (run_after (expression_rule wanted) front (c ∷ ahead))) (rw (
      no-phrase front c ahead passed,
      no-sum wanted front c ahead passed,
      no-expression wanted front c ahead passed,
    ) refl)
