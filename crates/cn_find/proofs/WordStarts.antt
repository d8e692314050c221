-- A number whose first two characters are those of no word begins no word.
use Rattle.std.proofs.Common.{◌≡◌, ℕ, Bool, true, false, ◌&&◌, ◌==◌, List, [], ◌∷◌, codes, refl, sym, ap, ◌∙◌, subst, arith}
use Rattle.std.specs.Char.{char_set_contains}
use Rattle.std.proofs.lemmas.Bool.Decides.{nat_tests}
use Rattle.std.proofs.Math.Bool.{and-false}
use Rattle.cn_find.specs.Private.{may_begin_word}
use Rattle.cn_find.specs.Words.{begins_word, is_exactly}

abbrev firsts : List ℕ
firsts = codes "十二三七一四五亿億"

abbrev seconds : List ℕ
seconds = codes "十百千万萬一二三四五六八九"

-- a text that does not begin with two such characters is not one that does
not-exactly : (a b : ℕ) (rest text : List ℕ) → char_set_contains firsts a ≡ true
    → char_set_contains seconds b ≡ true → may_begin_word text ≡ false
    → is_exactly (a ∷ b ∷ rest) text ≡ false
not-exactly a b rest [] one two none = refl
not-exactly a b rest (c ∷ []) one two none = and-false (a == c)
not-exactly a b rest (c ∷ d ∷ text) one two none = by (a == c) (b == d) refl refl where
  by : (e f : Bool) → (a == c) ≡ e → (b == d) ≡ f
      → (e && (f && is_exactly rest text)) ≡ false
  by false f is_c is_d = refl
  by true false is_c is_d = refl
  by true true is_c is_d =
      let same_c : a ≡ c = grind (arith, nat_tests, is_c) in
      let same_d : b ≡ d = grind (arith, nat_tests, is_d) in
      let has_c : char_set_contains firsts c ≡ true =
      subst (λ x. char_set_contains firsts x ≡ true) same_c one in
      let has_d : char_set_contains seconds d ≡ true =
      subst (λ x. char_set_contains seconds x ≡ true) same_d two in
      let both : may_begin_word (c ∷ d ∷ text) ≡ true =
      ap (λ x. x && char_set_contains seconds d) has_c ∙ has_d in
      let no : true ≡ false = sym both ∙ none in cc

pub begins_none : (text after : List ℕ) → may_begin_word text ≡ false → begins_word text after ≡ false
begins_none text after none = rw (
  not-exactly 21313 20108 [] text refl refl none,
  not-exactly 21313 20843 [] text refl refl none,
  not-exactly 21313 20061 [] text refl refl none,
  not-exactly 20108 21313 [] text refl refl none,
  not-exactly 21313 19968 [] text refl refl none,
  not-exactly 19977 21313 (codes "六") text refl refl none,
  not-exactly 19971 21313 (codes "二") text refl refl none,
  not-exactly 19977 30334 (codes "六十") text refl refl none,
  not-exactly 20108 21313 (codes "四") text refl refl none,
  not-exactly 20108 21313 (codes "八") text refl refl none,
  not-exactly 21313 19977 [] text refl refl none,
  not-exactly 19968 21315 (codes "零一") text refl refl none,
  not-exactly 20108 20843 [] text refl refl none,
  not-exactly 21313 19975 [] text refl refl none,
  not-exactly 21313 33836 [] text refl refl none,
  not-exactly 21313 19975 (codes "八千") text refl refl none,
  not-exactly 21313 33836 (codes "八千") text refl refl none,
  not-exactly 19968 21315 [] text refl refl none,
  not-exactly 19977 21313 [] text refl refl none,
  not-exactly 22235 21313 [] text refl refl none,
  not-exactly 20116 21313 [] text refl refl none,
  not-exactly 21313 20116 [] text refl refl none,
  not-exactly 20108 30334 (codes "五") text refl refl none,
  not-exactly 20159 19975 [] text refl refl none,
  not-exactly 20740 33836 [] text refl refl none,
)
