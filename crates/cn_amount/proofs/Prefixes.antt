-- What the reader knows of the prefix that it has read.
use Rattle.std.proofs.Common.{◌≡◌, ℕ, Bool, true, false, ◌&&◌, ◌||◌, ◌==◌, List, [], ◌∷◌, ◌++◌, Some, codes, refl, sym, ap, subst, ◌∙◌, if◌then◌else◌, append-nil, append_assoc, arith}
use Rattle.std.specs.Char.{char_set_contains}
use Rattle.std.specs.List.{AllByRecursion, Contains, list_all}
use Rattle.std.proofs.lemmas.Bool.Decides.{nat_tests}
use Rattle.std.proofs.lemmas.List.Elements.{All-contains, All-from_recursion, Contains-append_right}
use Rattle.std.proofs.lemmas.List.Sums.{AllPass-from_list_all}
use Rattle.cn_grammar.specs.Characters.{first_with}
use Rattle.cn_core.proofs.Fronts.{and-left, and-right}
use Rattle.cn_core.specs.declared.script.ChineseVariant.{ChineseVariant}
use Rattle.cn_core.specs.declared.script.ChineseVariant.TheVariants.{Traditional, Simple}
use Rattle.cn_amount.specs.declared.prefix.Point.{Point}
use Rattle.cn_amount.specs.declared.prefix.Point.TheVariants.{Between, SignBracket, SignFu, SignShu, Ren, Min, Currency, Bracket, Da, Xie, Note, Amount}
use Rattle.cn_amount.specs.declared.prefix.Prefix.{Prefix}
use Rattle.cn_amount.specs.declared.prefix.Width.{Width}
use Rattle.cn_amount.specs.declared.prefix.Width.TheVariants.{Full, Half}
use Rattle.cn_grammar.specs.declared.sign.Front.{Front}
use Rattle.cn_grammar.specs.declared.sign.Front.TheVariants.{Open, Plain, Minus}
use Rattle.cn_amount.specs.Typed.{circles, below_signs, signs, names, joined, currencies, orders}
use Rattle.cn_grammar.specs.Sign.{is_below}
use Rattle.cn_amount.specs.Working.Typing.{Ways, ways_if, at, with_circle, with_sign, with_currency, is_open, sign_ways, first_ways, colon_ways, currency_ways, fu_ways, ways_at, next, is_over}

-- P holds of what each row gives, with each of the row's characters
abbrev pub OnRows : {C : Type 0} → (C → ℕ → Type 0) → List (List ℕ × C) → Type 0
OnRows P [] = Unit {0}
OnRows P (row ∷ rows) = AllByRecursion (P row.1) row.0 × OnRows P rows

pub in-set : (P : ℕ → Type 0) (set : List ℕ) (c : ℕ) → AllByRecursion P set
    → char_set_contains set c ≡ true → P c
in-set P [] c h e = absurd (cc)
in-set P (first ∷ set) c h e = by (first == c) refl e (λ e. in-set P set c h.1 e) where
  by : (b : Bool) → (first == c) ≡ b → (b || char_set_contains set c) ≡ true
      → (char_set_contains set c ≡ true → P c) → P c
  by true is e ih = let same : first ≡ c = grind (arith, nat_tests) in subst P same h.0
  by false is e ih = ih e

pub on-row : {C : Type 0} (P : C → ℕ → Type 0) (rows : List (List ℕ × C)) (c : ℕ) (found : C)
    → OnRows P rows → first_with rows c ≡ Some found → P found c
on-row P [] c found h e = absurd (cc)
on-row {C} P (row ∷ rows) c found h e =
    by (char_set_contains row.0 c) refl e (λ e. on-row P rows c found h.1 e) where
      by : (b : Bool) → char_set_contains row.0 c ≡ b
          → (if b then Some row.1 else first_with rows c) ≡ Some found
          → (first_with rows c ≡ Some found → P found c) → P found c
      by true is e ih =
          let same : row.1 ≡ found = cc in
          subst (λ found. P found c) same (in-set (P row.1) row.0 c h.0 is)
      by false is e ih = ih e

all-pass : (test : ℕ → Bool) (set : List ℕ) → list_all test set ≡ true
    → AllByRecursion (λ c. test c ≡ true) set
all-pass test [] h = tt
all-pass test (c ∷ set) h = (and-left (test c) _ h, all-pass test set (and-right (test c) _ h))

pub rows-pass : {C : Type 0} (test : C → ℕ → Bool) (rows : List (List ℕ × C))
    → list_all (λ row. list_all (test row.1) row.0) rows ≡ true
    → OnRows (λ found c. test found c ≡ true) rows
rows-pass test [] h = tt
rows-pass test (row ∷ rows) h =
    let own = list_all (test row.1) row.0 in
    (all-pass (test row.1) row.0 (and-left own _ h), rows-pass test rows (and-right own _ h))

-- the same of the ways from a prefix
abbrev pub OnWays : (Prefix → ℕ → Type 0) → Ways → Type 0
OnWays P ways = OnRows P ways

pub on-if : (P : Prefix → ℕ → Type 0) (ways : Ways) (b : Bool) → (b ≡ true → OnWays P ways)
    → OnWays P (ways_if b ways)
on-if P ways true h = h refl
on-if P ways false h = tt

pub on-both : (P : Prefix → ℕ → Type 0) (first more : Ways) → OnWays P first → OnWays P more
    → OnWays P (first ++ more)
on-both P [] more h k = k
on-both P (way ∷ first) more h k = (h.0, on-both P first more h.1 k)

-- whether a text is one of these
abbrev same_text : List ℕ → List ℕ → Bool
same_text [] [] = true
same_text (a ∷ text) (b ∷ other) = (a == b) && same_text text other
same_text text other = false

abbrev pub has : List (List ℕ) → List ℕ → Bool
has [] text = false
has (word ∷ words) text = same_text word text || has words text

same-is : (text other : List ℕ) → same_text text other ≡ true → text ≡ other
same-is [] [] e = refl
same-is [] (b ∷ other) e = absurd (cc)
same-is (a ∷ text) [] e = absurd (cc)
same-is (a ∷ text) (b ∷ other) e =
    let first : (a == b) ≡ true = and-left (a == b) _ e in
    let same : a ≡ b = grind (arith, nat_tests) in
    let rest = same-is text other (and-right (a == b) _ e) in cc

pub has-contains : (words : List (List ℕ)) (text : List ℕ) → has words text ≡ true
    → Contains words text
has-contains [] text e = absurd (cc)
has-contains (word ∷ words) text e =
    by (same_text word text) refl e (λ e. has-contains words text e) where
      by : (b : Bool) → same_text word text ≡ b → (b || has words text) ≡ true
          → (has words text ≡ true → Contains words text) → Contains (word ∷ words) text
      by true is e ih = (0, omega arith, same-is word text is)
      by false is e ih = Contains-append_right (word ∷ []) words text (ih e)

-- a text has one more character, and is one of the next words
more-word : (words next : List (List ℕ)) (c : ℕ)
    → list_all (λ word. has next (word ++ c ∷ [])) words ≡ true → (word : List ℕ)
    → Contains words word → Contains next (word ++ c ∷ [])
more-word words next c all word h =
    has-contains next (word ++ c ∷ [])
    (All-contains (λ word. has next (word ++ c ∷ []) ≡ true) words word
    (AllPass-from_list_all (λ word. has next (word ++ c ∷ [])) words all) h)

-- what holds of each order holds of the text
pub by-order : (G : List ℕ → Type 0) (circle sign currency text : List ℕ)
    → G (circle ++ (sign ++ currency)) → G (sign ++ (circle ++ currency))
    → G (circle ++ (currency ++ sign)) → Contains (orders circle sign currency) text → G text
by-order G circle sign currency text first second third h =
    All-contains G (orders circle sign currency) text
    (All-from_recursion G (orders circle sign currency) (first, (second, (third, tt)))) h

-- the parts that were read, given which may still come
pub record IsRead (signed circle_open : Bool) (front : Front) (currency_open : Bool)
    (text : List ℕ) : Type 0 where
  pub circle : List ℕ
  pub sign : List ℕ
  pub currency : List ℕ
  pub is_circle : Contains circles circle
  pub is_sign : Contains (signs (is_below front)) sign
  pub is_currency : Contains currencies currency
  pub order : Contains (orders circle sign currency) text
  pub no_circle : circle_open ≡ true → (circle ≡ []) × (currency ≡ [])
  pub no_currency : currency_open ≡ true → currency ≡ []
  pub is_signed : is_open front ≡ true → signed ≡ true
  pub is_below_signed : is_below front ≡ true → signed ≡ true

-- the parts that were read before this prefix
abbrev pub HasRead : Bool → Prefix → List ℕ → Type 0
HasRead signed prefix text = IsRead signed prefix.circle prefix.sign prefix.currency text

-- a part is read after them
add-circle : (signed : Bool) (prefix : Prefix) (text : List ℕ) (c : ℕ) → prefix.circle ≡ true
    → Contains circles (c ∷ []) → HasRead signed prefix text
    → HasRead signed (with_circle prefix) (text ++ c ∷ [])
add-circle signed prefix text c e word h =
    let none = h.no_circle e in
    let order = subst (λ circle. Contains (orders circle h.sign []) text) none.0
    (subst (λ currency. Contains (orders h.circle h.sign currency) text) none.1 h.order) in
    let alone : text ≡ h.sign =
    by-order (λ text. text ≡ h.sign) [] h.sign [] text (append-nil h.sign) (append-nil h.sign) refl
    order in
    record {
      circle = c ∷ [];
      sign = h.sign;
      currency = [];
      is_circle = word;
      is_sign = h.is_sign;
      is_currency = (0, omega arith, refl);
      order = (1, omega arith, sym (ap (λ text. text ++ c ∷ []) alone));
      no_circle = λ e. absurd (cc);
      no_currency = λ e. refl;
      is_signed = h.is_signed;
      is_below_signed = h.is_below_signed;
    }

pub no-sign : (sign : List ℕ) → Contains (signs false) sign → sign ≡ []
no-sign sign h =
    All-contains (λ sign. sign ≡ []) (signs false) sign
    (All-from_recursion (λ (sign : List ℕ). sign ≡ []) (signs false) (refl, tt)) h

open-is : (front : Front) → is_open front ≡ true → front ≡ Open
open-is Open e = refl
open-is Plain e = absurd (cc)
open-is Minus e = absurd (cc)

add-sign : (signed : Bool) (prefix : Prefix) (text word : List ℕ) → is_open prefix.sign ≡ true
    → Contains below_signs word → HasRead signed prefix text
    → HasRead signed (with_sign prefix) (text ++ word)
add-sign signed prefix text word e is h =
    let none = no-sign h.sign (subst (λ front. Contains (signs (is_below front)) h.sign)
    (open-is prefix.sign e) h.is_sign) in
    let order = subst (λ sign. Contains (orders h.circle sign h.currency) text) none h.order in
    let alone : text ≡ h.circle ++ h.currency =
    by-order (λ text. text ≡ h.circle ++ h.currency) h.circle [] h.currency text refl refl
    (ap (λ l. h.circle ++ l) (append-nil h.currency)) order in
    record {
      circle = h.circle;
      sign = word;
      currency = h.currency;
      is_circle = h.is_circle;
      is_sign = is;
      is_currency = h.is_currency;
      order = (
        2,
        omega arith,
        sym (ap (λ text. text ++ word) alone ∙ append_assoc h.circle h.currency word),
      );
      no_circle = h.no_circle;
      no_currency = h.no_currency;
      is_signed = λ e. absurd (cc);
      is_below_signed = λ below. h.is_signed e;
    }

add-currency : (signed : Bool) (prefix : Prefix) (text word : List ℕ) → prefix.currency ≡ true
    → Contains currencies word → HasRead signed prefix text
    → HasRead signed (with_currency prefix) (text ++ word)
add-currency signed prefix text word e is h =
    let order = subst (λ currency. Contains (orders h.circle h.sign currency) text)
    (h.no_currency e) h.order in
    record {
      circle = h.circle;
      sign = h.sign;
      currency = word;
      is_circle = h.is_circle;
      is_sign = h.is_sign;
      is_currency = is;
      order = by-order (λ text. Contains (orders h.circle h.sign word) (text ++ word)) h.circle h.sign []
          text (
            0,
            omega arith,
            sym (ap (λ l. (h.circle ++ l) ++ word) (append-nil h.sign)
                ∙ append_assoc h.circle h.sign word),
          ) (
            1,
            omega arith,
            sym (ap (λ l. (h.sign ++ l) ++ word) (append-nil h.circle)
                ∙ append_assoc h.sign h.circle word),
          )
          (0, omega arith, sym (append_assoc h.circle h.sign word))
          order;
      no_circle = λ e. absurd (cc);
      no_currency = λ e. absurd (cc);
      is_signed = h.is_signed;
      is_below_signed = h.is_below_signed;
    }

-- an opening bracket, and 负 in each script
abbrev open_of : Width → List ℕ
open_of Full = codes "（"
open_of Half = codes "("

abbrev fu_of : ChineseVariant → List ℕ
fu_of Simple = codes "负"
fu_of Traditional = codes "負"

-- the texts of a part that lead to a point
abbrev words_at : Point → List (List ℕ)
words_at (SignBracket width) = open_of width ∷ []
words_at (SignFu width variant) = (open_of width ++ fu_of variant) ∷ []
words_at (SignShu width) = (open_of width ++ codes "负数") ∷ (open_of width ++ codes "負數") ∷ []
words_at Ren = codes "人" ∷ []
words_at Min = codes "人民" ∷ []
words_at Currency = names
words_at (Bracket width) = joined names (open_of width ∷ [])
words_at (Da width) = joined names ((open_of width ++ codes "大") ∷ [])
words_at (Xie width) =
    joined names ((open_of width ++ codes "大写") ∷ (open_of width ++ codes "大寫") ∷ [])
words_at Note =
    joined names (codes "（大写）" ∷ codes "（大寫）" ∷ codes "(大写)" ∷ codes "(大寫)" ∷ [])
words_at point = [] ∷ []

-- the part may come
abbrev Fits : Point → Front → Bool → Type 0
Fits (SignBracket width) sign currency = is_open sign ≡ true
Fits (SignFu width variant) sign currency = is_open sign ≡ true
Fits (SignShu width) sign currency = is_open sign ≡ true
Fits Between sign currency = Unit {0}
Fits Amount sign currency = Unit {0}
Fits point sign currency = currency ≡ true

-- the parts that were read, and what was read of one more
pub record IsReading (signed : Bool) (point : Point) (prefix : Prefix) (text : List ℕ)
    : Type 0 where
  pub done : List ℕ
  pub word : List ℕ
  pub read : HasRead signed prefix done
  pub within : Contains (words_at point) word
  pub fits : Fits point prefix.sign prefix.currency
  pub is : text ≡ done ++ word

-- a whole part was read
pub whole : (signed : Bool) (prefix : Prefix) (text : List ℕ) → HasRead signed prefix text
    → IsReading signed Between prefix text
whole signed prefix text h = record {
  done = text;
  word = [];
  read = h;
  within = (0, omega arith, refl);
  fits = tt;
  is = sym (append-nil text);
}

-- the first character of a part is read
starts : (signed : Bool) (point : Point) (prefix : Prefix) (text : List ℕ) (c : ℕ)
    → has (words_at point) (c ∷ []) ≡ true → Fits point prefix.sign prefix.currency
    → HasRead signed prefix text → IsReading signed point (at point prefix) (text ++ c ∷ [])
starts signed point prefix text c one fits h = record {
  done = text;
  word = c ∷ [];
  read = h;
  within = has-contains (words_at point) (c ∷ []) one;
  fits = fits;
  is = refl;
}

-- one more character of the part is read
more : (signed : Bool) (point after : Point) (prefix : Prefix) (text : List ℕ) (c : ℕ)
    → list_all (λ word. has (words_at after) (word ++ c ∷ [])) (words_at point) ≡ true
    → (Fits point prefix.sign prefix.currency → Fits after prefix.sign prefix.currency)
    → IsReading signed point prefix text
    → IsReading signed after (at after prefix) (text ++ c ∷ [])
more signed point after prefix text c all fits h = record {
  done = h.done;
  word = h.word ++ c ∷ [];
  read = h.read;
  within = more-word (words_at point) (words_at after) c all h.word h.within;
  fits = fits h.fits;
  is = ap (λ text. text ++ c ∷ []) h.is ∙ append_assoc h.done h.word (c ∷ []);
}

-- the part is over with this character
ends-with : (done word text : List ℕ) (c : ℕ) → text ≡ done ++ word
    → done ++ (word ++ c ∷ []) ≡ text ++ c ∷ []
ends-with done word text c is =
    sym (ap (λ text. text ++ c ∷ []) is ∙ append_assoc done word (c ∷ []))

ends-sign : (signed : Bool) (point : Point) (prefix : Prefix) (text : List ℕ) (c : ℕ)
    → list_all (λ word. has below_signs (word ++ c ∷ [])) (words_at point) ≡ true
    → is_open prefix.sign ≡ true → IsReading signed point prefix text
    → HasRead signed (with_sign prefix) (text ++ c ∷ [])
ends-sign signed point prefix text c all e h =
    subst (HasRead signed (with_sign prefix)) (ends-with h.done h.word text c h.is)
    (add-sign signed prefix h.done (h.word ++ c ∷ []) e
    (more-word (words_at point) below_signs c all h.word h.within) h.read)

ends-currency : (signed : Bool) (point : Point) (prefix : Prefix) (text : List ℕ) (c : ℕ)
    → list_all (λ word. has currencies (word ++ c ∷ [])) (words_at point) ≡ true
    → prefix.currency ≡ true → IsReading signed point prefix text
    → HasRead signed (with_currency prefix) (text ++ c ∷ [])
ends-currency signed point prefix text c all e h =
    subst (HasRead signed (with_currency prefix)) (ends-with h.done h.word text c h.is)
    (add-currency signed prefix h.done (h.word ++ c ∷ []) e
    (more-word (words_at point) currencies c all h.word h.within) h.read)

-- 人民币 is over without one more character
over-currency : (signed : Bool) (point : Point) (prefix : Prefix) (text : List ℕ)
    → list_all (has currencies) (words_at point) ≡ true → prefix.currency ≡ true
    → IsReading signed point prefix text → HasRead signed (with_currency prefix) text
over-currency signed point prefix text all e h =
    subst (HasRead signed (with_currency prefix)) (sym h.is)
    (add-currency signed prefix h.done h.word e
    (has-contains currencies h.word
    (All-contains (λ word. has currencies word ≡ true) (words_at point) h.word
    (AllPass-from_list_all (has currencies) (words_at point) all) h.within)) h.read)

between-read : (signed : Bool) (prefix : Prefix) (text : List ℕ)
    → IsReading signed Between prefix text → HasRead signed prefix text
between-read signed prefix text h =
    let none = no-sign h.word h.within in
    subst (HasRead signed prefix)
    (sym (h.is ∙ ap (λ word. h.done ++ word) none ∙ append-nil h.done)) h.read

-- a bracket after 人民币 begins a sign
abbrev IsAfterName : Width → List ℕ → Type 0
IsAfterName width word = (name : List ℕ) × Contains currencies name × (word ≡ name ++ open_of width)

after-name : (width : Width) (word : List ℕ) → Contains (words_at (Bracket width)) word
    → IsAfterName width word
after-name width word h =
    All-contains (IsAfterName width) (words_at (Bracket width)) word
    (All-from_recursion (IsAfterName width) (words_at (Bracket width)) (
      (codes "人民币", has-contains currencies (codes "人民币") refl, refl),
      ((codes "人民幣", has-contains currencies (codes "人民幣") refl, refl), tt),
    )) h

turns : (signed : Bool) (width : Width) (variant : ChineseVariant) (prefix : Prefix)
    (text : List ℕ) (c : ℕ) → fu_of variant ≡ c ∷ [] → is_open prefix.sign ≡ true
    → IsReading signed (Bracket width) prefix text
    → IsReading signed (SignFu width variant) (at (SignFu width variant) (with_currency prefix))
    (text ++ c ∷ [])
turns signed width variant prefix text c fu e h =
    let name = after-name width h.word h.within in
    record {
      done = h.done ++ name.0;
      word = open_of width ++ fu_of variant;
      read = add-currency signed prefix h.done name.0 h.fits name.1 h.read;
      within = (0, omega arith, refl);
      fits = e;
      is = ap (λ text. text ++ c ∷ []) (h.is ∙ ap (λ word. h.done ++ word) name.2
          ∙ sym (append_assoc h.done name.0 (open_of width)))
          ∙ append_assoc (h.done ++ name.0) (open_of width) (c ∷ [])
          ∙ sym (ap (λ fu. (h.done ++ name.0) ++ (open_of width ++ fu)) fu);
    }

-- what is known after each character that leads on
abbrev Next : Bool → List ℕ → Prefix → ℕ → Type 0
Next signed text after c = IsReading signed after.point after (text ++ c ∷ [])

on-sign : (signed : Bool) (prefix : Prefix) (text : List ℕ) → HasRead signed prefix text
    → OnWays (Next signed text) (sign_ways prefix)
on-sign signed prefix text h =
    on-if (Next signed text) _ (is_open prefix.sign) (λ e. (
      (
        whole signed (with_sign prefix) _
            (add-sign signed prefix text (codes "负") e (has-contains below_signs (codes "负") refl) h),
        (
          whole signed (with_sign prefix) _
              (add-sign signed prefix text (codes "負") e (has-contains below_signs (codes "負") refl) h),
          tt,
        ),
      ),
      (
        (starts signed (SignBracket Full) prefix text _ refl e h, tt),
        ((starts signed (SignBracket Half) prefix text _ refl e h, tt), tt),
      ),
    ))

on-fu : (signed : Bool) (width : Width) (prefix : Prefix) (text : List ℕ)
    → IsReading signed (SignBracket width) prefix text
    → OnWays (Next signed text) (fu_ways width prefix)
on-fu signed Full prefix text h = (
  (more signed (SignBracket Full) (SignFu Full Simple) prefix text _ refl (λ e. e) h, tt),
  ((more signed (SignBracket Full) (SignFu Full Traditional) prefix text _ refl (λ e. e) h, tt), tt),
)
on-fu signed Half prefix text h = (
  (more signed (SignBracket Half) (SignFu Half Simple) prefix text _ refl (λ e. e) h, tt),
  ((more signed (SignBracket Half) (SignFu Half Traditional) prefix text _ refl (λ e. e) h, tt), tt),
)

on-first : (signed : Bool) (prefix : Prefix) (text : List ℕ) → HasRead signed prefix text
    → OnWays (Next signed text) (first_ways prefix)
on-first signed prefix text h =
    on-both (Next signed text) (ways_if prefix.currency ((codes "人", at Ren prefix) ∷ [])) _
    (on-if (Next signed text) _ prefix.currency (λ e. (
      (starts signed Ren prefix text _ refl e h, tt),
      tt,
    )))
    (on-both (Next signed text) (ways_if prefix.circle ((codes "⊗ⓧ", with_circle prefix) ∷ [])) _
    (on-if (Next signed text) _ prefix.circle (λ e. (
      (
        whole signed (with_circle prefix) _
            (add-circle signed prefix text _ e (has-contains circles (codes "⊗") refl) h),
        (
          whole signed (with_circle prefix) _
              (add-circle signed prefix text _ e (has-contains circles (codes "ⓧ") refl) h),
          tt,
        ),
      ),
      tt,
    )))
    (on-sign signed prefix text h))

on-colon : (signed : Bool) (point : Point) (prefix : Prefix) (text : List ℕ)
    → list_all (λ word. has currencies (word ++ codes ":")) (words_at point) ≡ true
    → list_all (λ word. has currencies (word ++ codes "：")) (words_at point) ≡ true
    → prefix.currency ≡ true → IsReading signed point prefix text
    → OnWays (Next signed text) (colon_ways prefix)
on-colon signed point prefix text half full e h = (
  (
    whole signed (with_currency prefix) _ (ends-currency signed point prefix text _ half e h),
    (whole signed (with_currency prefix) _ (ends-currency signed point prefix text _ full e h), tt),
  ),
  tt,
)

on-currency : (signed : Bool) (prefix : Prefix) (text : List ℕ)
    → IsReading signed Currency prefix text → OnWays (Next signed text) (currency_ways prefix)
on-currency signed prefix text h =
    let over = over-currency signed Currency prefix text refl h.fits h in (
      (more signed Currency (Bracket Full) prefix text _ refl (λ e. e) h, tt),
      (
        (more signed Currency (Bracket Half) prefix text _ refl (λ e. e) h, tt),
        on-if (Next signed text) _ (is_open prefix.sign) (λ e. (
          (
            whole signed (with_sign (with_currency prefix)) _
                (add-sign signed (with_currency prefix) text (codes "负") e
                (has-contains below_signs (codes "负") refl) over),
            (
              whole signed (with_sign (with_currency prefix)) _
                  (add-sign signed (with_currency prefix) text (codes "負") e
                  (has-contains below_signs (codes "負") refl) over),
              tt,
            ),
          ),
          tt,
        )),
      ),
    )

on-turn : (signed : Bool) (width : Width) (prefix : Prefix) (text : List ℕ)
    → IsReading signed (Bracket width) prefix text
    → OnWays (Next signed text)
    (ways_if (is_open prefix.sign) (fu_ways width (with_currency prefix)))
on-turn signed width prefix text h =
    on-if (Next signed text) _ (is_open prefix.sign) (λ e. (
      (turns signed width Simple prefix text _ refl e h, tt),
      ((turns signed width Traditional prefix text _ refl e h, tt), tt),
    ))

-- what is known after each character that leads on from a point
on-point : (signed : Bool) (point : Point) (prefix : Prefix) (text : List ℕ)
    → IsReading signed point prefix text → OnWays (Next signed text) (ways_at point prefix)
on-point signed Between prefix text h =
    on-first signed prefix text (between-read signed prefix text h)
on-point signed (SignBracket width) prefix text h = on-fu signed width prefix text h
on-point signed (SignFu Full Simple) prefix text h =
    ((more signed (SignFu Full Simple) (SignShu Full) prefix text _ refl (λ e. e) h, tt), tt)
on-point signed (SignFu Half Simple) prefix text h =
    ((more signed (SignFu Half Simple) (SignShu Half) prefix text _ refl (λ e. e) h, tt), tt)
on-point signed (SignFu Full Traditional) prefix text h =
    ((more signed (SignFu Full Traditional) (SignShu Full) prefix text _ refl (λ e. e) h, tt), tt)
on-point signed (SignFu Half Traditional) prefix text h =
    ((more signed (SignFu Half Traditional) (SignShu Half) prefix text _ refl (λ e. e) h, tt), tt)
on-point signed (SignShu Full) prefix text h = (
  (whole signed (with_sign prefix) _ (ends-sign signed (SignShu Full) prefix text _ refl h.fits h), tt),
  tt,
)
on-point signed (SignShu Half) prefix text h = (
  (whole signed (with_sign prefix) _ (ends-sign signed (SignShu Half) prefix text _ refl h.fits h), tt),
  tt,
)
on-point signed Ren prefix text h = ((more signed Ren Min prefix text _ refl (λ e. e) h, tt), tt)
on-point signed Min prefix text h = (
  (
    more signed Min Currency prefix text _ refl (λ e. e) h,
    (more signed Min Currency prefix text _ refl (λ e. e) h, tt),
  ),
  tt,
)
on-point signed Currency prefix text h =
    on-both (Next signed text) (colon_ways prefix) (currency_ways prefix)
    (on-colon signed Currency prefix text refl refl h.fits h) (on-currency signed prefix text h)
on-point signed (Bracket Full) prefix text h = (
  (more signed (Bracket Full) (Da Full) prefix text _ refl (λ e. e) h, tt),
  on-turn signed Full prefix text h,
)
on-point signed (Bracket Half) prefix text h = (
  (more signed (Bracket Half) (Da Half) prefix text _ refl (λ e. e) h, tt),
  on-turn signed Half prefix text h,
)
on-point signed (Da Full) prefix text h = (
  (
    more signed (Da Full) (Xie Full) prefix text _ refl (λ e. e) h,
    (more signed (Da Full) (Xie Full) prefix text _ refl (λ e. e) h, tt),
  ),
  tt,
)
on-point signed (Da Half) prefix text h = (
  (
    more signed (Da Half) (Xie Half) prefix text _ refl (λ e. e) h,
    (more signed (Da Half) (Xie Half) prefix text _ refl (λ e. e) h, tt),
  ),
  tt,
)
on-point signed (Xie Full) prefix text h =
    ((more signed (Xie Full) Note prefix text _ refl (λ e. e) h, tt), tt)
on-point signed (Xie Half) prefix text h =
    ((more signed (Xie Half) Note prefix text _ refl (λ e. e) h, tt), tt)
on-point signed Note prefix text h =
    on-both (Next signed text) (colon_ways prefix) (sign_ways (with_currency prefix))
    (on-colon signed Note prefix text refl refl h.fits h)
    (on-sign signed (with_currency prefix) text
    (over-currency signed Note prefix text refl h.fits h))
on-point signed Amount prefix text h = tt

-- what is known of a prefix
abbrev pub Knows : Bool → Prefix → List ℕ → Type 0
Knows signed prefix text = IsReading signed prefix.point prefix text

pub knows-more : (signed : Bool) (prefix after : Prefix) (text : List ℕ) (c : ℕ)
    → Knows signed prefix text → next prefix c ≡ Some after
    → Knows signed after (text ++ c ∷ [])
knows-more signed prefix after text c h e =
    on-row (Next signed text) (ways_at prefix.point prefix) c after
    (on-point signed prefix.point prefix text h) e

-- where an amount may begin, all parts that were read are over
pub record IsDone (signed : Bool) (front : Front) (text : List ℕ) : Type 0 where
  pub circle_open : Bool
  pub currency_open : Bool
  pub read : IsRead signed circle_open front currency_open text

pub over-read : (signed : Bool) (prefix : Prefix) (text : List ℕ) → is_over prefix.point ≡ true
    → Knows signed prefix text → IsDone signed prefix.sign text
over-read signed prefix text e h = by prefix.point e h where
  done : (circle currency : Bool) → IsRead signed circle prefix.sign currency text
      → IsDone signed prefix.sign text
  done circle currency h = record { circle_open = circle; currency_open = currency; read = h }

  by : (point : Point) → is_over point ≡ true → IsReading signed point prefix text
      → IsDone signed prefix.sign text
  by Between e h =
      done prefix.circle prefix.currency (between-read signed prefix text h)
  by Amount e h = done prefix.circle prefix.currency
      (between-read signed prefix text
      (record { done = h.done; word = h.word; read = h.read; within = h.within; fits = tt; is = h.is }))
  by Currency e h = done false false (over-currency signed Currency prefix text refl h.fits h)
  by Note e h = done false false (over-currency signed Note prefix text refl h.fits h)
  by point e h = absurd (cc)
