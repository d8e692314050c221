-- Each prefix leads to a point where an amount may begin.
use Rattle.std.proofs.Common.{◌≡◌, ℕ, Bool, true, false, ◌&&◌, List, [], ◌++◌, Option, Some, None, codes, refl, sym, ap, subst, ◌∙◌, append_assoc}
use Rattle.std.specs.List.{AllByRecursion, Contains, list_all}
use Rattle.std.proofs.lemmas.List.Elements.{All-contains, All-from_recursion}
use Rattle.std.proofs.lemmas.List.Sums.{AllPass-from_list_all}
use Rattle.cn_core.proofs.Fronts.{and-left, and-right}
use Rattle.cn_core.specs.declared.script.ChineseVariant.TheVariants.{Traditional, Simple}
use Rattle.cn_amount.specs.declared.prefix.Width.TheVariants.{Full, Half}
use Rattle.cn_grammar.specs.Machine.{run}
use Rattle.cn_grammar.proofs.Runs.{run-append}
use Rattle.cn_amount.specs.declared.prefix.Point.{Point}
use Rattle.cn_amount.specs.declared.prefix.Point.TheVariants.{Between, SignBracket, SignFu, SignShu, Ren, Min, Currency, Bracket, Da, Xie, Note, Amount}
use Rattle.cn_amount.specs.declared.prefix.Prefix.{Prefix}
use Rattle.cn_grammar.specs.declared.sign.Front.{Front}
use Rattle.cn_grammar.specs.declared.sign.Front.TheVariants.{Open, Plain, Minus}
use Rattle.cn_amount.specs.Typed.{circles, below_signs, signs, currencies, orders}
use Rattle.cn_grammar.specs.Sign.{is_below}
use Rattle.cn_amount.specs.Working.Typing.{at, next, first, is_over}
use Rattle.cn_amount.proofs.Prefixes.{by-order, no-sign}

-- the text leads from one prefix to another
abbrev Runs : Prefix → List ℕ → Prefix → Type 0
Runs prefix text after = run next prefix text ≡ Some after

both-run : (prefix between after : Prefix) (text more : List ℕ) → Runs prefix text between
    → Runs between more after → Runs prefix (text ++ more) after
both-run prefix between after text more e f = run-append next prefix text more between e ∙ f

abbrev prefix_of : Bool → Front → Bool → Point → Prefix
prefix_of circle sign currency point =
    record { circle = circle; sign = sign; currency = currency; point = point }

abbrev CircleRuns : Front → Bool → List ℕ → Type 0
CircleRuns sign currency word = (circle : Bool)
    × Runs (prefix_of true sign currency Between) word (prefix_of circle sign currency Between)

circle-runs : (sign : Front) (currency : Bool) (word : List ℕ) → Contains circles word
    → CircleRuns sign currency word
circle-runs sign true word h = All-contains (CircleRuns sign true) circles word
    (All-from_recursion (CircleRuns sign true) circles
    ((true, refl), ((false, refl), ((false, refl), tt)))) h
circle-runs sign false word h = All-contains (CircleRuns sign false) circles word
    (All-from_recursion (CircleRuns sign false) circles
    ((true, refl), ((false, refl), ((false, refl), tt)))) h

-- a sign first, or after a circle
abbrev SignRuns : Bool → Bool → List ℕ → Type 0
SignRuns circle currency word =
    Runs (prefix_of circle Open currency Between) word (prefix_of circle Minus currency Between)

signs-run : (circle currency : Bool) → AllByRecursion (SignRuns circle currency) below_signs
signs-run true true = (refl, (refl, (refl, (refl, (refl, (refl, tt))))))
signs-run true false = (refl, (refl, (refl, (refl, (refl, (refl, tt))))))
signs-run false true = (refl, (refl, (refl, (refl, (refl, (refl, tt))))))
signs-run false false = (refl, (refl, (refl, (refl, (refl, (refl, tt))))))

sign-runs : (circle currency : Bool) (word : List ℕ) → Contains below_signs word
    → SignRuns circle currency word
sign-runs circle currency word h = All-contains (SignRuns circle currency) below_signs word
    (All-from_recursion (SignRuns circle currency) below_signs (signs-run circle currency)) h

-- a sign directly after 人民币 or its note
abbrev FollowRuns : Point → Bool → Bool → List ℕ → Type 0
FollowRuns point circle currency word =
    Runs (prefix_of circle Open currency point) word (prefix_of false Minus false Between)

follow-currency : (circle currency : Bool) (word : List ℕ) → Contains below_signs word
    → FollowRuns Currency circle currency word
follow-currency circle currency word h =
    All-contains (FollowRuns Currency circle currency) below_signs word
    (All-from_recursion (FollowRuns Currency circle currency) below_signs
    (refl, (refl, (refl, (refl, (refl, (refl, tt))))))) h

follow-note : (circle currency : Bool) (word : List ℕ) → Contains below_signs word
    → FollowRuns Note circle currency word
follow-note circle currency word h =
    All-contains (FollowRuns Note circle currency) below_signs word
    (All-from_recursion (FollowRuns Note circle currency) below_signs
    (refl, (refl, (refl, (refl, (refl, (refl, tt))))))) h

-- a part or an amount may follow
abbrev is_before : Point → Bool
is_before Between = true
is_before Currency = true
is_before Note = true
is_before point = false

before-over : (point : Point) → is_before point ≡ true → is_over point ≡ true
before-over Between e = refl
before-over Currency e = refl
before-over Note e = refl
before-over point e = absurd (cc)

abbrev same_front : Front → Front → Bool
same_front Open Open = true
same_front Plain Plain = true
same_front Minus Minus = true
same_front sign other = false

same-fronts : (sign other : Front) → same_front sign other ≡ true → sign ≡ other
same-fronts Open Open e = refl
same-fronts Plain Plain e = refl
same-fronts Minus Minus e = refl
same-fronts sign other e = absurd (cc)

-- 人民币 leads to such a point, and changes no sign
abbrev leads_on : Front → Option Prefix → Bool
leads_on sign None = false
leads_on sign (Some after) = is_before after.point && same_front sign after.sign

currencies-lead : (circle : Bool) (sign : Front)
    → list_all (λ word. leads_on sign (run next (prefix_of circle sign true Between) word))
    currencies ≡ true
currencies-lead circle Open = refl
currencies-lead circle Plain = refl
currencies-lead circle Minus = refl

pub record CurrencyRuns (circle : Bool) (sign : Front) (word : List ℕ) : Type 0 where
  pub after : Prefix
  pub runs : Runs (prefix_of circle sign true Between) word after
  pub before : is_before after.point ≡ true
  pub same : sign ≡ after.sign

currency-runs : (circle : Bool) (sign : Front) (word : List ℕ) → Contains currencies word
    → CurrencyRuns circle sign word
currency-runs circle sign word h =
    by (run next (prefix_of circle sign true Between) word) refl
    (All-contains (λ word. leads_on sign (run next (prefix_of circle sign true Between) word) ≡ true)
    currencies word (AllPass-from_list_all
    (λ word. leads_on sign (run next (prefix_of circle sign true Between) word)) currencies
    (currencies-lead circle sign)) h) where
      by : (o : Option Prefix) → run next (prefix_of circle sign true Between) word ≡ o
          → leads_on sign o ≡ true → CurrencyRuns circle sign word
      by None e h = absurd (cc)
      by (Some after) e h = record {
        after = after;
        runs = e;
        before = and-left (is_before after.point) _ h;
        same = same-fronts sign after.sign (and-right (is_before after.point) _ h);
      }

-- whether a sign may come at all, and the start of a prefix
abbrev pub front_of : Bool → Front
front_of true = Open
front_of false = Plain

-- a sign is read only if one may come
abbrev pub IsAllowed : Bool → Bool → Type 0
IsAllowed signed below = below ≡ true → signed ≡ true

pub below-front : (signed : Bool) → is_below (front_of signed) ≡ false
below-front true = refl
below-front false = refl

-- after a sign, or none, where a part may begin
pub record SignMoves (signed below circle currency : Bool) (word : List ℕ) : Type 0 where
  pub sign : Front
  pub runs : Runs (prefix_of circle (front_of signed) currency Between) word
      (prefix_of circle sign currency Between)
  pub same : is_below sign ≡ below

sign-moves : (signed below : Bool) → IsAllowed signed below → (circle currency : Bool)
    (word : List ℕ) → Contains (signs below) word → SignMoves signed below circle currency word
sign-moves signed false allowed circle currency word h = record {
  sign = front_of signed;
  runs = ap (run next (prefix_of circle (front_of signed) currency Between)) (no-sign word h);
  same = below-front signed;
}
sign-moves true true allowed circle currency word h =
    record { sign = Minus; runs = sign-runs circle currency word h; same = refl }
sign-moves false true allowed circle currency word h = let e = allowed refl in absurd (cc)

-- after a prefix
pub record PrefixRuns (prefix : Prefix) (below : Bool) (word : List ℕ) : Type 0 where
  pub after : Prefix
  pub runs : Runs prefix word after
  pub over : is_over after.point ≡ true
  pub same : is_below after.sign ≡ below

-- after a sign that follows 人民币, or none
sign-follows : (signed below : Bool) → IsAllowed signed below → (prefix : Prefix) (word : List ℕ)
    → is_before prefix.point ≡ true → front_of signed ≡ prefix.sign
    → Contains (signs below) word → PrefixRuns prefix below word
sign-follows signed false allowed prefix word before e h = record {
  after = prefix;
  runs = ap (run next prefix) (no-sign word h);
  over = before-over prefix.point before;
  same = ap is_below (sym e) ∙ below-front signed;
}
sign-follows false true allowed prefix word before e h = let e = allowed refl in absurd (cc)
sign-follows true true allowed prefix word before e h = by prefix.sign prefix.point e before where
  by : (sign : Front) (point : Point) → Open ≡ sign → is_before point ≡ true
      → PrefixRuns (prefix_of prefix.circle sign prefix.currency point) true word
  by Open Between e before = record {
    after = prefix_of prefix.circle Minus prefix.currency Between;
    runs = sign-runs prefix.circle prefix.currency word h;
    over = refl;
    same = refl;
  }
  by Open Currency e before = record {
    after = prefix_of false Minus false Between;
    runs = follow-currency prefix.circle prefix.currency word h;
    over = refl;
    same = refl;
  }
  by Open Note e before = record {
    after = prefix_of false Minus false Between;
    runs = follow-note prefix.circle prefix.currency word h;
    over = refl;
    same = refl;
  }
  by sign point e before = absurd (cc)

-- after the parts in each order
abbrev Ordered : Bool → Bool → List ℕ → Type 0
Ordered signed below text = PrefixRuns (first (front_of signed)) below text

pub prefix-runs : (signed below : Bool) → IsAllowed signed below
    → (circle sign currency text : List ℕ) → Contains circles circle
    → Contains (signs below) sign → Contains currencies currency
    → Contains (orders circle sign currency) text → Ordered signed below text
prefix-runs signed below allowed circle sign currency text c s r order =
    by-order (Ordered signed below) circle sign currency text first-order second-order third-order
    order where
      front : Front
      front = front_of signed

      start : Prefix
      start = first front

      -- after 人民币 at the end
      ends : (circle_open : Bool) (sign : Front) (read : List ℕ) → is_below sign ≡ below
          → Runs start read (prefix_of circle_open sign true Between)
          → Ordered signed below (read ++ currency)
      ends circle_open sign read same runs =
          let last = currency-runs circle_open sign currency r in
          record {
            after = last.after;
            runs = both-run start (prefix_of circle_open sign true Between) last.after read currency runs
                last.runs;
            over = before-over last.after.point last.before;
            same = ap is_below (sym last.same) ∙ same;
          }

      first-order : Ordered signed below (circle ++ (sign ++ currency))
      first-order =
          let one = circle-runs front true circle c in
          let two = sign-moves signed below allowed one.0 true sign s in
          subst (Ordered signed below) (append_assoc circle sign currency)
          (ends one.0 two.sign (circle ++ sign) two.same
          (both-run start (prefix_of one.0 front true Between)
          (prefix_of one.0 two.sign true Between) circle sign one.1 two.runs))

      second-order : Ordered signed below (sign ++ (circle ++ currency))
      second-order =
          let one = sign-moves signed below allowed true true sign s in
          let two = circle-runs one.sign true circle c in
          subst (Ordered signed below) (append_assoc sign circle currency)
          (ends two.0 one.sign (sign ++ circle) one.same
          (both-run start (prefix_of true one.sign true Between)
          (prefix_of two.0 one.sign true Between) sign circle one.runs two.1))

      third-order : Ordered signed below (circle ++ (currency ++ sign))
      third-order =
          let one = circle-runs front true circle c in
          let two = currency-runs one.0 front currency r in
          let three = sign-follows signed below allowed two.after sign two.before two.same s in
          record {
            after = three.after;
            runs = both-run start (prefix_of one.0 front true Between) three.after circle
                (currency ++ sign) one.1
                (both-run (prefix_of one.0 front true Between) two.after three.after currency sign
                two.runs three.runs);
            over = three.over;
            same = three.same;
          }

-- each prefix that the reader has reached can be completed
abbrev completion : Point → List ℕ
completion Between = []
completion Amount = []
completion Currency = []
completion Note = []
completion (SignBracket Full) = codes "负数）"
completion (SignBracket Half) = codes "负数)"
completion (SignFu Full Simple) = codes "数）"
completion (SignFu Full Traditional) = codes "數）"
completion (SignFu Half Simple) = codes "数)"
completion (SignFu Half Traditional) = codes "數)"
completion (SignShu Full) = codes "）"
completion (SignShu Half) = codes ")"
completion Ren = codes "民币"
completion Min = codes "币"
completion (Bracket Full) = codes "大写）"
completion (Bracket Half) = codes "大写)"
completion (Da Full) = codes "写）"
completion (Da Half) = codes "写)"
completion (Xie Full) = codes "）"
completion (Xie Half) = codes ")"

pub record IsCompleted (prefix : Prefix) : Type 0 where
  pub behind : List ℕ
  pub after : Prefix
  pub runs : Runs prefix behind after
  pub over : is_over after.point ≡ true

pub completed : (prefix : Prefix) → IsCompleted prefix
completed prefix = by prefix.point where
  ends : (point : Point) (after : Prefix)
      → Runs (at point prefix) (completion point) after → is_over after.point ≡ true
      → IsCompleted (at point prefix)
  ends point after runs over =
      record { behind = completion point; after = after; runs = runs; over = over }

  by : (point : Point) → IsCompleted (at point prefix)
  by Between = ends Between _ refl refl
  by Amount = ends Amount _ refl refl
  by Currency = ends Currency _ refl refl
  by Note = ends Note _ refl refl
  by (SignBracket Full) = ends (SignBracket Full) _ refl refl
  by (SignBracket Half) = ends (SignBracket Half) _ refl refl
  by (SignFu Full Simple) = ends (SignFu Full Simple) _ refl refl
  by (SignFu Full Traditional) = ends (SignFu Full Traditional) _ refl refl
  by (SignFu Half Simple) = ends (SignFu Half Simple) _ refl refl
  by (SignFu Half Traditional) = ends (SignFu Half Traditional) _ refl refl
  by (SignShu Full) = ends (SignShu Full) _ refl refl
  by (SignShu Half) = ends (SignShu Half) _ refl refl
  by Ren = ends Ren _ refl refl
  by Min = ends Min _ refl refl
  by (Bracket Full) = ends (Bracket Full) _ refl refl
  by (Bracket Half) = ends (Bracket Half) _ refl refl
  by (Da Full) = ends (Da Full) _ refl refl
  by (Da Half) = ends (Da Half) _ refl refl
  by (Xie Full) = ends (Xie Full) _ refl refl
  by (Xie Half) = ends (Xie Half) _ refl refl
