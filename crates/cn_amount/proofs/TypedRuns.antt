-- The states of a typed text read each prefix and the amount after it.
use Rattle.std.proofs.Common.{◌≡◌, ℕ, Bool, true, false, not, ◌||◌, List, [], ◌∷◌, ◌++◌, Option, Some, None, codes, refl, sym, ap, ◌∙◌, if◌then◌else◌}
use Rattle.std.specs.Char.{char_set_contains}
use Rattle.std.specs.Option.{option_map}
use Rattle.cn_grammar.specs.Machine as machine
use Rattle.cn_grammar.specs.Machine.{run, Leads, Reached, Reads}
use Rattle.cn_grammar.specs.Sieve.{after}
use Rattle.cn_grammar.proofs.Runs.{some-is, run-ran, run-append}
use Rattle.cn_amount.specs.declared.capital.Capital.{Capital}
use Rattle.cn_amount.specs.declared.capital.Capital.TheVariants.{Ling, Digit}
use Rattle.cn_amount.specs.declared.prefix.Point.{Point}
use Rattle.cn_amount.specs.declared.prefix.Point.TheVariants.{Between, SignBracket, SignFu, SignShu, Ren, Min, Currency, Bracket, Da, Xie, Note, Amount}
use Rattle.cn_amount.specs.declared.prefix.Prefix.{Prefix}
use Rattle.cn_amount.specs.declared.prefix.Width.TheVariants.{Full, Half}
use Rattle.cn_amount.specs.declared.progress.Progress.{Progress}
use Rattle.cn_amount.specs.declared.typed.Typing.{Typing}
use Rattle.cn_core.specs.declared.script.ChineseVariant.TheVariants.{Traditional, Simple}
use Rattle.cn_amount.specs.Reading.{capital_of, capital_rows}
use Rattle.cn_amount.specs.Typed.{IsPrefixed}
use Rattle.cn_grammar.specs.Sign.{is_below}
use Rattle.cn_amount.specs.Working.Steps as steps
use Rattle.cn_amount.specs.Working.Steps.{bare_progress, amount_machine}
use Rattle.cn_amount.specs.Working.Typing.{at, ways_if, sign_ways, is_open, first, ways_at, next, is_over, both, begin, amount_step, step, end, signed}
use Rattle.cn_amount.proofs.Prefixes.{OnWays, on-row, rows-pass, on-if, on-both}
use Rattle.cn_amount.proofs.PrefixRuns.{front_of, IsAllowed, prefix-runs}
use Rattle.cn_amount.proofs.ReadText.{amount_reads}

-- the machine that reads a text without white space
abbrev pub core : Bool → machine.Machine Typing (Bool × ℕ)
core signed = record { begin = begin (front_of signed); step = step; end = end }

-- what it reads: whether there is a sign, and the magnitude
abbrev pub IsCore : Bool → List ℕ → Bool × ℕ → Type 0
IsCore signed text value = IsPrefixed text value.0 value.1 × IsAllowed signed value.0

-- an amount after 人民币
pub bare-leads : (text : List ℕ)
    → run amount_machine.step amount_machine.begin (codes "人民币" ++ text)
    ≡ run amount_machine.step bare_progress text
unfolding capital_of
bare-leads text =
    run-append amount_machine.step amount_machine.begin (codes "人民币") text bare_progress refl

-- a character of a prefix
abbrev pub is_mark : ℕ → Bool
is_mark c = char_set_contains (codes "⊗ⓧ负負（）()数數大写寫人民币幣:：") c

abbrev pub Marked : Prefix → ℕ → Type 0
Marked after c = is_mark c ≡ true

sign-marked : (prefix : Prefix) → OnWays Marked (sign_ways prefix)
sign-marked prefix = on-if Marked _ (is_open prefix.sign)
    (λ e. ((refl, (refl, tt)), ((refl, tt), ((refl, tt), tt))))

pub point-marked : (point : Point) (prefix : Prefix) → OnWays Marked (ways_at point prefix)
point-marked Between prefix =
    on-both Marked (ways_if prefix.currency _) _ (on-if Marked _ prefix.currency (λ e. ((refl, tt), tt)))
    (on-both Marked (ways_if prefix.circle _) _ (on-if Marked _ prefix.circle (λ e. ((refl, (refl, tt)), tt)))
    (sign-marked prefix))
point-marked (SignBracket width) prefix = ((refl, tt), ((refl, tt), tt))
point-marked (SignFu width Simple) prefix = ((refl, tt), tt)
point-marked (SignFu width Traditional) prefix = ((refl, tt), tt)
point-marked (SignShu Full) prefix = ((refl, tt), tt)
point-marked (SignShu Half) prefix = ((refl, tt), tt)
point-marked Ren prefix = ((refl, tt), tt)
point-marked Min prefix = ((refl, (refl, tt)), tt)
point-marked Currency prefix = (
  (refl, (refl, tt)),
  ((refl, tt), ((refl, tt), on-if Marked _ (is_open prefix.sign) (λ e. ((refl, (refl, tt)), tt)))),
)
point-marked (Bracket width) prefix =
    ((refl, tt), on-if Marked _ (is_open prefix.sign) (λ e. ((refl, tt), ((refl, tt), tt))))
point-marked (Da width) prefix = ((refl, (refl, tt)), tt)
point-marked (Xie Full) prefix = ((refl, tt), tt)
point-marked (Xie Half) prefix = ((refl, tt), tt)
point-marked Note prefix = (
  (refl, (refl, tt)),
  on-if Marked _ (is_open prefix.sign)
      (λ e. ((refl, (refl, tt)), ((refl, tt), ((refl, tt), tt)))),
)
point-marked Amount prefix = tt

pub unmarked : (prefix : Prefix) (c : ℕ) → is_mark c ≡ false → next prefix c ≡ None
unmarked prefix c e = by (next prefix c) refl where
  by : (o : Option Prefix) → next prefix c ≡ o → next prefix c ≡ None
  by None is = is
  by (Some after) is =
      let marked : is_mark c ≡ true =
      on-row Marked (ways_at prefix.point prefix) c after (point-marked prefix.point prefix) is in
      absurd (cc)

-- the first character of an amount after 人民币 is none of a prefix
abbrev begins_amount : Capital → Bool
begins_amount Ling = true
begins_amount (Digit value) = true
begins_amount capital = false

abbrev is_unmarked : Capital → ℕ → Bool
is_unmarked capital c = not (begins_amount capital) || not (is_mark c)

abbrev Unmarked : Capital → ℕ → Type 0
Unmarked capital c = is_unmarked capital c ≡ true

capital-unmarked : (c : ℕ) (capital : Capital) → capital_of c ≡ Some capital
    → is_unmarked capital c ≡ true
unfolding capital_of
capital-unmarked c capital e =
    on-row Unmarked capital_rows c capital (rows-pass is_unmarked capital_rows refl) e

first-unmarked : (c : ℕ) (progress : Progress)
    → amount_machine.step bare_progress c ≡ Some progress → is_mark c ≡ false
first-unmarked c progress e = by (capital_of c) refl e where
  unmark : (b : Bool) → not b ≡ true → b ≡ false
  unmark true e = absurd (cc)
  unmark false e = refl

  by : (o : Option Capital) → capital_of c ≡ o
      → machine.step_as steps.advance bare_progress o ≡ Some progress → is_mark c ≡ false
  by None is e = absurd (cc)
  by (Some Ling) is e = unmark (is_mark c) (capital-unmarked c Ling is)
  by (Some (Digit value)) is e = unmark (is_mark c) (capital-unmarked c (Digit value) is)
  by (Some capital) is e = absurd (cc)

-- a prefix is read before the amount
abbrev stepped : Typing → ℕ → Option Prefix → Option Typing
stepped typing c o = elim o [
  | None ↦ amount_step typing c
  | Some prefix ↦ Some (both prefix typing.progress)
]

prefix-read : (word : List ℕ) (prefix after : Prefix) (progress : Progress)
    → run next prefix word ≡ Some after
    → run step (both prefix progress) word ≡ Some (both after progress)
prefix-read [] prefix after progress e =
    ap (λ prefix. Some (both prefix progress)) (some-is prefix after e)
prefix-read (c ∷ word) prefix after progress e =
    by (next prefix c) refl (λ between h. prefix-read word between after progress h) where
      by : (o : Option Prefix) → next prefix c ≡ o
          → ((between : Prefix) → run next between word ≡ Some after
          → run step (both between progress) word ≡ Some (both after progress))
          → run step (both prefix progress) (c ∷ word) ≡ Some (both after progress)
      by None is ih = let none = run-ran next prefix c word None is in absurd (cc)
      by (Some between) is ih =
          run-ran step (both prefix progress) c word (Some (both between progress))
          (ap (stepped (both prefix progress) c) is)
          ∙ ih between (sym (run-ran next prefix c word (Some between) is) ∙ e)

-- and then the amount
rest-read : (text : List ℕ) (prefix : Prefix) (progress last : Progress)
    → run amount_machine.step progress text ≡ Some last
    → run step (both (at Amount prefix) progress) text ≡ Some (both (at Amount prefix) last)
rest-read [] prefix progress last e =
    ap (λ progress. Some (both (at Amount prefix) progress)) (some-is progress last e)
rest-read (c ∷ text) prefix progress last e =
    by (amount_machine.step progress c) refl (λ next h. rest-read text prefix next last h) where
      here : Typing
      here = both (at Amount prefix) progress

      by : (o : Option Progress) → amount_machine.step progress c ≡ o
          → ((next : Progress) → run amount_machine.step next text ≡ Some last
          → run step (both (at Amount prefix) next) text ≡ Some (both (at Amount prefix) last))
          → run step here (c ∷ text) ≡ Some (both (at Amount prefix) last)
      by None is ih =
          let none = run-ran amount_machine.step progress c text None is in absurd (cc)
      by (Some next) is ih =
          run-ran step here c text (Some (both (at Amount prefix) next))
          (ap (option_map (both (at Amount prefix))) is)
          ∙ ih next (sym (run-ran amount_machine.step progress c text (Some next) is) ∙ e)

abbrev may : Prefix → Bool → Option Progress → Option Typing
may prefix b o = if b then option_map (both (at Amount prefix)) o else None

amount-read : (text : List ℕ) (prefix : Prefix) (last : Progress) (fen : ℕ)
    → is_over prefix.point ≡ true → run amount_machine.step bare_progress text ≡ Some last
    → amount_machine.end last ≡ Some fen
    → run step (both prefix bare_progress) text ≡ Some (both (at Amount prefix) last)
amount-read [] prefix last fen over e ends =
    let same = some-is bare_progress last e in
    let none : amount_machine.end last ≡ None = ap amount_machine.end (sym same) in absurd (cc)
amount-read (c ∷ text) prefix last fen over e ends =
    by (amount_machine.step bare_progress c) refl where
      here : Typing
      here = both prefix bare_progress

      by : (o : Option Progress) → amount_machine.step bare_progress c ≡ o
          → run step here (c ∷ text) ≡ Some (both (at Amount prefix) last)
      by None is =
          let none = run-ran amount_machine.step bare_progress c text None is in absurd (cc)
      by (Some between) is =
          run-ran step here c text (Some (both (at Amount prefix) between))
          (ap (stepped here c) (unmarked prefix c (first-unmarked c between is))
          ∙ ap (λ b. may prefix b (amount_machine.step bare_progress c)) over ∙ ap (may prefix true) is)
          ∙ rest-read text prefix between last
          (sym (run-ran amount_machine.step bare_progress c text (Some between) is) ∙ e)

pub core-each : (signed : Bool) (text : List ℕ) (value : Bool × ℕ) → IsCore signed text value
    → (typing : Typing) × Leads (core signed) text typing × (end typing ≡ Some value)
core-each signed text value h =
    let form = h.0 in
    let prefix = prefix-runs signed value.0 h.1 form.circle form.sign form.currency form.prefix
    form.is_circle form.is_sign form.is_currency form.order in
    let whole = amount_reads.each (codes "人民币" ++ form.amount) value.1 form.form in
    let last = amount-read form.amount prefix.after whole.0 value.1 prefix.over
    (sym (bare-leads form.amount) ∙ whole.1) whole.2 in (
      both (at Amount prefix.after) whole.0,
      ap (run step (begin (front_of signed))) form.parts
          ∙ run-append step (begin (front_of signed)) form.prefix form.amount
          (both prefix.after bare_progress)
          (prefix-read form.prefix (first (front_of signed)) prefix.after bare_progress prefix.runs)
          ∙ last,
      ap (option_map (λ fen. (is_below prefix.after.sign, fen))) whole.2
          ∙ ap (λ below. Some (below, value.1)) prefix.same,
    )
