-- The states of a typed text read the amounts as people type them, with a sign or without one.
use Rattle.std.proofs.Common.{◌≡◌, ℕ, ℤ, Bool, true, false, not, List, [], ◌∷◌, ◌++◌, Option, Some, None, codes, refl, sym, ap, subst, ◌∙◌, if◌then◌else◌, append-nil, append_assoc, arith}
use Rattle.std.specs.Char.{is_whitespace, is_not_whitespace}
use Rattle.std.specs.List.{Contains, list_all}
use Rattle.std.specs.Option.{option_map}
use Rattle.std.proofs.lemmas.List.Elements.{All-contains}
use Rattle.std.proofs.lemmas.List.Folds.{list_all-append}
use Rattle.std.proofs.lemmas.List.Sums.{AllPass-from_list_all}
use Rattle.cn_grammar.specs.Answers.{Begins}
use Rattle.cn_grammar.specs.Machine.{run, Leads, Reached, Reads}
use Rattle.cn_grammar.specs.Sieve.{kept, after}
use Rattle.cn_grammar.proofs.Runs as runs
use Rattle.cn_grammar.proofs.Runs.{some-is, run-more}
use Rattle.cn_grammar.proofs.Sieves.{IsSifted, IsKeptForm, CanFollow, sifted-leads, sifted-reads, reads-same}
use Rattle.cn_core.proofs.Fronts.{and-left, and-right, both as both-true}
use Rattle.cn_core.specs.Whole.{signed_number}
use Rattle.cn_amount.specs.declared.prefix.Point.{Point}
use Rattle.cn_amount.specs.declared.prefix.Point.TheVariants.{Amount}
use Rattle.cn_amount.specs.declared.prefix.Prefix.{Prefix}
use Rattle.cn_amount.specs.declared.progress.Progress.{Progress}
use Rattle.cn_grammar.specs.declared.sign.Front.{Front}
use Rattle.cn_amount.specs.declared.typed.TypedProgress.{TypedProgress}
use Rattle.cn_amount.specs.declared.typed.TypedSignedProgress.{TypedSignedProgress}
use Rattle.cn_amount.specs.declared.typed.Typing.{Typing}
use Rattle.cn_amount.specs.Reading.{capital_of, IsAmount}
use Rattle.cn_amount.specs.Typed.{circles, signs, currencies, IsPrefixed, visible, IsTypedAmount, IsTypedSignedAmount}
use Rattle.cn_grammar.specs.Sign.{is_below}
use Rattle.cn_amount.specs.Working.Signs.{signed_value}
use Rattle.cn_amount.specs.Working.Steps.{bare_progress, amount_machine}
use Rattle.cn_amount.specs.Working.Typing.{at, first, next, is_over, both, begin, amount_step, step, end, visible_sieve, typed, typed_machine, signed, typed_signed_machine}
use Rattle.cn_amount.proofs.AmountCharacters.{amount-passes}
use Rattle.cn_amount.proofs.Prefixes.{by-order, HasRead, Knows, knows-more, IsDone, over-read, whole}
use Rattle.cn_amount.proofs.PrefixRuns.{front_of, IsAllowed, completed}
use Rattle.cn_amount.proofs.ReadText.{amount_reads}
use Rattle.cn_amount.proofs.TypedRuns.{core, IsCore, bare-leads, core-each}

abbrev is_amount : Point → Bool
is_amount Amount = true
is_amount point = false

amount-over : (point : Point) → is_amount point ≡ true → is_over point ≡ true
amount-over Amount e = refl
amount-over point e = absurd (cc)

-- what is known of a text that was read
record IsSoFar (signed : Bool) (typing : Typing) (text : List ℕ) : Type 0 where
  front : List ℕ
  rest : List ℕ
  is : text ≡ front ++ rest
  leads : run amount_machine.step bare_progress rest ≡ Some typing.progress
  knows : is_amount typing.prefix.point ≡ false → Knows signed typing.prefix front
  alone : is_amount typing.prefix.point ≡ false → rest ≡ []
  done : is_amount typing.prefix.point ≡ true → IsDone signed typing.prefix.sign front

-- a character leads on only before the amount
before-amount : (prefix after : Prefix) (c : ℕ) → next prefix c ≡ Some after
    → is_amount prefix.point ≡ false
before-amount prefix after c e = by prefix.point e where
  by : (point : Point) → next (at point prefix) c ≡ Some after → is_amount point ≡ false
  by Amount e = absurd (cc)
  by point e = refl

is-done : (signed : Bool) (typing : Typing) (text : List ℕ) (h : IsSoFar signed typing text)
    → is_over typing.prefix.point ≡ true → IsDone signed typing.prefix.sign h.front
is-done signed typing text h over = by (is_amount typing.prefix.point) refl where
  by : (b : Bool) → is_amount typing.prefix.point ≡ b
      → IsDone signed typing.prefix.sign h.front
  by true e = h.done e
  by false e = over-read signed typing.prefix h.front over (h.knows e)

amount-more : (signed : Bool) (typing after : Typing) (text : List ℕ) (c : ℕ)
    → IsSoFar signed typing text → amount_step typing c ≡ Some after
    → IsSoFar signed after (text ++ c ∷ [])
amount-more signed typing after text c h e =
    by (is_over typing.prefix.point) refl (amount_machine.step typing.progress c) refl e where
      by : (b : Bool) → is_over typing.prefix.point ≡ b → (o : Option Progress)
          → amount_machine.step typing.progress c ≡ o
          → (if b then option_map (both (at Amount typing.prefix)) o else None) ≡ Some after
          → IsSoFar signed after (text ++ c ∷ [])
      by false over o is e = absurd (cc)
      by true over None is e = absurd (cc)
      by true over (Some progress) is e =
          let same = some-is (both (at Amount typing.prefix) progress) after e in
          subst (λ after. IsSoFar signed after (text ++ c ∷ [])) same (record {
            front = h.front;
            rest = h.rest ++ c ∷ [];
            is = ap (λ text. text ++ c ∷ []) h.is ∙ append_assoc h.front h.rest (c ∷ []);
            leads = run-more amount_machine.step bare_progress h.rest c typing.progress h.leads ∙ is;
            knows = λ e. absurd (cc);
            alone = λ e. absurd (cc);
            done = λ e. is-done signed typing text h over;
          })

so-far-more : (signed : Bool) (typing after : Typing) (text : List ℕ) (c : ℕ)
    → IsSoFar signed typing text → step typing c ≡ Some after
    → IsSoFar signed after (text ++ c ∷ [])
so-far-more signed typing after text c h e = by (next typing.prefix c) refl e where
  by : (o : Option Prefix) → next typing.prefix c ≡ o
      → elim o [
        | None ↦ amount_step typing c
        | Some prefix ↦ Some (both prefix typing.progress)
      ] ≡ Some after
      → IsSoFar signed after (text ++ c ∷ [])
  by None is e = amount-more signed typing after text c h e
  by (Some prefix) is e =
      let same = some-is (both prefix typing.progress) after e in
      let before = before-amount typing.prefix prefix c is in
      let none = h.alone before in
      let knows = knows-more signed typing.prefix prefix h.front c (h.knows before) is in
      subst (λ after. IsSoFar signed after (text ++ c ∷ [])) same (record {
        front = h.front ++ c ∷ [];
        rest = [];
        is = ap (λ text. text ++ c ∷ [])
            (h.is ∙ ap (λ rest. h.front ++ rest) none ∙ append-nil h.front)
            ∙ sym (append-nil (h.front ++ c ∷ []));
        leads = ap (run amount_machine.step bare_progress) (sym none) ∙ h.leads;
        knows = λ e. knows;
        alone = λ e. refl;
        done = λ e.
            over-read signed prefix (h.front ++ c ∷ []) (amount-over prefix.point e) knows;
      })

none-read : (signed : Bool) → HasRead signed (first (front_of signed)) []
none-read true = record {
  circle = [];
  sign = [];
  currency = [];
  is_circle = (0, omega arith, refl);
  is_sign = (0, omega arith, refl);
  is_currency = (0, omega arith, refl);
  order = (0, omega arith, refl);
  no_circle = λ e. (refl, refl);
  no_currency = λ e. refl;
  is_signed = λ e. refl;
  is_below_signed = λ e. refl;
}
none-read false = record {
  circle = [];
  sign = [];
  currency = [];
  is_circle = (0, omega arith, refl);
  is_sign = (0, omega arith, refl);
  is_currency = (0, omega arith, refl);
  order = (0, omega arith, refl);
  no_circle = λ e. (refl, refl);
  no_currency = λ e. refl;
  is_signed = λ e. absurd (cc);
  is_below_signed = λ e. absurd (cc);
}

is-so-far : (signed : Bool) (text : List ℕ) (typing : Typing) → Leads (core signed) text typing
    → IsSoFar signed typing text
is-so-far signed text typing e =
    runs.kept step (λ (typing : Typing) text. IsSoFar signed typing text)
    (so-far-more signed) [] text (begin (front_of signed)) typing
    (record {
      front = [];
      rest = [];
      is = refl;
      leads = refl;
      knows = λ e. whole signed (first (front_of signed)) [] (none-read signed);
      alone = λ e. refl;
      done = λ e. absurd (cc);
    }) e

-- a prefix and an amount
prefixed : (signed : Bool) (front : Front) (text amount : List ℕ) (fen : ℕ)
    → IsDone signed front text → IsAmount (codes "人民币" ++ amount) fen
    → IsCore signed (text ++ amount) (is_below front, fen)
prefixed signed front text amount fen done form =
    let read = done.read in (
      record {
        circle = read.circle;
        sign = read.sign;
        currency = read.currency;
        prefix = text;
        amount = amount;
        is_circle = read.is_circle;
        is_sign = read.is_sign;
        is_currency = read.is_currency;
        order = read.order;
        parts = refl;
        form = form;
      },
      read.is_below_signed,
    )

core-only : (signed : Bool) (text : List ℕ) (typing : Typing) (value : Bool × ℕ)
    → Leads (core signed) text typing → end typing ≡ Some value → IsCore signed text value
core-only signed text typing value leads e =
    by (amount_machine.end typing.progress) refl e (is_amount typing.prefix.point) refl where
      h : IsSoFar signed typing text
      h = is-so-far signed text typing leads

      by : (o : Option ℕ) → amount_machine.end typing.progress ≡ o
          → option_map (λ fen. (is_below typing.prefix.sign, fen)) o ≡ Some value
          → (b : Bool) → is_amount typing.prefix.point ≡ b → IsCore signed text value
      by None ends e b is = absurd (cc)
      by (Some fen) ends e false is =
          let none : Some bare_progress ≡ Some typing.progress =
          ap (run amount_machine.step bare_progress) (sym (h.alone is)) ∙ h.leads in
          let same = some-is bare_progress typing.progress none in
          let wrong : amount_machine.end typing.progress ≡ None =
          ap amount_machine.end (sym same) in absurd (cc)
      by (Some fen) ends e true is =
          let form = amount_reads.only (codes "人民币" ++ h.rest) typing.progress fen
          (bare-leads h.rest ∙ h.leads) ends in
          subst (IsCore signed text) (some-is (is_below typing.prefix.sign, fen) value e)
          (subst (λ text. IsCore signed text (is_below typing.prefix.sign, fen)) (sym h.is)
          (prefixed signed typing.prefix.sign h.front h.rest fen (h.done is) form))

nothing-owed : IsAmount (codes "人民币" ++ codes "零元整") 0
unfolding capital_of
nothing-owed = amount_reads.only (codes "人民币零元整") _ 0 refl refl

core-begins : (signed : Bool) (text : List ℕ) (typing : Typing) → Leads (core signed) text typing
    → Begins (IsCore signed) text
core-begins signed text typing leads = by (is_amount typing.prefix.point) refl where
  h : IsSoFar signed typing text
  h = is-so-far signed text typing leads

  sign : Front
  sign = typing.prefix.sign

  by : (b : Bool) → is_amount typing.prefix.point ≡ b → Begins (IsCore signed) text
  by true is =
      let more = amount_reads.begins (codes "人民币" ++ h.rest) typing.progress
      (bare-leads h.rest ∙ h.leads) in (
        more.0,
        (is_below sign, more.1),
        subst (λ text. IsCore signed text (is_below sign, more.1))
            (sym (ap (λ text. text ++ more.0) h.is ∙ append_assoc h.front h.rest more.0))
            (prefixed signed sign h.front (h.rest ++ more.0) more.1 (h.done is) more.2),
      )
  by false is =
      let more = completed typing.prefix in
      let knows = runs.kept next (λ (prefix : Prefix) text. Knows signed prefix text)
      (knows-more signed) h.front more.behind typing.prefix more.after (h.knows is) more.runs in
      let done = over-read signed more.after (h.front ++ more.behind) more.over knows in
      let same : text ++ (more.behind ++ codes "零元整")
      ≡ (h.front ++ more.behind) ++ codes "零元整" =
      ap (λ text. text ++ (more.behind ++ codes "零元整"))
      (h.is ∙ ap (λ rest. h.front ++ rest) (h.alone is) ∙ append-nil h.front)
      ∙ sym (append_assoc h.front more.behind (codes "零元整")) in (
        more.behind ++ codes "零元整",
        (is_below more.after.sign, 0),
        subst (λ text. IsCore signed text (is_below more.after.sign, 0)) (sym same)
            (prefixed signed more.after.sign (h.front ++ more.behind) (codes "零元整") 0 done
            nothing-owed),
      )

core-reads : (signed : Bool) → Reads (IsCore signed) (core signed)
core-reads signed = record {
  each = core-each signed;
  only = core-only signed;
  begins = core-begins signed;
}

-- no form has white space
pub all-visible : (words : List (List ℕ)) → list_all (list_all is_not_whitespace) words ≡ true
    → (word : List ℕ) → Contains words word → list_all is_not_whitespace word ≡ true
all-visible words all word h =
    All-contains (λ word. list_all is_not_whitespace word ≡ true) words word
    (AllPass-from_list_all (list_all is_not_whitespace) words all) h

both-visible : (front back : List ℕ) → list_all is_not_whitespace front ≡ true
    → list_all is_not_whitespace back ≡ true → list_all is_not_whitespace (front ++ back) ≡ true
both-visible front back p q = list_all-append is_not_whitespace front back
    ∙ both-true (list_all is_not_whitespace front) (list_all is_not_whitespace back) p q

pub signs-visible : (below : Bool) → list_all (list_all is_not_whitespace) (signs below) ≡ true
signs-visible true = refl
signs-visible false = refl

form-visible : (text : List ℕ) (below : Bool) (fen : ℕ) → IsPrefixed text below fen
    → list_all is_not_whitespace text ≡ true
form-visible text below fen h =
    let circle = all-visible circles refl h.circle h.is_circle in
    let sign = all-visible (signs below) (signs-visible below) h.sign h.is_sign in
    let currency = all-visible currencies refl h.currency h.is_currency in
    let prefix = by-order (λ text. list_all is_not_whitespace text ≡ true) h.circle h.sign
    h.currency h.prefix
    (both-visible h.circle (h.sign ++ h.currency) circle (both-visible h.sign h.currency sign currency))
    (both-visible h.sign (h.circle ++ h.currency) sign
    (both-visible h.circle h.currency circle currency))
    (both-visible h.circle (h.currency ++ h.sign) circle
    (both-visible h.currency h.sign currency sign)) h.order in
    ap (list_all is_not_whitespace) h.parts
    ∙ both-visible h.prefix h.amount prefix
    (amount-passes is_not_whitespace refl (codes "人民币" ++ h.amount) fen h.form)

kept-is : (text : List ℕ) → kept visible_sieve tt text ≡ visible text
kept-is [] = refl
kept-is (c ∷ text) =
    ap (λ more. if not (is_whitespace c) then c ∷ more else more) (kept-is text)

pub visible-is : (text : List ℕ) → list_all is_not_whitespace text ≡ true → visible text ≡ text
visible-is [] h = refl
visible-is (c ∷ text) h =
    rw (and-left (is_not_whitespace c) _ h)
    (ap (λ text. c ∷ text) (visible-is text (and-right (is_not_whitespace c) _ h)))

can-follow : (signed : Bool) → CanFollow visible_sieve tt (IsCore signed)
can-follow signed text rest value h =
    let front = kept visible_sieve tt text in
    let all = sym (list_all-append is_not_whitespace front rest)
    ∙ form-visible (front ++ rest) value.0 value.1 h.0 in (
      rest,
      kept-is rest
          ∙ visible-is rest (and-right (list_all is_not_whitespace front) _ all),
    )

-- without a sign
typed-end : (below : Bool) (o : Option ℕ)
    → o ≡ option_map (λ (value : Bool × ℕ). value.1) (option_map (λ fen. (below, fen)) o)
typed-end below None = refl
typed-end below (Some fen) = refl

pub typed-sifted : IsSifted visible_sieve typed (λ nothing (value : Bool × ℕ). value.1) (core false)
    typed_machine tt
typed-sifted = record {
  begin = refl;
  step = λ nothing typing c. refl;
  end = λ nothing typing.
      typed-end (is_below typing.prefix.sign) (amount_machine.end typing.progress);
}

abbrev TypedKept : List ℕ → ℕ → Type 0
TypedKept text fen =
    IsKeptForm visible_sieve tt (λ nothing (value : Bool × ℕ). value.1) (IsCore false) text fen

not-below : (below : Bool) → IsAllowed false below → below ≡ false
not-below true h = let e = h refl in absurd (cc)
not-below false h = refl

from-typed : (text : List ℕ) (fen : ℕ) → TypedKept text fen → IsTypedAmount text fen
from-typed text fen h =
    subst (λ fen. IsPrefixed (visible text) false fen) (sym h.is)
    (subst (λ below. IsPrefixed (visible text) below h.under.1) (not-below h.under.0 h.form.1)
    (subst (λ text. IsPrefixed text h.under.0 h.under.1) (kept-is text) h.form.0))

to-typed : (text : List ℕ) (fen : ℕ) → IsTypedAmount text fen → TypedKept text fen
to-typed text fen h = record {
  under = (false, fen);
  form = (subst (λ text. IsPrefixed text false fen) (sym (kept-is text)) h, λ e. absurd (cc));
  is = refl;
}

pub typed_reads : Reads IsTypedAmount typed_machine
typed_reads = reads-same TypedKept IsTypedAmount typed_machine from-typed to-typed
    (sifted-reads visible_sieve typed (λ nothing (value : Bool × ℕ). value.1) (core false)
    typed_machine tt (IsCore false) typed-sifted (can-follow false) (core-reads false))

-- with a sign or without one
signed-end : (front : Front) (o : Option ℕ)
    → option_map (signed_value front) o
    ≡ option_map (λ (value : Bool × ℕ). signed_number value.0 value.1)
    (option_map (λ fen. (is_below front, fen)) o)
signed-end front None = refl
signed-end front (Some fen) = refl

pub signed-sifted : IsSifted visible_sieve signed
    (λ nothing (value : Bool × ℕ). signed_number value.0 value.1) (core true) typed_signed_machine tt
signed-sifted = record {
  begin = refl;
  step = λ nothing typing c. refl;
  end = λ nothing typing. signed-end typing.prefix.sign (amount_machine.end typing.progress);
}

abbrev SignedKept : List ℕ → ℤ → Type 0
SignedKept text fen =
    IsKeptForm visible_sieve tt (λ nothing (value : Bool × ℕ). signed_number value.0 value.1)
    (IsCore true) text fen

from-signed : (text : List ℕ) (fen : ℤ) → SignedKept text fen → IsTypedSignedAmount text fen
from-signed text fen h = record {
  below = h.under.0;
  magnitude = h.under.1;
  form = subst (λ text. IsPrefixed text h.under.0 h.under.1) (kept-is text) h.form.0;
  value = h.is;
}

to-signed : (text : List ℕ) (fen : ℤ) → IsTypedSignedAmount text fen → SignedKept text fen
to-signed text fen h = record {
  under = (h.below, h.magnitude);
  form = (
    subst (λ text. IsPrefixed text h.below h.magnitude) (sym (kept-is text)) h.form,
    λ e. refl,
  );
  is = h.value;
}

pub typed_signed_reads : Reads IsTypedSignedAmount typed_signed_machine
typed_signed_reads =
    reads-same SignedKept IsTypedSignedAmount typed_signed_machine from-signed to-signed
    (sifted-reads visible_sieve signed
    (λ nothing (value : Bool × ℕ). signed_number value.0 value.1) (core true)
    typed_signed_machine tt (IsCore true) signed-sifted (can-follow true) (core-reads true))

-- the state of the amount can be reached
core-reached : (signed : Bool) (typing : Typing) → Reached (core signed) typing
    → Reached amount_machine typing.progress
core-reached signed typing reached =
    let h = is-so-far signed reached.0 typing reached.1 in
    (codes "人民币" ++ h.rest, bare-leads h.rest ∙ h.leads)

pub under-reached : (state : TypedProgress) → Reached typed_machine state
    → Reached amount_machine state.typing.progress
under-reached state reached =
    let under = sifted-leads visible_sieve typed (λ nothing (value : Bool × ℕ). value.1)
    (core false) typed_machine tt typed-sifted reached.0 state reached.1 in
    subst (λ (state : TypedProgress). Reached amount_machine state.typing.progress) (sym under.2)
    (core-reached false under.0 (kept visible_sieve tt reached.0, under.1))

pub signed-under-reached : (state : TypedSignedProgress) → Reached typed_signed_machine state
    → Reached amount_machine state.typing.progress
signed-under-reached state reached =
    let under = sifted-leads visible_sieve signed
    (λ nothing (value : Bool × ℕ). signed_number value.0 value.1) (core true) typed_signed_machine
    tt signed-sifted reached.0 state reached.1 in
    subst (λ (state : TypedSignedProgress). Reached amount_machine state.typing.progress)
    (sym under.2) (core-reached true under.0 (kept visible_sieve tt reached.0, under.1))
