-- The list of characters has each character that an amount of each kind has.
use Rattle.std.proofs.Common.{◌≡◌, ℕ, ◌≤◌, List, length, take, IsTrue, Bool, true, false, not, ◌&&◌, ◌||◌, Option, Some, None, codes, refl, ap, if◌then◌else◌, arith}
use Rattle.std.specs.List.{list_all}
use Rattle.std.specs.Char.{char_set_contains, is_whitespace}
use Rattle.std.specs.Option.{option_map}
use Rattle.std.proofs.lemmas.Bool.{or_right}
use Rattle.cn_grammar.specs.Expected.{IsListed}
use Rattle.cn_grammar.proofs.Lists.{classes-listed, sifted-listed}
use Rattle.cn_grammar.proofs.LookUp.{none-in, none-with}
use Rattle.cn_grammar.proofs.Signs.{left-out}
use Rattle.cn_grammar.specs.declared.sign.Front.TheVariants.{Open}
use Rattle.cn_core.specs.Whole.{signed_number}
use Rattle.cn_amount.specs.declared.capital.Capital.{Capital}
use Rattle.cn_amount.specs.declared.listed.TheConstants.{CHARACTERS}
use Rattle.cn_amount.specs.declared.prefix.Point.TheVariants.{Amount}
use Rattle.cn_amount.specs.declared.prefix.Prefix.{Prefix}
use Rattle.cn_amount.specs.declared.progress.Progress.{Progress}
use Rattle.cn_amount.specs.declared.typed.Typing.{Typing}
use Rattle.cn_amount.specs.Reading.{capital_of, capital_rows}
use Rattle.cn_amount.specs.Signed.{minus_signs}
use Rattle.cn_amount.specs.Working.Signs.{sign_sieve, both, signed_value, signed_machine}
use Rattle.cn_amount.specs.Working.Steps.{advance, amount_machine}
use Rattle.cn_amount.specs.Working.Typing as typing
use Rattle.cn_amount.proofs.SignedReads.{signs-sifted}
use Rattle.cn_amount.proofs.TypedReads.{typed-sifted, signed-sifted}
use Rattle.cn_amount.proofs.TypedRuns.{unmarked, core}

-- a list that has the characters of each row
listed-in : (characters : List ℕ) → length characters ≤ 48
    → list_all (λ (row : List ℕ × Capital). list_all (char_set_contains characters) row.0)
    capital_rows ≡ true
    → IsListed characters false amount_machine
unfolding capital_of
listed-in characters few all = classes-listed amount_machine advance capital_of characters
    (λ state c. refl) few (λ c h. none-with (char_set_contains characters) c capital_rows all h)

pub amounts_listed : IsListed (take 32 CHARACTERS) false amount_machine
amounts_listed = listed-in (take 32 CHARACTERS) (omega arith) refl

pub signed_listed : IsListed (take 34 CHARACTERS) false signed_machine
signed_listed = sifted-listed sign_sieve both signed_value amount_machine signed_machine Open
    signs-sifted (λ state. (state.front, state.progress, refl)) (take 34 CHARACTERS) false
    (listed-in (take 34 CHARACTERS) (omega arith) refl)
    (left-out minus_signs (take 34 CHARACTERS) refl) (λ e front c h. absurd (cc))

-- the characters before a typed amount are in the list, and those of the amount
unknown : (prefix : Prefix) (c : ℕ) → char_set_contains CHARACTERS c ≡ false
    → typing.next prefix c ≡ None
unknown prefix c other = unmarked prefix c
    (none-in (char_set_contains CHARACTERS) c (codes "⊗ⓧ负負（）()数數大写寫人民币幣:：") refl other)

core-listed : (is_signed : Bool) → IsListed CHARACTERS false (core is_signed)
core-listed is_signed = record {
  few = omega arith;
  known = λ state next c e. by state next c e (char_set_contains CHARACTERS c) refl;
  blank = λ e state c is. absurd (cc);
} where
  amount : IsListed CHARACTERS false amount_machine
  amount = listed-in CHARACTERS (omega arith) refl

  Listed : ℕ → Type 0
  Listed c = IsTrue (char_set_contains CHARACTERS c || (false && is_whitespace c))

  taken : (state next : Typing) (c : ℕ) (o : Option Progress)
      → amount_machine.step state.progress c ≡ o → (over : Bool)
      → (if over then option_map (typing.both (typing.at Amount state.prefix)) o else None)
      ≡ Some next
      → Listed c
  taken state next c None is true e = absurd (cc)
  taken state next c (Some progress) is true e = amount.known state.progress progress c is
  taken state next c o is false e = absurd (cc)

  stepped : (state next : Typing) (c : ℕ) (o : Option Prefix) → o ≡ None
      → elim o [
        | None ↦ typing.amount_step state c
        | Some prefix ↦ Some (typing.both prefix state.progress)
      ] ≡ Some next
      → Listed c
  stepped state next c None is e =
      taken state next c (amount_machine.step state.progress c) refl
      (typing.is_over state.prefix.point) e
  stepped state next c (Some prefix) is e = absurd (cc)

  by : (state next : Typing) (c : ℕ) → typing.step state c ≡ Some next → (b : Bool)
      → char_set_contains CHARACTERS c ≡ b → Listed c
  by state next c e true is = ap (λ b. b || (false && is_whitespace c)) is
  by state next c e false is =
      stepped state next c (typing.next state.prefix c) (unknown state.prefix c is) e

-- each character that the reader of typed texts skips is white space
left : (nothing : Unit {0}) (c : ℕ) → typing.visible_sieve.keeps nothing c ≡ false
    → IsTrue (char_set_contains CHARACTERS c || (true && is_whitespace c))
left nothing c h = by (is_whitespace c) refl h where
  by : (white : Bool) → is_whitespace c ≡ white → not white ≡ false
      → IsTrue (char_set_contains CHARACTERS c || is_whitespace c)
  by true is h = or_right _ _ is
  by false is h = absurd (cc)

blank : true ≡ true → (nothing : Unit {0}) (c : ℕ) → is_whitespace c ≡ true
    → typing.visible_sieve.keeps nothing c ≡ false
blank e nothing c is = rw is refl

pub typed_listed : IsListed CHARACTERS true typing.typed_machine
typed_listed = sifted-listed typing.visible_sieve typing.typed
    (λ nothing (value : Bool × ℕ). value.1) (core false) typing.typed_machine tt typed-sifted
    (λ state. (tt, state.typing, refl)) CHARACTERS true (core-listed false) left blank

pub typed_signed_listed : IsListed CHARACTERS true typing.typed_signed_machine
typed_signed_listed = sifted-listed typing.visible_sieve typing.signed
    (λ nothing (value : Bool × ℕ). signed_number value.0 value.1) (core true)
    typing.typed_signed_machine tt signed-sifted (λ state. (tt, state.typing, refl)) CHARACTERS true
    (core-listed true) left blank
