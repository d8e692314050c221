-- Which characters a machine reads.
use Rattle.std.proofs.Common.{◌≡◌, ℕ, ◌≤◌, IsTrue, Bool, true, false, ◌&&◌, ◌||◌, List, length, Option, Some, None, refl, sym, ap, ◌∙◌}
use Rattle.std.specs.Char.{char_set_contains, is_whitespace}
use Rattle.std.specs.Option.{option_map}
use Rattle.cn_grammar.specs.Expected.{IsListed}
use Rattle.cn_grammar.specs.Machine.{Machine, step_as}
use Rattle.cn_grammar.specs.Sieve.{Sieve, sifted}
use Rattle.cn_grammar.proofs.Sieves.{IsSifted}

-- a machine that reads each character as its class reads those that have one
pub classes-listed : {S A C : Type 0} (machine : Machine S A) (step : S → C → Option S)
    (class : ℕ → Option C) (characters : List ℕ)
    → ((state : S) (c : ℕ) → machine.step state c ≡ step_as step state (class c))
    → length characters ≤ 48
    → ((c : ℕ) → char_set_contains characters c ≡ false → class c ≡ None)
    → IsListed characters false machine
classes-listed {S} machine step class characters steps few others = record {
  few = few;
  known = λ state next c e. by state next c e (char_set_contains characters c) refl;
  blank = λ e state c is. absurd (cc);
} where
  by : (state next : S) (c : ℕ) → machine.step state c ≡ Some next → (b : Bool)
      → char_set_contains characters c ≡ b
      → IsTrue (char_set_contains characters c || (false && is_whitespace c))
  by state next c e true is = ap (λ b. b || (false && is_whitespace c)) is
  by state next c e false is =
      let none : None ≡ Some next =
      sym (steps state c ∙ ap (step_as step state) (others c is)) ∙ e in absurd (cc)

-- a machine after a sieve reads the characters that the sieve leaves out, too
pub sifted-listed : {F S T A B : Type 0} (sieve : Sieve F) (both : F → S → T)
    (value : F → A → B) (inner : Machine S A) (outer : Machine T B) (first : F)
    → IsSifted sieve both value inner outer first
    → ((state : T) → (front : F) × (under : S) × (state ≡ both front under))
    → (characters : List ℕ) (white : Bool) → IsListed characters false inner
    → ((front : F) (c : ℕ) → sieve.keeps front c ≡ false
    → IsTrue (char_set_contains characters c || (white && is_whitespace c)))
    → (white ≡ true → (front : F) (c : ℕ) → is_whitespace c ≡ true → sieve.keeps front c ≡ false)
    → IsListed characters white outer
sifted-listed {F} {S} {T} sieve both value inner outer first is parts characters white listed left blank =
    record {
      few = listed.few;
      known = λ state next c e.
          let part = parts state in
          known part.0 part.1 next c (sieve.keeps part.0 c) refl
          (sym (is.step part.0 part.1 c) ∙ ap (λ state. outer.step state c) (sym part.2) ∙ e);
      blank = λ e state c h.
          let part = parts state in (
            both (sieve.next part.0 c) part.1,
            ap (λ state. outer.step state c) part.2 ∙ is.step part.0 part.1 c
                ∙ left-out part.0 part.1 c (blank e part.0 c h),
          );
    } where
      left-out : (front : F) (under : S) (c : ℕ) → sieve.keeps front c ≡ false
          → sifted sieve both inner.step front under c ≡ Some (both (sieve.next front c) under)
      left-out front under c h = rw h refl

      inside : (under : S) (c : ℕ) → IsTrue (char_set_contains characters c || (false && is_whitespace c))
          → IsTrue (char_set_contains characters c || (white && is_whitespace c))
      inside under c h = by (char_set_contains characters c) refl h where
        by : (b : Bool) → char_set_contains characters c ≡ b
            → IsTrue (b || (false && is_whitespace c))
            → IsTrue (char_set_contains characters c || (white && is_whitespace c))
        by true is h = ap (λ b. b || (white && is_whitespace c)) is
        by false is h = absurd (cc)

      taken : (front : F) (under : S) (next : T) (c : ℕ) (o : Option S) → inner.step under c ≡ o
          → option_map (both (sieve.next front c)) o ≡ Some next
          → IsTrue (char_set_contains characters c || (white && is_whitespace c))
      taken front under next c None e h = absurd (cc)
      taken front under next c (Some state) e h = inside under c (listed.known under state c e)

      known : (front : F) (under : S) (next : T) (c : ℕ) (keeps : Bool)
          → sieve.keeps front c ≡ keeps → sifted sieve both inner.step front under c ≡ Some next
          → IsTrue (char_set_contains characters c || (white && is_whitespace c))
      known front under next c true h e =
          taken front under next c (inner.step under c) refl (rw h at e)
      known front under next c false h e = left front c h
