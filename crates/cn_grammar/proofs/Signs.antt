-- What the sieve of a minus sign keeps.
use Rattle.std.proofs.Common.{◌≡◌, ℕ, IsTrue, Bool, true, false, not, ◌&&◌, ◌||◌, List, [], ◌∷◌, refl, sym, ap, ◌∙◌, if◌then◌else◌}
use Rattle.std.specs.Char.{char_set_contains, is_whitespace}
use Rattle.std.proofs.lemmas.Bool.{or_left}
use Rattle.std.specs.List.{list_all}
use Rattle.cn_grammar.specs.Sieve.{kept, after}
use Rattle.cn_grammar.specs.Sign.{keeps, is_below, sign_sieve}
use Rattle.cn_grammar.specs.declared.sign.Front.{Front}
use Rattle.cn_grammar.specs.declared.sign.Front.TheVariants.{Open, Plain, Minus}
use Rattle.cn_grammar.proofs.LookUp.{none-in}
use Rattle.cn_grammar.proofs.Sieves.{CanFollow}

-- once the start is read, the whole text is kept, and the start stays the same
abbrev Stays : List ℕ → Front → Type 0
Stays signs front = (text : List ℕ)
    → (kept (sign_sieve signs) front text ≡ text) × (after (sign_sieve signs) front text ≡ front)

plain-stays : (signs : List ℕ) → Stays signs Plain
plain-stays signs [] = (refl, refl)
plain-stays signs (c ∷ text) =
    let more = plain-stays signs text in (ap (λ l. c ∷ l) more.0, more.1)

minus-stays : (signs : List ℕ) → Stays signs Minus
minus-stays signs [] = (refl, refl)
minus-stays signs (c ∷ text) =
    let more = minus-stays signs text in (ap (λ l. c ∷ l) more.0, more.1)

-- the text without a sign at the start, and whether there is one
pub kept-is : (signs : List ℕ) (c : ℕ) (text : List ℕ)
    → kept (sign_sieve signs) Open (c ∷ text)
    ≡ (if char_set_contains signs c then text else c ∷ text)
kept-is signs c text = by (char_set_contains signs c) where
  by : (b : Bool)
      → (if not b then c ∷ kept (sign_sieve signs) (if b then Minus else Plain) text
      else kept (sign_sieve signs) (if b then Minus else Plain) text)
      ≡ (if b then text else c ∷ text)
  by true = (minus-stays signs text).0
  by false = ap (λ l. c ∷ l) (plain-stays signs text).0

pub below-is : (signs : List ℕ) (c : ℕ) (text : List ℕ)
    → is_below (after (sign_sieve signs) Open (c ∷ text)) ≡ char_set_contains signs c
below-is signs c text = by (char_set_contains signs c) where
  by : (b : Bool) → is_below (after (sign_sieve signs) (if b then Minus else Plain) text) ≡ b
  by true = ap is_below (minus-stays signs text).1
  by false = ap is_below (plain-stays signs text).1

-- what completes the text without the sign completes the text; nothing is completed after a sign
pub can-follow : {A : Type 0} (sign : ℕ) (signs : List ℕ) (IsForm : List ℕ → A → Type 0)
    → char_set_contains signs sign ≡ true → CanFollow (sign_sieve signs) Open IsForm
can-follow sign signs IsForm is [] rest value h =
    (sign ∷ rest, rw is (minus-stays signs rest).0)
can-follow sign signs IsForm is (c ∷ text) rest value h = by (char_set_contains signs c) where
  by : (b : Bool) → (more : List ℕ)
      × (kept (sign_sieve signs) (after (sign_sieve signs) (if b then Minus else Plain) text) more
      ≡ rest)
  by true = (rest, rw (minus-stays signs text).1 (minus-stays signs rest).0)
  by false = (rest, rw (plain-stays signs text).1 (plain-stays signs rest).0)

-- a character that is left out is a sign
pub left-out : (signs characters : List ℕ) → list_all (char_set_contains characters) signs ≡ true
    → (front : Front) (c : ℕ) → keeps front (char_set_contains signs c) ≡ false
    → IsTrue (char_set_contains characters c || (false && is_whitespace c))
left-out signs characters all Open c h = by (char_set_contains characters c) refl where
  by : (b : Bool) → char_set_contains characters c ≡ b
      → IsTrue (char_set_contains characters c || (false && is_whitespace c))
  by true is = or_left _ _ is
  by false is =
      let none : char_set_contains signs c ≡ false =
      none-in (char_set_contains characters) c signs all is in
      let wrong : true ≡ false = sym (ap not none) ∙ h in absurd (cc)
left-out signs characters all Plain c h = absurd (cc)
left-out signs characters all Minus c h = absurd (cc)
