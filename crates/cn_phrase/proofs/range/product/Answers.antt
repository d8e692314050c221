use Rattle.std.proofs.Common.{◌≡◌, ℕ, ◌<◌, ◌^◌, nat_lt, Bool, true, false, Option, Some, None, if◌then◌else◌, ap, arith, refl}
use Rattle.std.specs.Option.{SomeIff}
use Rattle.std.proofs.lemmas.Bool.Decides.{nat_tests}
use Rattle.cn_phrase.proofs.range.product.Goals as goal

chosen : (o : Option ℕ) (n : ℕ) (b : Bool) → nat_lt n (2 ^ 128) ≡ b → SomeIff o (n < 2 ^ 128) n
    → o ≡ (if b then Some n else None)
chosen (Some x) n true e h = ap Some h.1
chosen (Some x) n false e h = absurd (grind (arith, nat_tests, e, h.0))
chosen None n true e h = absurd (h (grind (arith, nat_tests, e)))
chosen None n false e h = refl

pub returns : goal.returns
returns c = chosen _ _ _ refl c.checked_mul.ensures
