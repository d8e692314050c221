-- The whole number that a quantity equals.
use Rattle.std.specs.Prelude.{◌≡◌, ℕ, ℤ, pos, ◌*ℤ◌, ◌<◌}

-- the numerator is this number times the denominator, which is above 0
pub record IsTimes (numerator : ℤ) (denominator : ℕ) (number : ℤ) : Type 0 where
  pub above : 0 < denominator
  pub exact : numerator ≡ number *ℤ pos denominator
