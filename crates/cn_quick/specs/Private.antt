-- Definitions that only contracts of private functions cite: the state of a walk over a regular
-- numeral.
pub mod Regular
