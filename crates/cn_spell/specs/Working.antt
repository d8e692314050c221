-- Definitions that only contracts of private functions cite: how the digits of a number and the
-- buffer of its text are stored, and how the printer passes over them. No public contract cites
-- them.
pub mod Room
pub mod Sections
pub mod Units
