-- The decimal digits of an amount of money.
use Rattle.std.specs.Prelude.{ℕ, ◌+◌, ◌*◌, ◌/◌, ◌%◌, ◌^◌, ◌<◌}
use Rattle.cn_amount.specs.declared.places.Section.{Section}
use Rattle.cn_amount.specs.declared.places.Places.{Places}

-- An amount is a number of fen, a hundredth of a yuan, below this limit. From 10^16 yuan on 万 and
-- 亿 are not enough, and 兆 is read by some as 10^6 and by others as 10^12 or 10^16.
abbrev pub amount_limit : ℕ
amount_limit = 10 ^ 18

-- the number that four digits write, such as 1409 for 1, 4, 0 and 9
abbrev pub section_value : Section → ℕ
section_value s = 1000 * s.thousands + 100 * s.hundreds + 10 * s.tens + s.ones

-- the amount that the digits write, in fen
abbrev pub amount_value : Places → ℕ
amount_value p =
    100 * (100000000 * (10000 * section_value p.wan_yi + section_value p.yi)
    + 10000 * section_value p.wan + section_value p.yuan)
    + 10 * p.jiao + p.fen

-- each of the four is a decimal digit
abbrev pub AreDigits : Section → Type 0
AreDigits s = (s.thousands < 10) × (s.hundreds < 10) × (s.tens < 10) × (s.ones < 10)

-- each digit of an amount is a decimal digit
abbrev pub ArePlaces : Places → Type 0
ArePlaces p =
    AreDigits p.wan_yi × AreDigits p.yi × AreDigits p.wan × AreDigits p.yuan
    × (p.jiao < 10) × (p.fen < 10)

-- the digits of a number below 10000
abbrev pub section_of : ℕ → Section
section_of number = record {
  thousands = number / 1000 % 10;
  hundreds = number / 100 % 10;
  tens = number / 10 % 10;
  ones = number % 10;
}

-- the digits of an amount
abbrev pub places_of : ℕ → Places
places_of amount = record {
  wan_yi = section_of (amount / 10 ^ 14);
  yi = section_of (amount / 10 ^ 10);
  wan = section_of (amount / 10 ^ 6);
  yuan = section_of (amount / 100);
  jiao = amount / 10 % 10;
  fen = amount % 10;
}
