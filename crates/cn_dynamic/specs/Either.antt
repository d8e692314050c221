-- How a text is read that is either plain digits or a numeral with units, and how a number that was
-- read like this is written.
use Rattle.std.specs.Prelude.{ℕ, ◌^◌, nat_lt, List, if◌then◌else◌}
use Rattle.chinese_number.specs.declared.ChineseCountMethod.{ChineseCountMethod}
use Rattle.chinese_number.specs.declared.ChineseCountMethod.TheVariants.{TenThousand, Middle}
use Rattle.chinese_number.specs.declared.ChineseVariant.{ChineseVariant}
use Rattle.chinese_number.specs.declared.ChineseVariant.TheVariants.{Traditional, Simple}
use Rattle.chinese_number.specs.Number.{is_plain}
use Rattle.chinese_number.specs.Parts.{unsigned_text}
use Rattle.chinese_number.specs.Whole.{Kind}
use Rattle.cn_dynamic.specs.declared.way.Way.{Way}
use Rattle.cn_dynamic.specs.declared.way.Way.TheVariants.{Digits, Units}

-- the way in which a string is read: as plain digits if it has only digits, white space and, for a
-- signed type, one leading sign; else with the standard method
abbrev pub either_way : Kind → List ℕ → Way
either_way kind text = if is_plain (unsigned_text kind text) then Digits else Units TenThousand

-- the method with which a magnitude is written: `Middle` in the simple script below 10^16, so that
-- 10^12 is 一万亿, else the standard method
abbrev pub written_method : ChineseVariant → ℕ → ChineseCountMethod
written_method Simple magnitude = if nat_lt magnitude (10 ^ 16) then Middle else TenThousand
written_method Traditional magnitude = TenThousand
