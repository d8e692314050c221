use Rattle.std.proofs.Common.{◌≡◌, ◌<◌, ◌^◌, take, true}
use Rattle.std.specs.List.{list_all}
use Rattle.std.specs.Char.{is_ascii_digit}
use Rattle.cn_dynamic.specs.Decimal.{value_of}
use Rattle.cn_lines.proofs.question.short_value.Given as goal

abbrev pub invariant-loop-digit : goal.invariant-loop-digit
invariant-loop-digit l =
    (list_all is_ascii_digit (take l.digit-index l.digits) ≡ true)
    × (l.value ≡ value_of (take l.digit-index l.digits))
    × (l.value < 10 ^ l.digit-index)
