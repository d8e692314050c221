use Rattle.std.proofs.Common.{◌≡◌, ◌<◌, ◌^◌, chars, length}
use denote.Shadow.{shadow}
use denote.Text.{Utf8}
use Rattle.cn_codes.specs.Digits.{number_from, number_of}
use Rattle.cn_speech.specs.Numbers.{plain}
use Rattle.cn_speech.proofs.numbers.small_number.Given as goal

abbrev pub invariant-reading : goal.invariant-reading
invariant-reading l = record {
  same : number_of (plain (chars l.fn.figures)) ≡ number_from l.value (plain (chars l.rest));
  small : l.value < 10 ^ 16;
  utf8 : shadow (Utf8 l.rest);
}

abbrev pub decreases-reading : goal.decreases-reading
decreases-reading l = length l.rest
