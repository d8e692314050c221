use Rattle.std.proofs.Common.{◌^◌}
use Rattle.cn_quantity_text.specs.Numerals.{spelled_numbers}
use Rattle.cn_quantity_text.proofs.NumeralsRead.{each-below, middle-read}
use Rattle.cn_quantity_text.proofs.laws.middle_is_read_by_ten_thousand.Goals as goal

pub returns : goal.returns
returns c = λ variant case q held above fits low.
    middle-read variant case q held above fits (each-below (10 ^ 16) (spelled_numbers q) low)
