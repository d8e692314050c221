-- The text that an error is displayed as.
use Rattle.std.specs.Prelude.{ℕ, List, codes}
use Rattle.cn_core.specs.Refusal.{refusal_text, too_large, too_small}
use Rattle.cn_quantity_text.specs.declared.error.QuantityToChineseError.{QuantityToChineseError}
use Rattle.cn_quantity_text.specs.declared.error.QuantityToChineseError.TheVariants.{Overflow, Underflow, ZeroDenominator, OutOfMemory}

-- the bytes of an error's text, which `{}` writes
abbrev pub writing_error_text : QuantityToChineseError → List ℕ
writing_error_text Overflow = refusal_text too_large
writing_error_text Underflow = refusal_text too_small
writing_error_text ZeroDenominator = codes "the denominator is 0"
writing_error_text OutOfMemory = codes "out of memory"
