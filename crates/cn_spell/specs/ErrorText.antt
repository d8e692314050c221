-- The text that an error is displayed as.
use Rattle.std.specs.Prelude.{ℕ, List, codes}
use Rattle.cn_core.specs.Refusal.{refusal_text, too_large, too_small}
use Rattle.cn_spell.specs.declared.error.NumberToChineseError.{NumberToChineseError}
use Rattle.cn_spell.specs.declared.error.NumberToChineseError.TheVariants.{Overflow, Underflow, OutOfMemory}

-- the bytes of an error's text, which `{}` writes
abbrev pub printing_error_text : NumberToChineseError → List ℕ
printing_error_text Overflow = refusal_text too_large
printing_error_text Underflow = refusal_text too_small
printing_error_text OutOfMemory = codes "out of memory"
