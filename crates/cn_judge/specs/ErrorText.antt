-- The text that an error is displayed as.
use Rattle.std.specs.Prelude.{ℕ, List}
use Rattle.cn_core.specs.Refusal.{refusal_text}
use Rattle.cn_judge.specs.Answer.{refusal_of}
use Rattle.cn_judge.specs.declared.error.ChineseToNumberError.{ChineseToNumberError}

-- the bytes of an error's text, which is that of its refusal
abbrev pub reading_error_text : ChineseToNumberError → List ℕ
reading_error_text error = refusal_text (refusal_of error)
