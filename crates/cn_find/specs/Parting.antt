-- A run of a text as a run of a longer text, and runs that meet.
use Rattle.std.specs.Prelude.{◌≡◌, ◌⊎◌, ◌||◌, ℕ, Bool, List, ◌++◌, chars, codes, is_some, IsTrue}
use Rattle.std.specs.Char.{char_set_contains, encode_utf8}
use Rattle.cn_core.specs.Characters.{digit_of}
use Rattle.cn_core.specs.FigureCharacters.{is_figure}
use Rattle.cn_find.specs.Expressions.{binds_minus, is_extra, is_han}
use Rattle.cn_find.specs.Flags.{is_link, stands_alone}
use Rattle.cn_find.specs.Spans.{Span}

-- the same run in a text that has `more` before it
abbrev pub with_text_before : List ℕ → Span → Span
with_text_before more span =
    record { before = more ++ span.before; text = span.text; after = span.after }

-- the same run in a text that has `more` after it
abbrev pub with_text_after : List ℕ → Span → Span
with_text_after more span =
    record { before = span.before; text = span.text; after = span.after ++ more }

-- the character is one that `begins_measure` tests for
unfoldable pub is_of_measure : ℕ → Bool
is_of_measure c =
    char_set_contains (codes "瓦赫帕焦伏乏字节節比特电電子宽寬带帶頻位数數欧歐元") c

-- the character is one that the rule of expressions can test for: a Han character, a digit, a
-- figure, a letter, or one of the signs and marks that the rule names
unfoldable pub is_named : ℕ → Bool
is_named c =
    is_han c || is_figure c || is_some (digit_of c) || is_extra c || binds_minus c
    || char_set_contains (codes "℃") c

-- the second run begins where the first one ends, or after a link that is there
abbrev pub Meet : Span → Span → Type 0
Meet first second =
    (second.before ≡ first.before ++ first.text)
    ⊎ ((c : ℕ) × IsTrue (is_link c)
    × (second.before ≡ first.before ++ first.text ++ encode_utf8 c))

-- the run stands alone in its text
abbrev pub is_alone : Span → Bool
is_alone span = stands_alone (chars span.before) (chars span.after)
