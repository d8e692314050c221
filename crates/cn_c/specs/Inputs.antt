-- What the calls on what may come next and on repairs write and return.
use Rattle.std.specs.Prelude.{◌≡◌, ℕ, List, take, replicate, Option, Some, None, MatchOption, slice_get}
use Rattle.std.specs.Bool.{MatchBool}
use Rattle.std.specs.Str.{chars, is_utf8}
use Rattle.cn_grammar.specs.declared.expecting.Expected.{Expected as WhatIsExpected}
use Rattle.cn_grammar.specs.declared.hint.Hint.{Hint}
use Rattle.cn_grammar.specs.declared.hint.Repair.{Repair}
use Rattle.cn_grammar.specs.declared.hint.Repair.TheVariants.{Insert, Replace, Delete}
use Rattle.cn_grammar.specs.Expected.{list_of}
use Rattle.cn_judge.specs.ByteIndex.{byte_index}
use Rattle.cn_message.specs.declared.input.Input.{Input}
use Rattle.cn_message.specs.Inputs.{IsExpectedIn, IsRepairOf}
use Rattle.cn_c.specs.declared.input.Change.{Change}
use Rattle.cn_c.specs.declared.input.Expected.{Expected}
use Rattle.cn_c.specs.Finds.{flag_if}
use Rattle.cn_c.specs.Codes.{inputs, CN_DONE, CN_NOT_UTF8, CN_UNKNOWN, CN_NO_CHANGE, CN_INSERT, CN_REPLACE, CN_DELETE}

-- nothing is expected
abbrev pub nothing_expected : Expected
nothing_expected = record {
  char_index = 0;
  byte_index = 0;
  may_end = 0;
  white_space = 0;
  count = 0;
  characters = replicate 48 0;
}

-- what is written is what may come next in a text
pub record WritesExpected (input : Input) (text : List ℕ) (written : Expected) : Type 0 where
  pub expected : WhatIsExpected
  pub is : IsExpectedIn input (chars text) expected
  pub char_index : written.char_index ≡ expected.char_index
  pub byte_index : written.byte_index ≡ byte_index text expected.char_index
  pub may_end : written.may_end ≡ flag_if expected.may_end 1
  pub white_space : written.white_space ≡ flag_if expected.white_space 1
  pub characters : take written.count written.characters ≡ list_of expected.characters

-- the result of asking what may come next in bytes, or UNKNOWN if no input is named
abbrev pub IsInputExpectedAs : Option Input → List ℕ → ℕ → Expected → Type 0
IsInputExpectedAs (Some input) bytes status written =
    MatchBool (is_utf8 bytes)
    ((status ≡ CN_DONE) × WritesExpected input bytes written)
    ((status ≡ CN_NOT_UTF8) × (written ≡ nothing_expected))
IsInputExpectedAs None bytes status written = (status ≡ CN_UNKNOWN) × (written ≡ nothing_expected)

-- the same, given the code of an input
abbrev pub IsInputExpected : List ℕ → ℕ → ℕ → Expected → Type 0
IsInputExpected bytes input status written =
    IsInputExpectedAs (slice_get inputs input) bytes status written

-- nothing is changed
abbrev pub no_change : Change
no_change = record { char_index = 0; byte_index = 0; change = CN_NO_CHANGE; character = 0 }

-- the code of what is changed, and the character that is written, if any
abbrev pub change_code : Repair → ℕ
change_code (Insert c) = CN_INSERT
change_code (Replace c) = CN_REPLACE
change_code Delete = CN_DELETE

abbrev pub character_of : Repair → ℕ
character_of (Insert c) = c
character_of (Replace c) = c
character_of Delete = 0

-- what is written for a change
abbrev pub change_of : List ℕ → Hint → Change
change_of text hint = record {
  char_index = hint.char_index;
  byte_index = byte_index text hint.char_index;
  change = change_code hint.repair;
  character = character_of hint.repair;
}

-- what is written is a repair of the text, or no change
abbrev pub WritesRepair : Input → List ℕ → Change → Type 0
WritesRepair input bytes written =
    (hint : Option Hint)
    × MatchOption hint (written ≡ no_change)
    (λ hint. IsRepairOf input (chars bytes) hint × (written ≡ change_of bytes hint))

-- the result of asking for a repair of bytes, or UNKNOWN if no input is named
abbrev pub IsInputRepairAs : Option Input → List ℕ → ℕ → Change → Type 0
IsInputRepairAs (Some input) bytes status written =
    MatchBool (is_utf8 bytes) ((status ≡ CN_DONE) × WritesRepair input bytes written)
    ((status ≡ CN_NOT_UTF8) × (written ≡ no_change))
IsInputRepairAs None bytes status written = (status ≡ CN_UNKNOWN) × (written ≡ no_change)

-- the same, given the code of an input
abbrev pub IsInputRepair : List ℕ → ℕ → ℕ → Change → Type 0
IsInputRepair bytes input status written =
    IsInputRepairAs (slice_get inputs input) bytes status written
