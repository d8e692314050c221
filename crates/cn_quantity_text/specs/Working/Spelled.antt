-- A number that is spelled.
use Rattle.std.specs.Prelude.{◌≡◌, ℕ, ◌≤◌, pos, IsTrue, List, length, chars, encode_utf8_all}
use Rattle.cn_core.specs.declared.case.ChineseCase.{ChineseCase}
use Rattle.cn_core.specs.declared.method.ChineseCountMethod.{ChineseCountMethod}
use Rattle.cn_core.specs.declared.script.ChineseVariant.{ChineseVariant}
use Rattle.cn_core.specs.Printing.{is_printable}
use Rattle.cn_core.specs.Text.{text_of}
use Rattle.cn_quantity_text.specs.Numerals.{magnitude_text}

-- the method writes the number, and these are the bytes of its spelling, which has no white space
pub record IsSpelled (variant : ChineseVariant) (case : ChineseCase) (method : ChineseCountMethod)
    (number : ℕ) (bytes : List ℕ) : Type 0 where
  pub printable : IsTrue (is_printable method (pos number))
  pub content : bytes ≡ encode_utf8_all (magnitude_text variant case method number)
  pub bound : length bytes ≤ 231
  pub characters : chars bytes ≡ magnitude_text variant case method number
  pub plain : text_of bytes ≡ chars bytes
