-- A phrase in figures: its numbers change, and its words stay.
use Rattle.std.specs.Prelude.{ℕ, ◌-◌, Bool, List, [], ◌∷◌, ◌++◌, length, take, encode_utf8_all, Some, None, unwrap_or, if◌then◌else◌}
use Rattle.std.specs.List.{list_any}
use Rattle.cn_core.specs.declared.method.ChineseCountMethod.TheVariants.{TenThousand}
use Rattle.cn_core.specs.FigureCharacters.{is_figure}
use Rattle.cn_replace.specs.Kept.{kept_text}
use Rattle.cn_replace.specs.Pieces.{leading}
use Rattle.cn_phrase.specs.declared.piece.Piece.{Piece}
use Rattle.cn_phrase.specs.declared.piece.Piece.TheVariants.{Slot, Fixed, NotBefore, End}
use Rattle.cn_phrase.specs.declared.shape.Shape.TheVariants.{Quarter}
use Rattle.cn_phrase.specs.Pieces.{Reading, is_numeral, piece_read, without_blank}

-- the new text of a number: as it is, if it has a figure; otherwise in the kept style
abbrev pub number_text : List ℕ → List ℕ
number_text number =
    if list_any is_figure number then encode_utf8_all number
    else unwrap_or (kept_text TenThousand number) (encode_utf8_all number)

-- the characters of a text before one of its suffixes
abbrev pub passed_text : List ℕ → List ℕ → List ℕ
passed_text text rest = encode_utf8_all (take (length text - length rest) text)

-- the new text of a slot
abbrev pub slot_text : Bool → List ℕ → List ℕ
slot_text after_figure text =
    passed_text text (without_blank after_figure text)
    ++ number_text (leading is_numeral (without_blank after_figure text))

-- the new text of a piece, given what was read before it and after it; the digit of a quarter stays
abbrev pub piece_text : Piece → Reading → Reading → List ℕ
piece_text (Slot Quarter) reading next = passed_text reading.rest next.rest
piece_text (Slot shape) reading next = slot_text reading.after_figure reading.rest
piece_text (Fixed word) reading next = passed_text reading.rest next.rest
piece_text (NotBefore guard) reading next = []
piece_text End reading next = []

-- the new text of some pieces; nothing from a piece on that is not there
abbrev pub pieces_text : List Piece → Reading → List ℕ
pieces_text [] reading = []
pieces_text (piece ∷ pieces) reading = elim (piece_read piece reading) [
  | None ↦ []
  | Some next ↦ piece_text piece reading next ++ pieces_text pieces next
]
