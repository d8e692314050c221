-- The pieces of a form are spoken one after the other.
use Rattle.std.proofs.Common.{◌≡◌, ℕ, List, [], ◌∷◌, ◌++◌, Option, Some, None, ap, ◌∙◌}
use Rattle.cn_phrase.specs.declared.piece.Piece.{Piece}
use Rattle.cn_phrase.specs.Pieces.{Reading, piece_read, without_blank}
use Rattle.cn_speech.specs.declared.phrases.Manner.{Manner}
use Rattle.cn_speech.specs.SpokenPhrases.{piece_said, pieces_said}

-- what is said for a piece and those after it, given what is read after it
abbrev with_next : Manner → Piece → List Piece → List ℕ → Option Reading → List ℕ
with_next manner piece others text next = elim next [
  | None ↦ []
  | Some read ↦ piece_said manner piece text read ++ pieces_said manner others read
]

pub said-pieces : (manner : Manner) (pieces others : List Piece) (piece : Piece) (reading next : Reading)
    (text : List ℕ) → pieces ≡ piece ∷ others → piece_read piece reading ≡ Some next
    → without_blank reading.after_figure reading.rest ≡ text
    → pieces_said manner pieces reading
    ≡ piece_said manner piece text next ++ pieces_said manner others next
said-pieces manner pieces others piece reading next text e some blank =
    ap (λ l. pieces_said manner l reading) e
    ∙ ap (λ t. with_next manner piece others t (piece_read piece reading)) blank
    ∙ ap (with_next manner piece others text) some
