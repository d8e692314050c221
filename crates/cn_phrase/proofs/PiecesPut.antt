-- Pieces of a form are written one after the other.
use Rattle.std.proofs.Common.{◌≡◌, ℕ, List, [], ◌∷◌, ◌++◌, Option, Some, None, refl, sym, ap, subst, ◌∙◌, append_assoc, append-nil}
use Rattle.cn_phrase.specs.declared.piece.Piece.{Piece}
use Rattle.cn_phrase.specs.Pieces.{Reading, piece_read}
use Rattle.cn_phrase.specs.Written.{piece_text, pieces_text}

-- some pieces were written, and these are left
pub record PutPieces {S : Type 0} (took : S → S → List ℕ → Type 0) (pieces : List Piece)
    (start : Reading) (old now : S) (left : List Piece) (reading : Reading) : Type 0 where
  pub put : List ℕ
  pub took_put : took old now put
  pub completes : pieces_text pieces start ≡ put ++ pieces_text left reading

-- the text of a piece and of those after it, given what is read after it
abbrev after : Piece → List Piece → Reading → Option Reading → List ℕ
after piece others reading next = elim next [
  | None ↦ []
  | Some read ↦ piece_text piece reading read ++ pieces_text others read
]

module _ {S : Type 0} (took : S → S → List ℕ → Type 0)
    (both : (old mid new : S) (first second : List ℕ) → took old mid first → took mid new second
    → took old new (first ++ second)) (pieces : List Piece) (start : Reading) where
  pub pieces_none : (old : S) → took old old [] → PutPieces took pieces start old old pieces start
  pieces_none old none = record { put = []; took_put = none; completes = refl }

  module _ (old now : S) (left : List Piece) (reading : Reading)
      (p : PutPieces took pieces start old now left reading) where
    pub pieces_all : left ≡ [] → took old now (pieces_text pieces start)
    pieces_all none = subst (took old now) (sym (p.completes
        ∙ ap (λ l. p.put ++ pieces_text l reading) none ∙ append-nil p.put)) p.took_put

    module _ (piece : Piece) (others : List Piece) (e : left ≡ piece ∷ others) where
      pub pieces_end : piece_read piece reading ≡ None → took old now (pieces_text pieces start)
      pieces_end none = subst (took old now) (sym (p.completes
          ∙ ap (λ l. p.put ++ pieces_text l reading) e
          ∙ ap (λ o. p.put ++ after piece others reading o) none ∙ append-nil p.put)) p.took_put

      pub pieces_more : (new : S) (next : Reading) → piece_read piece reading ≡ Some next
          → took now new (piece_text piece reading next)
          → PutPieces took pieces start old new others next
      pieces_more new next some text = record {
        put = p.put ++ piece_text piece reading next;
        took_put = both old now new p.put (piece_text piece reading next) p.took_put text;
        completes = p.completes ∙ ap (λ l. p.put ++ pieces_text l reading) e
            ∙ ap (λ o. p.put ++ after piece others reading o) some
            ∙ sym (append_assoc p.put (piece_text piece reading next) (pieces_text others next));
      }
