-- A text in which expressions are replaced and all else is left unchanged.
use Rattle.std.specs.Prelude.{ℕ, ◌+◌, List, [], ◌∷◌, ◌++◌, length, drop, Option, unwrap_or}
use Rattle.cn_find.specs.declared.wanted.Wanted.{Wanted}
use Rattle.cn_find.specs.Spans.{Span, expressions}

-- the text in the place of an expression: its new text, or the expression itself if there is none
abbrev pub text_for : (Span → Option (List ℕ)) → Span → List ℕ
text_for new span = unwrap_or (new span) span.text

-- a text from a byte on, with these expressions replaced, which are after that byte
abbrev pub replaced_from : (Span → Option (List ℕ)) → List ℕ → ℕ → List Span → List ℕ
replaced_from new bytes from [] = drop from bytes
replaced_from new bytes from (span ∷ others) =
    drop from span.before ++ text_for new span
    ++ replaced_from new bytes (length span.before + length span.text) others

-- a text with its expressions replaced
abbrev pub replaced : (Span → Option (List ℕ)) → Wanted → List ℕ → List ℕ
replaced new wanted bytes = replaced_from new bytes 0 (expressions wanted bytes)
