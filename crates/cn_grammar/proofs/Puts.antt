-- Capitals that are written to a buffer, one after the other.
use Rattle.std.proofs.Common.{◌≡◌, ℕ, ◌≤◌, List, [], ◌∷◌, ◌++◌, length, map, encode_utf8_all, sym, ap, subst, ◌∙◌, append-nil, append_assoc}
use Rattle.std.specs.Char.{encode_utf8}
use Rattle.std.proofs.lemmas.List.{map-append}
use Rattle.std.proofs.lemmas.Str.{encodes-append}
use Rattle.cn_core.specs.declared.buffer.Buffer.{Buffer}
use Rattle.cn_core.specs.Buffers.{Appends, HasText, IsTextOf}
use Rattle.cn_grammar.specs.Text.{written, HasPut, PutsMore}

written-more : {C : Type 0} (character : C → ℕ) (capitals : List C) (capital : C)
    → written character (capitals ++ capital ∷ [])
    ≡ written character capitals ++ encode_utf8 (character capital)
written-more character capitals capital =
    ap encode_utf8_all (map-append character capitals (capital ∷ []))
    ∙ encodes-append (map character capitals) (character capital ∷ [])
    ∙ ap (λ bytes. written character capitals ++ bytes)
    (append-nil (encode_utf8 (character capital)))

-- nothing is written to a new buffer
pub puts-none : {H C : Type 0} (character : H → C → ℕ) (hand : H) (start : Buffer)
    → HasText start [] start → HasPut character hand start start []
unfolding HasPut
puts-none character hand start has = has

-- one capital
pub puts-one : {H C : Type 0} (character : H → C → ℕ) (hand : H) (old new : Buffer) (capital : C)
    → Appends old new (encode_utf8 (character hand capital))
    → PutsMore character hand old new (capital ∷ [])
unfolding HasPut Appends
puts-one character hand old new capital put = λ start capitals h.
    subst (λ bytes. HasText start bytes new)
    (sym (written-more (character hand) capitals capital))
    (put start (written (character hand) capitals) h)

-- two pieces are written one after the other
pub puts-two : {H C : Type 0} (character : H → C → ℕ) (hand : H) (old mid new : Buffer)
    (a b : List C) → PutsMore character hand old mid a → PutsMore character hand mid new b
    → PutsMore character hand old new (a ++ b)
puts-two character hand old mid new a b first second = λ start capitals h.
    subst (HasPut character hand start new) (append_assoc capitals a b)
    (second start (capitals ++ a) (first start capitals h))

-- the text of capitals that fit
pub puts-all : {H C : Type 0} (character : H → C → ℕ) (hand : H) (start text : Buffer)
    (capitals : List C) (bytes : List ℕ) → HasPut character hand start text capitals
    → IsTextOf text bytes → length (written (character hand) capitals) ≤ length start.bytes.now
    → bytes ≡ written (character hand) capitals
unfolding HasPut
puts-all character hand start text capitals bytes put of fits = of start _ put fits
