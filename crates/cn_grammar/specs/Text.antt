-- Capitals that are written to a buffer.
use Rattle.std.specs.Prelude.{ℕ, List, ◌++◌, map, encode_utf8_all}
use Rattle.cn_core.specs.declared.buffer.Buffer.{Buffer}
use Rattle.cn_core.specs.Buffers.{HasText}

-- the bytes that write capitals
abbrev pub written : {C : Type 0} → (C → ℕ) → List C → List ℕ
written character capitals = encode_utf8_all (map character capitals)

-- the text in a buffer, which was `start` when nothing was written, is these capitals,
-- by this hand
unfoldable pub HasPut : {H C : Type 0} → (H → C → ℕ) → H → Buffer → Buffer → List C → Type 0
HasPut character hand start text capitals = HasText start (written (character hand) capitals) text

-- these capitals are written after those before
abbrev pub PutsMore : {H C : Type 0} → (H → C → ℕ) → H → Buffer → Buffer → List C → Type 0
PutsMore {H} {C} character hand old new more =
    (start : Buffer) → (capitals : List C)
    → HasPut character hand start old capitals → HasPut character hand start new (capitals ++ more)
