-- The contents of a buffer after a character is written.
use Rattle.std.proofs.Common.{◌≡◌, ℕ, zero, suc, ◌+◌, ◌-◌, ◌≤◌, ◌<◌, Bool, true, false, List, [], ◌∷◌, ◌++◌, length, map, drop, set, slice_index, if◌then◌else◌, refl, ap, ap₂, sym, ◌∙◌, arith}
use Rattle.std.proofs.lemmas.List.{drop-drop, drop-set-lt, drop_at, length-set}
use Rattle.std.specs.Char.{encode_utf8}
use Rattle.std.proofs.lemmas.Str.{IsUtf8-append}
use Rattle.cn_core.specs.declared.script.ChineseVariant.{ChineseVariant}
use Rattle.cn_core.specs.declared.case.ChineseCase.{ChineseCase}
use Rattle.cn_core.specs.Mark.{Mark}
use Rattle.cn_core.specs.Printing.{mark_char}
use Rattle.cn_spell.specs.Working.Sections.{kept}
use Rattle.cn_spell.specs.Working.Room.{Counts, Shows}
use Rattle.cn_core.proofs.Characters.{takes_three}
use Rattle.cn_spell.proofs.ThreeBytes.{encode-three, IsUtf8-three}

drop-sets : (items : List ℕ) (start a b d : ℕ) → start + 3 ≤ length items
    → drop start (set (set (set items start a) (start + 1) b) (start + 2) d)
    ≡ a ∷ b ∷ d ∷ drop (start + 3) items
drop-sets [] start a b d h = absurd (omega (arith, h))
drop-sets (x ∷ []) zero a b d h = absurd (omega (arith, h))
drop-sets (x ∷ y ∷ []) zero a b d h = absurd (omega (arith, h))
drop-sets (x ∷ y ∷ z ∷ items) zero a b d h = refl
drop-sets (x ∷ items) (suc start) a b d h =
    let one : suc start + 1 ≡ suc (start + 1) = omega arith in
    let two : suc start + 2 ≡ suc (start + 2) = omega arith in
    let three : suc start + 3 ≡ suc (start + 3) = omega arith in
    rw (one, two, three) (drop-sets items start a b d (omega (arith, h)))

of-word : (word : List ℕ) → length word ≡ 4
    → slice_index word 1 ∷ slice_index word 2 ∷ slice_index word 3 ∷ [] ≡ drop 1 word
of-word [] h = absurd (omega (arith, h))
of-word (a ∷ []) h = absurd (omega (arith, h))
of-word (a ∷ b ∷ []) h = absurd (omega (arith, h))
of-word (a ∷ b ∷ d ∷ []) h = absurd (omega (arith, h))
of-word (a ∷ b ∷ d ∷ e ∷ []) h = refl
of-word (a ∷ b ∷ d ∷ e ∷ f ∷ rest) h = absurd (omega (arith, h))

-- the character of a word is written byte by byte
pub put-bytes : (items word : List ℕ) (start : ℕ) → start + 3 ≤ length items → length word ≡ 4
    → drop start (set (set (set items start (slice_index word 1)) (start + 1) (slice_index word 2))
    (start + 2) (slice_index word 3)) ≡ drop 1 word ++ drop (start + 3) items
put-bytes items word start within size =
    drop-sets items start (slice_index word 1) (slice_index word 2) (slice_index word 3) within
    ∙ ap (λ character. character ++ drop (start + 3) items) (of-word word size)

-- or with the word's first byte, which is 0, before it
pub put-word : (items word : List ℕ) (start : ℕ) → 0 < start → start + 3 ≤ length items
    → length word ≡ 4
    → drop start (set (set (set (set items (start - 1) (slice_index word 0)) start
    (slice_index word 1)) (start + 1) (slice_index word 2)) (start + 2) (slice_index word 3))
    ≡ drop 1 word ++ drop (start + 3) items
put-word items word start spare within size =
    let same : length (set items (start - 1) (slice_index word 0)) ≡ length items =
    length-set items (start - 1) (slice_index word 0) in
    put-bytes (set items (start - 1) (slice_index word 0)) word start (omega (arith, same, within)) size
    ∙ ap (λ rest. drop 1 word ++ rest)
    (drop-set-lt (start + 3) items (start - 1) (slice_index word 0) (omega arith))

-- the bytes of the buffer after a character is written or skipped
pub put-if : (bytes after character : List ℕ) (free taken : ℕ) (is_kept : Bool) → 3 ≤ free
    → length character ≡ 3 → drop (free - 3) after ≡ character ++ drop (free - 3 + 3) bytes
    → taken ≡ (if is_kept then 3 else 0)
    → drop (free - taken) after ≡ (if is_kept then character ++ drop free bytes else drop free bytes)
put-if bytes after character free taken true three size put e =
    let behind : free - 3 + 3 ≡ free = omega (arith, three) in
    rw e (put ∙ ap (λ n. character ++ drop n bytes) behind)
put-if bytes after character free taken false three size put e =
    let behind : free - 3 + 3 ≡ free = omega (arith, three) in
    let same : free - 0 ≡ free = omega arith in
    rw (e, same) (ap (λ n. drop n after) (sym behind) ∙ sym (drop-drop 3 (free - 3) after)
    ∙ ap (drop 3) put ∙ drop_at character (drop (free - 3 + 3) bytes) 3 size
    ∙ ap (λ n. drop n bytes) behind)

-- the characters of the buffer after one more is written or skipped
pub Shows-if : (is_kept : Bool) (c : ℕ) {free next : ℕ} {bytes after character cs : List ℕ}
    → 3 ≤ free → next ≡ (if is_kept then free - 3 else free)
    → drop next after ≡ (if is_kept then character ++ drop free bytes else drop free bytes)
    → length after ≡ length bytes
    → character ≡ encode_utf8 c → takes_three c ≡ true → Shows free bytes cs
    → Shows next after ((if is_kept then c ∷ [] else []) ++ cs)
Shows-if true c three e t l same takes h = record {
  text = t ∙ ap₂ (λ first rest. first ++ rest) same h.text;
  utf8 = rw (t, same) (IsUtf8-append _ _ (IsUtf8-three c takes) h.utf8);
  size = omega (arith, e, l, three, h.size);
}
Shows-if false c three e t l same takes h =
    record { text = t ∙ h.text; utf8 = rw t h.utf8; size = omega (arith, e, l, h.size) }

-- the same for a count
pub Counts-if : (is_kept : Bool) (c : ℕ) {count next : ℕ} {cs : List ℕ}
    → (is_kept ≡ true → next ≡ count + 1) → (is_kept ≡ false → next ≡ count) → takes_three c ≡ true
    → Counts count cs
    → Counts next ((if is_kept then c ∷ [] else []) ++ cs)
Counts-if true c more same t h = record {
  size = omega (arith, more refl, h.size);
  bytes =
      let one = encode-three c t in rw one (omega (arith, h.bytes));
}
Counts-if false c more same t h =
    record { size = omega (arith, same refl, h.size); bytes = h.bytes }

-- if a mark is kept, its character is written
pub kept-char : (variant : ChineseVariant) (case : ChineseCase) (is_kept : Bool) (mark : Mark) (marks : List Mark)
    → map (mark_char variant case) (kept is_kept mark ++ marks) ≡ (if is_kept then mark_char variant case mark ∷ [] else []) ++ map (mark_char variant case) marks
kept-char variant case true mark marks = refl
kept-char variant case false mark marks = refl
