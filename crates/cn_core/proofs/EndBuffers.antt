-- The contents of a buffer after a text is written.
use Rattle.std.proofs.Common.{◌≡◌, ℕ, ◌+◌, ◌-◌, ◌≤◌, List, [], ◌∷◌, ◌++◌, length, take, drop, encode_utf8, encode_utf8_all, refl, sym, ap, subst, ◌∙◌, append-nil, append_assoc, length-append, length-drop, arith}
use Rattle.std.proofs.lemmas.List.{drop-drop, drop_all, drop_at, length-take-le}
use Rattle.std.proofs.lemmas.Str.{encodes-append}
use borrow.Rule.Slice.PartMut.{put_mid}
use Rattle.cn_core.specs.declared.end_buffer.EndBuffer.{EndBuffer}
use Rattle.cn_core.specs.Buffers.{Prepends, text_at_end}

-- a part of a list is overwritten, and is before the items that followed it
pub put-front : (start free : ℕ) (items more : List ℕ) → start ≤ free → free ≤ length items
    → drop start (put_mid start (free - start) items more) ≡ more ++ drop free items
put-front start free items more before within =
    let e : start + (free - start) ≡ free = omega (arith, before) in
    drop_at (take start items) (more ++ drop (free - start) (drop start items)) start
    (length-take-le start items (omega (arith, before, within)))
    ∙ ap (λ rest. more ++ rest)
    (drop-drop (free - start) start items ∙ ap (λ n. drop n items) e)

pub put-size : (start free : ℕ) (items more : List ℕ) → start + length more ≡ free
    → free ≤ length items → length (put_mid start (free - start) items more) ≡ length items
put-size start free items more end within =
    omega (
      arith,
      end,
      within,
      length-append (take start items) (more ++ drop (free - start) (drop start items)),
      length-append more (drop (free - start) (drop start items)),
      length-take-le start items (omega (arith, end, within)),
      length-drop (free - start) (drop start items),
      length-drop start items,
    )

-- nothing is written
pub Prepends-none : (buffer : EndBuffer) → Prepends buffer buffer []
Prepends-none buffer =
    record { size = refl; free = omega arith; text = refl }

-- two texts, the second before the first
pub Prepends-both : (old mid new : EndBuffer) (first second : List ℕ) → Prepends old mid first
    → Prepends mid new second → Prepends old new (second ++ first)
Prepends-both old mid new first second one two = record {
  size = two.size ∙ one.size;
  free = omega (arith, length-append second first, one.free, two.free);
  text = two.text ∙ ap (λ rest. second ++ rest) one.text
      ∙ sym (append_assoc second first (text_at_end old));
}

-- the free space after a text is written follows from the text
pub Prepends-text : (old new : EndBuffer) (more : List ℕ)
    → length new.bytes.now ≡ length old.bytes.now → text_at_end new ≡ more ++ text_at_end old
    → Prepends old new more
Prepends-text old new more size text = record {
  size = size;
  free = omega (
    arith,
    size,
    ap length text,
    length-append more (text_at_end old),
    length-drop new.free new.bytes.now,
    length-drop old.free old.bytes.now,
    new.within,
    old.within,
  );
  text = text;
}

-- two runs of characters, the second before the first
pub Prepends-characters : (old mid new : EndBuffer) (first second : List ℕ)
    → Prepends old mid (encode_utf8_all first) → Prepends mid new (encode_utf8_all second)
    → Prepends old new (encode_utf8_all (second ++ first))
Prepends-characters old mid new first second one two =
    subst (Prepends old new) (sym (encodes-append second first))
    (Prepends-both old mid new _ _ one two)

-- a character before others
pub Prepends-character : (old mid new : EndBuffer) (c : ℕ) (rest : List ℕ)
    → Prepends old mid (encode_utf8_all rest) → Prepends mid new (encode_utf8 c)
    → Prepends old new (encode_utf8_all (c ∷ rest))
Prepends-character old mid new c rest one two = Prepends-both old mid new _ _ one two

-- a buffer that was empty holds exactly the text that was written
pub Prepends-first : (old new : EndBuffer) (bytes : List ℕ) → old.free ≡ length old.bytes.now
    → Prepends old new bytes → text_at_end new ≡ bytes
Prepends-first old new bytes empty put =
    put.text
    ∙ ap (λ rest. bytes ++ rest) (drop_all old.free old.bytes.now (omega (arith, empty)))
    ∙ append-nil bytes
