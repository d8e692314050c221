-- Pieces of a text, each written before the one that was written last, if the method writes it.
use Rattle.std.proofs.Common.{◌≡◌, ℕ, ◌+◌, ◌/◌, ◌^◌, ◌≤◌, pos, nat_abs, Bool, true, false, ◌&&◌, List, [], ◌∷◌, ◌++◌, length, encode_utf8_all, Option, Some, None, Result, Ok, Err, refl, sym, ap, subst, ◌∙◌, length-append, arith}
use Rattle.std.proofs.lemmas.Str.{encodes-append}
use Rattle.std.specs.Char.{encode_utf8}
use Rattle.std.specs.List.{list_all}
use Rattle.std.specs.Option.{option_map_or}
use Rattle.cn_core.specs.declared.case.ChineseCase.{ChineseCase}
use Rattle.cn_core.specs.declared.method.ChineseCountMethod.{ChineseCountMethod}
use Rattle.cn_core.specs.declared.script.ChineseVariant.{ChineseVariant}
use Rattle.cn_core.specs.Printing.{is_printable}
use Rattle.cn_quantity.specs.declared.quantity.Quantity.{Quantity}
use Rattle.cn_quantity.specs.Trimmed.{decimals_of}
use Rattle.cn_core.specs.declared.end_buffer.EndBuffer.{EndBuffer}
use Rattle.cn_quantity_text.specs.Numerals.{bar, decimal_text, fraction_text, hundredths, is_written_by, unsigned_text}
use Rattle.cn_core.specs.Buffers.{Prepends}
use Rattle.cn_quantity_text.specs.Working.Putting.{PutsCharacters, PutsIfWritten}
use Rattle.cn_core.proofs.EndBuffers.{Prepends-characters}

-- a written text takes at most the space by which the free space shrank
pub puts-bounded : (old new : EndBuffer) (characters : List ℕ) (most : ℕ)
    → Prepends old new (encode_utf8_all characters) → old.free ≤ new.free + most
    → PutsCharacters old new characters most
puts-bounded old new characters most put room =
    record { put = put; bound = omega (arith, put.free, room) }

-- two pieces
pub pieces : (old mid new : EndBuffer) (front rest : List ℕ) (a b : ℕ)
    → PutsCharacters old mid rest a → PutsCharacters mid new front b
    → PutsCharacters old new (front ++ rest) (b + a)
pieces old mid new front rest a b one two = record {
  put = Prepends-characters old mid new rest front one.put two.put;
  bound =
      let size = ap length (encodes-append front rest)
      ∙ length-append (encode_utf8_all front) (encode_utf8_all rest) in
      omega (arith, size, one.bound, two.bound);
}

-- two pieces, of which the method may not write the second
pub pieces-if : {T E : Type 0} (old mid new : EndBuffer) (front rest : List ℕ) (a b : ℕ)
    (written : Bool) (result : Result T E) → PutsCharacters old mid rest a
    → PutsIfWritten written mid new front b result
    → PutsIfWritten written old new (front ++ rest) (b + a) result
pieces-if old mid new front rest a b written (Ok x) one two =
    (two.0, pieces old mid new front rest a b one two.1)
pieces-if old mid new front rest a b written (Err e) one two = two

-- the same with more free space
pub roomy : (old new : EndBuffer) (characters : List ℕ) (a b : ℕ) → a ≤ b
    → PutsCharacters old new characters a → PutsCharacters old new characters b
roomy old new characters a b less h =
    record { put = h.put; bound = omega (arith, less, h.bound) }

-- if the method writes the first of two numbers, it writes both exactly if it writes the second
pub first-written : {T E : Type 0} (old new : EndBuffer) (characters : List ℕ) (most : ℕ)
    (a b : Bool) (result : Result T E) → b ≡ true
    → PutsIfWritten a old new characters most result
    → PutsIfWritten (a && b) old new characters most result
first-written old new characters most a true result is h = by a h where
  by : (a : Bool) → PutsIfWritten a old new characters most result
      → PutsIfWritten (a && true) old new characters most result
  by true h = h
  by false h = h
first-written old new characters most a false result is h = cc

-- a quantity whose decimals are known, and a quantity that is a fraction
pub text-known : (variant : ChineseVariant) (case : ChineseCase) (method : ChineseCountMethod)
    (q : Quantity) (found : Option ℕ) → found ≡ decimals_of q
    → unsigned_text variant case method q
    ≡ option_map_or (λ decimals. hundredths variant case q.form
    ++ decimal_text variant case method decimals (nat_abs q.numerator)) found
    (fraction_text variant case method q.denominator (nat_abs q.numerator))
text-known variant case method q found is =
    ap (λ found. option_map_or (λ decimals. hundredths variant case q.form
    ++ decimal_text variant case method decimals (nat_abs q.numerator)) found
    (fraction_text variant case method q.denominator (nat_abs q.numerator))) (sym is)

pub written-known : (method : ChineseCountMethod) (q : Quantity) (found : Option ℕ)
    → found ≡ decimals_of q
    → is_written_by method q
    ≡ list_all (λ number. is_printable method (pos number)) (option_map_or
    (λ decimals. nat_abs q.numerator / 10 ^ decimals ∷ []) found
    (q.denominator ∷ nat_abs q.numerator ∷ []))
written-known method q found is =
    ap (λ found. list_all (λ number. is_printable method (pos number)) (option_map_or
    (λ decimals. nat_abs q.numerator / 10 ^ decimals ∷ []) found
    (q.denominator ∷ nat_abs q.numerator ∷ []))) (sym is)

and-true : (b : Bool) → (b && true) ≡ b
and-true true = refl
and-true false = refl

pub written-fraction : (method : ChineseCountMethod) (q : Quantity) → None ≡ decimals_of q
    → (is_printable method (pos q.denominator) && is_printable method (pos (nat_abs q.numerator)))
    ≡ is_written_by method q
written-fraction method q is =
    ap (λ b. is_printable method (pos q.denominator) && b)
    (sym (and-true (is_printable method (pos (nat_abs q.numerator)))))
    ∙ sym (written-known method q None is)

pub written-number : (method : ChineseCountMethod) (q : Quantity) (decimals : ℕ)
    → Some decimals ≡ decimals_of q
    → is_printable method (pos (nat_abs q.numerator / 10 ^ decimals)) ≡ true
    → is_written_by method q ≡ true
written-number method q decimals is printable =
    written-known method q (Some decimals) is
    ∙ and-true (is_printable method (pos (nat_abs q.numerator / 10 ^ decimals))) ∙ printable

-- the bytes of 分之
pub bar-bytes : encode_utf8_all bar ≡ 229 ∷ 136 ∷ 134 ∷ 228 ∷ 185 ∷ 139 ∷ []
unfolding encode_utf8
bar-bytes = refl

pub bar-put : (old new : EndBuffer)
    → Prepends old new (229 ∷ 136 ∷ 134 ∷ 228 ∷ 185 ∷ 139 ∷ [])
    → PutsCharacters old new bar 6
bar-put old new put = record {
  put = subst (Prepends old new) (sym bar-bytes) put;
  bound = omega (arith, ap length bar-bytes);
}
