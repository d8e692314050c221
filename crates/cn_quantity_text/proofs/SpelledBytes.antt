-- A spelled number that is written into a buffer.
use Rattle.std.proofs.Common.{◌≡◌, ℕ, ◌^◌, ◌<◌, ◌≤◌, ◌==◌, pos, int_lt, Bool, true, false, ◌&&◌, List, [], ◌∷◌, length, map, filter, chars, IsUtf8, encode_utf8_all, if◌then◌else◌, refl, sym, ap, ap₂, subst, ◌∙◌, arith}
use Rattle.std.specs.Char.{is_not_whitespace}
use Rattle.std.specs.List.{list_all}
use Rattle.std.proofs.lemmas.Bool.Decides.{nat_tests}
use Rattle.std.proofs.lemmas.Int.{ints}
use Rattle.std.proofs.lemmas.List.{length-map}
use Rattle.std.proofs.lemmas.List.Sums.{count_by-le-length, length-filter}
use Rattle.std.proofs.lemmas.Str.{chars-encodes, encodes-chars}
use Rattle.cn_core.specs.declared.case.ChineseCase.{ChineseCase}
use Rattle.cn_core.specs.declared.case.ChineseCase.TheVariants.{Upper, Lower}
use Rattle.cn_core.specs.declared.method.ChineseCountMethod.{ChineseCountMethod}
use Rattle.cn_core.specs.declared.script.ChineseVariant.{ChineseVariant}
use Rattle.cn_core.specs.declared.script.ChineseVariant.TheVariants.{Traditional, Simple}
use Rattle.cn_core.specs.Characters.{digit_char, unit_char}
use Rattle.cn_core.specs.Mark.{Mark, digit, unit, other}
use Rattle.cn_core.specs.Printing.{is_printable, mark_char, signed_text, spelled_text}
use Rattle.cn_core.specs.Spelling.{spelling}
use Rattle.cn_core.specs.Text.{text_of}
use Rattle.cn_core.proofs.Characters.{takes_three, three-digit}
use Rattle.cn_core.proofs.Fronts.{and-left, and-right, both}
use Rattle.cn_spell.specs.Prints.{PutsSpelled}
use Rattle.cn_spell.proofs.Bounds.{marks-fit, most_bytes-le}
use Rattle.cn_spell.proofs.Printed.{each_below, each_below-at, is_printed}
use Rattle.cn_spell.proofs.ReadByOther.{IsReadBy-own}
use Rattle.cn_spell.proofs.SpelledMarks.{below_square, spelling-printed}
use Rattle.cn_spell.proofs.ThreeBytes.{length-encode_all}
use Rattle.cn_core.specs.declared.end_buffer.EndBuffer.{EndBuffer}
use Rattle.cn_quantity_text.specs.Numerals.{divisor_text, magnitude_text, stand_alone, without_front}
use Rattle.cn_core.specs.Buffers.{Prepends}
use Rattle.cn_quantity_text.specs.Working.Putting.{PutsCharacters}
use Rattle.cn_quantity_text.specs.Working.Spelled.{IsSpelled}
use Rattle.cn_quantity_text.proofs.DecimalTexts.{IsSpelled-magnitude}
use Rattle.cn_quantity_text.proofs.WrittenTexts.{text_of-written}

-- each of its characters is three bytes long
units-three : (variant : ChineseVariant) (case : ChineseCase)
    → each_below (λ rank. takes_three (unit_char variant case rank)) 16 ≡ true
unfolding unit_char
units-three Traditional Upper = refl
units-three Traditional Lower = refl
units-three Simple Upper = refl
units-three Simple Lower = refl

mark-three : (variant : ChineseVariant) (case : ChineseCase) (mark : Mark)
    → is_printed mark ≡ true → takes_three (mark_char variant case mark) ≡ true
mark-three variant case (digit value) h =
    three-digit variant case value (grind (arith, nat_tests, h))
mark-three variant case (unit rank) h =
    each_below-at (λ rank. takes_three (unit_char variant case rank)) 16 rank
    (units-three variant case) (grind (arith, nat_tests, h))
mark-three variant case other h = cc

marks-three : (variant : ChineseVariant) (case : ChineseCase) (marks : List Mark)
    → list_all is_printed marks ≡ true
    → list_all takes_three (map (mark_char variant case) marks) ≡ true
marks-three variant case [] h = refl
marks-three variant case (mark ∷ marks) h =
    both (takes_three (mark_char variant case mark)) _
    (mark-three variant case mark (and-left (is_printed mark) _ h))
    (marks-three variant case marks (and-right (is_printed mark) _ h))

magnitude-size : (variant : ChineseVariant) (case : ChineseCase) (method : ChineseCountMethod)
    (number : ℕ) → number < 2 ^ 128 → is_printable method (pos number) ≡ true
    → length (encode_utf8_all (magnitude_text variant case method number)) ≤ 231
magnitude-size variant case method number small printable =
    let marks = spelling method number in
    let printed = spelling-printed method number (below_square method (pos number) small printable) in
    omega (
      arith,
      length-encode_all (map (mark_char variant case) marks) (marks-three variant case marks printed),
      length-map marks (mark_char variant case),
      marks-fit method (pos number) printable small,
      most_bytes-le method,
    )

-- a magnitude has no sign
spelled-same : (variant : ChineseVariant) (case : ChineseCase) (method : ChineseCountMethod)
    (number : ℕ) → spelled_text variant case method (pos number)
    ≡ magnitude_text variant case method number
spelled-same variant case method number =
    let above : int_lt (pos number) (pos 0) ≡ false = grind (arith, ints, nat_tests) in
    ap (λ b. signed_text variant case b (spelling method number)) above

-- the bytes that the printer writes for it
pub spelled-bytes : (variant : ChineseVariant) (case : ChineseCase) (method : ChineseCountMethod)
    (number : ℕ) (bytes : List ℕ) → number < 2 ^ 128
    → PutsSpelled variant case method (pos number) bytes
    → IsSpelled variant case method number bytes
spelled-bytes variant case method number bytes small puts =
    let text = magnitude_text variant case method number in
    let content : bytes ≡ encode_utf8_all text =
    puts.1.text ∙ ap encode_utf8_all (spelled-same variant case method number) in
    let own = IsReadBy-own method number small
    (below_square method (pos number) small puts.0) in
    let written = (IsSpelled-magnitude variant case method method number small own).written in
    let characters : chars bytes ≡ text =
    ap chars content ∙ chars-encodes text written.scalars in
    record {
      printable = puts.0;
      content = content;
      bound = let size = magnitude-size variant case method number small puts.0 in
          omega (arith, ap length content, size);
      characters = characters;
      plain = ap text_of content ∙ text_of-written text written ∙ sym characters;
    }

few-kept : (p : ℕ → Bool) (xs : List ℕ) → length (filter p xs) ≤ length xs
few-kept p xs = omega (arith, length-filter p xs, count_by-le-length p xs)

-- a text without white space has none after its first character
pub plain-rest : (c : ℕ) (rest : List ℕ) → filter is_not_whitespace (c ∷ rest) ≡ c ∷ rest
    → filter is_not_whitespace rest ≡ rest
plain-rest c rest kept = by (is_not_whitespace c) kept where
  by : (b : Bool)
      → (if b then c ∷ filter is_not_whitespace rest else filter is_not_whitespace rest)
      ≡ c ∷ rest → filter is_not_whitespace rest ≡ rest
  by true h = cc
  by false h =
      let few = few-kept is_not_whitespace rest in
      absurd (omega (arith, few, ap length h))

-- a divisor without its first character, or with it
pub front-by : (front c : ℕ) (rest : List ℕ) (gone : Bool)
    → (c == front && stand_alone rest) ≡ gone
    → without_front front (c ∷ rest) ≡ (if gone then rest else c ∷ rest)
front-by front c rest gone is = ap (λ b. if b then rest else c ∷ rest) is

-- a divisor is written
pub divisor-bytes : (variant : ChineseVariant) (case : ChineseCase) (method : ChineseCountMethod)
    (number front : ℕ) (spelled bytes : List ℕ)
    → IsSpelled variant case method number spelled → front ≡ digit_char variant case 1
    → IsUtf8 bytes → chars bytes ≡ without_front front (chars spelled)
    → bytes ≡ encode_utf8_all (divisor_text variant case method number)
divisor-bytes variant case method number front spelled bytes is one utf8 shorter =
    sym (encodes-chars bytes utf8)
    ∙ ap encode_utf8_all (shorter
    ∙ ap₂ (λ c text. without_front c text) one is.characters)

pub puts-spelled : (old new : EndBuffer) (characters bytes : List ℕ) (most : ℕ)
    → Prepends old new bytes → bytes ≡ encode_utf8_all characters → length bytes ≤ most
    → PutsCharacters old new characters most
puts-spelled old new characters bytes most put is bound = record {
  put = subst (Prepends old new) is put;
  bound = omega (arith, ap length is, bound);
}
