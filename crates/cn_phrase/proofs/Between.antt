-- Parts of a text, and where the next ones begin.
use Rattle.std.proofs.Common.{◌==◌, Bool, ◌≡◌, ℕ, ◌-◌, true, false, Option, Some, None, List, [], ◌∷◌, ◌++◌, length, take, chars, IsUtf8, refl, sym, ap, ◌∙◌, arith, append_assoc, length-append, reverse, encode_utf8_all, drop}
use Rattle.std.proofs.Math.Seq.{drop-append_seam, take-append_seam}
use Rattle.std.proofs.Math.Utf8.{scalars}
use Rattle.std.proofs.lemmas.List.{reverse-append, reverse-reverse}
use Rattle.std.proofs.lemmas.Str.{IsUtf8-append, chars-append, chars-encodes, encodes-append, encodes-chars, scalars-chars}
use Rattle.std.specs.List.{list_all}
use Rattle.std.specs.Option.{option_map, option_map_or}
use Rattle.cn_find.specs.declared.wanted.Wanted.{Wanted}
use Rattle.cn_find.specs.Expressions.{expression_rule}
use Rattle.cn_find.specs.Spans.{Span, in_front, run_after, text_before}
use Rattle.cn_find.proofs.RunLaws.{scalars-end}
use Rattle.cn_find.proofs.Runs.{seam-front, IsEnd, Passed, Passed-of}
use Rattle.cn_replace.specs.Chains.{IsPart}
use Rattle.cn_phrase.specs.Between.{characters_before, part_between}
use Rattle.cn_phrase.specs.Items.{ends_whole}
use Rattle.cn_phrase.specs.Ranges.{is_great, is_link, linked, units_of}
use Rattle.cn_phrase.specs.Suffix.{EndsWith}
use Rattle.cn_phrase.proofs.Suffixes.{Ends-again}

-- the characters before a suffix
pub front-is : (text front rest suffix : List ℕ) → text ≡ front ++ suffix → suffix ≡ rest
    → characters_before text rest ≡ front
front-is text front rest suffix parts same =
    ap (λ l. take (length l - length rest) l) (parts ∙ ap (λ l. front ++ l) same)
    ∙ ap (λ n. take n (front ++ rest)) (omega (arith, length-append front rest))
    ∙ take-append_seam front rest

-- the characters of a text before one of its suffixes are those of the bytes before it
pub characters-before : (ahead rest text : List ℕ) → ahead ≡ text ++ rest → IsUtf8 text
    → characters_before (chars ahead) (chars rest) ≡ chars text
characters-before ahead rest text parts utf8 = front-is (chars ahead) (chars text) (chars rest)
    (chars rest) (ap chars parts ∙ chars-append text rest utf8) refl

pub part-span : (whole ahead rest before text : List ℕ) → before ≡ text_before whole ahead
    → text ≡ text_before ahead rest → IsEnd ahead rest → IsUtf8 before → IsUtf8 text → IsUtf8 rest
    → record { before = before; text = text; after = rest }
    ≡ part_between (in_front (text_before whole ahead)) (chars ahead) (chars rest)
part-span whole ahead rest before text at cut ends before_utf8 text_utf8 rest_utf8 = sym (rw (
  sym at,
  characters-before ahead rest text (sym ends ∙ ap (λ l. l ++ rest) (sym cut)) text_utf8,
  encodes-chars text text_utf8,
  encodes-chars rest rest_utf8,
  reverse-reverse (chars before),
  encodes-chars before before_utf8,
) refl)

-- the text after a part of a text and one more character
pub after-part : (whole : List ℕ) (span : Span) (after : List ℕ) (c : ℕ) → IsPart whole span
    → IsUtf8 span.before → IsUtf8 span.text → IsUtf8 span.after → IsUtf8 after
    → chars span.after ≡ c ∷ chars after → Passed whole (span.before ++ span.text) after c
after-part whole span after c part before_utf8 text_utf8 utf8 ended parts =
    Passed-of whole (span.before ++ span.text) span.after after c
    (part ∙ sym (append_assoc span.before span.text span.after))
    (IsUtf8-append span.before span.text before_utf8 text_utf8) utf8 ended parts

-- a character that is not a unit, or is before one that is not, is before the units of a text
pub units-next : (text : List ℕ) (c : ℕ) (more : List ℕ) → text ≡ c ∷ more
    → list_all is_great text ≡ false → units_of text ≡ units_of more
units-next text c more parts none =
    ap units_of parts ∙ rw (ap (list_all is_great) (sym parts) ∙ none) refl

-- a suffix without its first character is a suffix
pub Ends-next : (text rest more : List ℕ) (c : ℕ) → EndsWith text rest → rest ≡ c ∷ more
    → EndsWith text more
Ends-next text rest more c h parts = Ends-again text rest more h (c ∷ [], parts)

-- two expressions with a link between them
module _ (wanted : Wanted) (low : Span) (after at front : List ℕ) (c : ℕ)
    (parts : after ≡ c ∷ at) (link : is_link c ≡ true) (here : front ≡ c ∷ in_front (low.before ++ low.text)) where
  abbrev run : Option (List ℕ)
  run = run_after (expression_rule wanted) front at

  linked-here : linked wanted low after ≡ option_map (λ rest. record {
    low = low;
    link = c;
    high = part_between front at rest;
    rest = rest;
  }) run
  linked-here = ap (linked wanted low) parts ∙ rw (link, here) refl

  pub linked-none : None ≡ run → None ≡ linked wanted low after
  linked-none none = sym (linked-here ∙ rw (sym none) refl)

  pub linked-some : (high : Span) (rest : List ℕ) → Some high ≡ option_map (part_between front at) run
      → Some rest ≡ run
      → Some (record { low = low; link = c; high = high; rest = rest }) ≡ linked wanted low after
  linked-some high rest span some = sym (linked-here ∙ rw (sym some) (
      ap (option_map (λ h. record { low = low; link = c; high = h; rest = rest })) (sym (
      span ∙ ap (option_map (part_between front at)) (sym some)))))

-- the characters of a text, by its last one
last-character : (text front : List ℕ) (c : ℕ) → in_front text ≡ c ∷ in_front front
    → chars text ≡ chars front ++ c ∷ []
last-character text front c e =
    sym (reverse-reverse (chars text))
    ∙ ap reverse (e ∙ sym (reverse-append (chars front) (c ∷ [])))
    ∙ reverse-reverse (chars front ++ c ∷ [])

-- a suffix, and the one that begins one character before it
pub record IsBefore (whole front last rest : List ℕ) (c : ℕ) : Type 0 where
  pub parts : whole ≡ front ++ last
  pub chars_are : chars last ≡ c ∷ chars rest
  pub utf8 : IsUtf8 last

pub before-rest : (whole before front rest : List ℕ) (c : ℕ) → before ++ rest ≡ whole
    → IsUtf8 before → IsUtf8 front → IsUtf8 rest → in_front before ≡ c ∷ in_front front
    → IsBefore whole front (encode_utf8_all (c ∷ []) ++ rest) rest c
before-rest whole before front rest c cut utf8 front_utf8 ended e = record {
  parts = sym cut ∙ ap (λ l. l ++ rest) bytes ∙ append_assoc front (encode_utf8_all (c ∷ [])) rest;
  chars_are = chars-append (encode_utf8_all (c ∷ [])) rest one
      ∙ ap (λ l. l ++ chars rest) (chars-encodes (c ∷ []) scalar_c);
  utf8 = IsUtf8-append (encode_utf8_all (c ∷ [])) rest one ended;
} where
  characters : chars before ≡ chars front ++ c ∷ []
  characters = last-character before front c e

  bytes : before ≡ front ++ encode_utf8_all (c ∷ [])
  bytes = sym (encodes-chars before utf8) ∙ ap encode_utf8_all characters
      ∙ encodes-append (chars front) (c ∷ [])
      ∙ ap (λ l. l ++ encode_utf8_all (c ∷ [])) (encodes-chars front front_utf8)

  scalar_c : scalars (c ∷ []) ≡ true
  scalar_c = scalars-end (chars front) (c ∷ [])
      (ap scalars (sym characters) ∙ scalars-chars before utf8)

  one : IsUtf8 (encode_utf8_all (c ∷ []))
  one = (c ∷ [], (scalar_c, refl))

-- so is a text after its first part
pub drop-parts : (whole front last : List ℕ) → whole ≡ front ++ last → drop (length front) whole ≡ last
drop-parts whole front last parts =
    ap (drop (length front)) parts ∙ drop-append_seam front last

-- an expression that goes on from the last character of a text ends with the text
abbrev pub ends_with_it : List ℕ → Option (List ℕ) → Bool
ends_with_it rest run =
    option_map_or (λ after. length (encode_utf8_all after) == length (encode_utf8_all rest)) run true

-- whether a text ends within an expression, by what is after the expression
module _ (wanted : Wanted) (whole front last rest : List ℕ) (c : ℕ) (before : List ℕ)
    (at : text_before whole rest ≡ before) (e : in_front before ≡ c ∷ in_front front)
    (parts : whole ≡ front ++ last) (last_is : chars last ≡ c ∷ chars rest) where
  ends-is : ends_whole wanted (in_front (text_before whole rest)) (chars rest)
      ≡ ends_with_it (chars rest)
      (run_after (expression_rule wanted) (in_front (text_before whole last)) (chars last))
  ends-is =
      ap (λ l. ends_whole wanted l (chars rest)) (ap in_front at ∙ e)
      ∙ ap (ends_with_it (chars rest))
      (ap (run_after (expression_rule wanted) (in_front front)) (sym last_is)
      ∙ ap (λ l. run_after (expression_rule wanted) (in_front l) (chars last))
      (sym (seam-front whole front last parts)))

  pub whole-some : (after : List ℕ) → IsUtf8 rest → IsUtf8 after
      → run_after (expression_rule wanted) (in_front (text_before whole last)) (chars last)
      ≡ Some (chars after)
      → ends_whole wanted (in_front (text_before whole rest)) (chars rest)
      ≡ (length after == length rest)
  whole-some after utf8 ended run =
      ends-is ∙ ap (ends_with_it (chars rest)) run
      ∙ rw (encodes-chars after ended, encodes-chars rest utf8) refl

  pub whole-none : run_after (expression_rule wanted) (in_front (text_before whole last)) (chars last)
      ≡ None → ends_whole wanted (in_front (text_before whole rest)) (chars rest) ≡ true
  whole-none run = ends-is ∙ ap (ends_with_it (chars rest)) run
