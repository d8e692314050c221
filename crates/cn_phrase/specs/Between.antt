-- Parts of a text.
use Rattle.std.specs.Prelude.{ℕ, ◌-◌, List, length, take, reverse, encode_utf8_all}
use Rattle.cn_find.specs.Spans.{Span}

-- the characters of a text before one of its suffixes
abbrev pub characters_before : List ℕ → List ℕ → List ℕ
characters_before text rest = take (length text - length rest) text

-- what is between the characters before a suffix `text` and its own suffix `rest`, with the text
-- before it and the text after it; of the characters before it the nearest is the first
abbrev pub part_between : List ℕ → List ℕ → List ℕ → Span
part_between front text rest = record {
  before = encode_utf8_all (reverse front);
  text = encode_utf8_all (characters_before text rest);
  after = encode_utf8_all rest;
}
