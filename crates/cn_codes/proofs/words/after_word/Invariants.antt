use Rattle.std.proofs.Common.{◌≡◌, chars, length}
use denote.Shadow.{shadow}
use denote.Text.{Utf8}
use Rattle.cn_codes.specs.Words.{after_word}
use Rattle.cn_codes.proofs.words.after_word.Given as goal

abbrev pub invariant-comparing : goal.invariant-comparing
invariant-comparing l = record {
  same : after_word (chars l.fn.word) (chars l.fn.text)
      ≡ after_word (chars l.letters) (chars l.rest);
  letters_utf8 : shadow (Utf8 l.letters);
  rest_utf8 : shadow (Utf8 l.rest);
}

abbrev pub decreases-comparing : goal.decreases-comparing
decreases-comparing l = length l.letters
