use Rattle.std.proofs.Common.{◌≡◌, length}
use denote.Shadow.{shadow}
use denote.Text.{Utf8}
use Rattle.cn_find.specs.Spans.{in_front}
use Rattle.cn_codes.specs.Words.{after_word}
use Rattle.cn_codes.proofs.words.before_word.Given as goal

abbrev pub invariant-comparing : goal.invariant-comparing
invariant-comparing l = record {
  same : after_word (in_front l.fn.word) (in_front l.fn.before)
      ≡ after_word (in_front l.letters) (in_front l.front);
  letters_utf8 : shadow (Utf8 l.letters);
  front_utf8 : shadow (Utf8 l.front);
}

abbrev pub decreases-comparing : goal.decreases-comparing
decreases-comparing l = length (in_front l.letters)
