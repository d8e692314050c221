use Rattle.std.proofs.Common.{◌≡◌, length}
use denote.Shadow.{shadow}
use denote.Text.{Utf8}
use Rattle.cn_find.specs.Spans.{in_front}
use Rattle.cn_replace.specs.Pieces.{after_leading}
use Rattle.cn_speech.proofs.numbers.without_last.Given as goal

abbrev pub invariant-passing : goal.invariant-passing
invariant-passing g l = record {
  same : after_leading (g.T.CharTest.test l.test) (in_front l.fn.text)
      ≡ after_leading (g.T.CharTest.test l.test) (in_front l.front);
  utf8 : shadow (Utf8 l.front);
}

abbrev pub decreases-passing : goal.decreases-passing
decreases-passing g l = length (in_front l.front)
