use Rattle.std.proofs.Common.{◌≡◌, chars, length}
use denote.Shadow.{shadow}
use denote.Text.{Utf8}
use Rattle.cn_find.specs.Spans.{in_front, text_before}
use Rattle.cn_find.proofs.Runs.{IsEnd}
use Rattle.cn_speech.specs.Places.{left_at}
use Rattle.cn_speech.specs.Speech.{left_from}
use Rattle.cn_speech.proofs.speech.next_left.Given as goal

abbrev pub invariant-searching : goal.invariant-searching
invariant-searching l = record {
  same : left_at l.fn.wanted l.fn.text l.fn.meant l.fn.place
      ≡ left_from l.fn.wanted 0 (in_front (text_before l.fn.meant l.ahead)) (chars l.ahead)
      (in_front (text_before l.fn.text l.given)) (chars l.given);
  ends : IsEnd l.fn.meant l.ahead;
  given_ends : IsEnd l.fn.text l.given;
  ahead_utf8 : shadow (Utf8 l.ahead);
  given_utf8 : shadow (Utf8 l.given);
}

abbrev pub decreases-searching : goal.decreases-searching
decreases-searching l = length l.ahead
