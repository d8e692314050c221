use Rattle.std.proofs.Common.{◌≡◌, ◌-◌, chars, drop, length}
use denote.Shadow.{shadow}
use denote.Text.{Utf8}
use Rattle.cn_find.proofs.Runs.{IsEnd}
use Rattle.cn_phrase.specs.Suffix.{EndsWith}
use Rattle.cn_speech.proofs.speech.after_as_many.Given as goal

abbrev pub invariant-passing : goal.invariant-passing
invariant-passing l = record {
  ends : EndsWith (chars l.left) (chars l.fn.rest);
  same : drop (length (chars l.left) - length (chars l.fn.rest)) (chars l.next)
      ≡ drop (length (chars l.fn.ahead) - length (chars l.fn.rest)) (chars l.fn.given);
  given : IsEnd l.fn.given l.next;
  left_utf8 : shadow (Utf8 l.left);
  next_utf8 : shadow (Utf8 l.next);
}

abbrev pub decreases-passing : goal.decreases-passing
decreases-passing l = length l.left
