use Rattle.std.proofs.Common.{◌≡◌, length}
use denote.Shadow.{shadow}
use denote.Text.{Utf8}
use Rattle.cn_find.specs.Spans.{in_front}
use Rattle.cn_find.specs.Words.{is_title_open}
use Rattle.cn_find.proofs.words.is_title_open.Given as goal

abbrev pub invariant-looking : goal.invariant-looking
invariant-looking l = record {
  same : is_title_open 40 (in_front l.fn.before) ≡ is_title_open l.left (in_front l.rest);
  utf8 : shadow (Utf8 l.rest);
}

abbrev pub decreases-looking : goal.decreases-looking
decreases-looking l = length l.rest
