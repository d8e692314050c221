use Rattle.std.proofs.Common.{chars, length}
use denote.Shadow.{shadow}
use denote.Text.{Utf8}
use Rattle.cn_phrase.specs.MoneyText.{part_text}
use Rattle.cn_replace.proofs.Texts.{PutSoFar}
use Rattle.cn_phrase.proofs.money_text.put_tail.Given as goal

abbrev pub invariant-putting : goal.invariant-putting
invariant-putting g l = record {
  so_far : PutSoFar g.S.Sink.took (part_text (chars l.fn.text)) (part_text (chars l.rest)) l.fn.sink l.sink;
  utf8 : shadow (Utf8 l.rest);
}

abbrev pub decreases-putting : goal.decreases-putting
decreases-putting g l = length l.rest
