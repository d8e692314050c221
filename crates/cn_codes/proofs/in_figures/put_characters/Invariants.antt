use Rattle.std.proofs.Common.{chars, length}
use denote.Shadow.{shadow}
use denote.Text.{Utf8}
use Rattle.cn_replace.proofs.Texts.{PutSoFar}
use Rattle.cn_codes.specs.CodesInFigures.{code_characters}
use Rattle.cn_codes.proofs.in_figures.put_characters.Given as goal

abbrev pub invariant-putting : goal.invariant-putting
invariant-putting g l = record {
  so_far : PutSoFar g.S.Sink.took (code_characters (chars l.fn.written))
      (code_characters (chars l.rest)) l.fn.sink l.sink;
  utf8 : shadow (Utf8 l.rest);
}

abbrev pub decreases-putting : goal.decreases-putting
decreases-putting g l = length l.rest
