use Rattle.std.proofs.Common.{◌+◌, ◌≤◌, length, chars}
use Rattle.cn_judge.specs.Piece.{StandsAt}
use Rattle.cn_judge.proofs.space.skip_spaces.Given as goal

abbrev pub invariant-skipping : goal.invariant-skipping
invariant-skipping l = record {
  at : StandsAt l.fn.text (chars l.behind.rest.now) l.behind.skipped 0;
  within : l.behind.skipped + length l.behind.rest.now ≤ length l.fn.text;
}

abbrev pub decreases-skipping : goal.decreases-skipping
decreases-skipping l = length l.behind.rest.now
