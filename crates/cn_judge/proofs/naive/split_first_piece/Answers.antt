use Rattle.cn_judge.proofs.DigitRuns.{StartsWith-character}
use Rattle.cn_judge.proofs.naive.split_first_piece.Goals as goal

pub returns-clause-parts : goal.returns-clause-parts
returns-clause-parts c = StartsWith-character _ _ _ _ c.piece_of.ensures c.in_ok-c.ensures.parts.0
