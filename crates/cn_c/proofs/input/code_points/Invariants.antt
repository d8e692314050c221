use Rattle.std.proofs.Common.{◌≡◌, length, take}
use Rattle.cn_c.proofs.input.code_points.Given as goal

abbrev pub invariant-loop-character : goal.invariant-loop-character
invariant-loop-character l = record {
  count : l.count ≡ l.character-index;
  size : length l.points ≡ 48;
  points : take l.character-index l.points ≡ take l.character-index l.fn.characters;
}
