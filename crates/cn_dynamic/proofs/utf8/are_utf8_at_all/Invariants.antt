use Rattle.std.proofs.Common.{length, ◌≡◌}
use Rattle.std.specs.Str.{is_utf8}
use Rattle.cn_dynamic.proofs.utf8.are_utf8_at_all.Given as goal

abbrev pub invariant-characters : goal.invariant-characters
invariant-characters l = is_utf8 l.rest ≡ is_utf8 l.bytes

abbrev pub decreases-characters : goal.decreases-characters
decreases-characters l = length l.rest
