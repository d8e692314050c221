use Rattle.std.proofs.Common.{◌≡◌, ◌-◌, ◌≤◌, chars, length}
use denote.Shadow.{shadow}
use denote.Text.{Utf8}
use Rattle.cn_codes.specs.Groups.{groups_of}
use Rattle.cn_codes.proofs.GroupsRead.{GroupsRead}
use Rattle.cn_codes.proofs.groups.read_groups.Given as goal

abbrev pub invariant-reading : goal.invariant-reading
invariant-reading g l = record {
  within : l.count ≤ 9;
  size : length l.list ≡ 9;
  read : GroupsRead (g.D.CharTest.test l.digit) (g.S.CharTest.test l.sign)
      (groups_of (g.D.CharTest.test l.digit) (g.S.CharTest.test l.sign) (chars l.fn.text))
      l.list l.count (chars l.rest);
  utf8 : shadow (Utf8 l.rest);
}

abbrev pub decreases-reading : goal.decreases-reading
decreases-reading g l = 9 - l.count
