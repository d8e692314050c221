use Rattle.std.proofs.Common.{◌≡◌, true, false, arith, chars, is_some, length-set, rules}
use Rattle.cn_codes.proofs.GroupsRead.{read-last, read-more, read-none}
use Rattle.cn_codes.proofs.groups.read_groups.Goals as goal

pub reading-init : goal.reading-init
reading-init g c = record {
  within = omega arith;
  size = search rules;
  read = read-none (g.D.CharTest.test c.args.digit) (g.S.CharTest.test c.args.sign) c.args.list.now
      (chars c.args.text.now);
  utf8 = search rules;
}

pub returns-then-is_none-clause-groups : goal.returns-then-is_none-clause-groups
returns-then-is_none-clause-groups g c =
    let none : is_some c.group_at-group.result.sign ≡ false = search rules in
    read-last (g.D.CharTest.test c.args.digit) (g.S.CharTest.test c.args.sign) _ c.reading.list
    c.reading.count c.group_at-group.result (chars c.reading.rest.now) c.reading.invariant.read
    (omega arith) c.reading.invariant.size c.group_at-group.ensures none

pub reading-preserved : goal.reading-preserved
reading-preserved g c =
    let some : is_some c.group_at-group.result.sign ≡ true = search rules in
    record {
      within = omega arith;
      size = simp length-set c.reading.invariant.size;
      read = read-more (g.D.CharTest.test c.args.digit) (g.S.CharTest.test c.args.sign) _ c.reading.list
          c.reading.count c.group_at-group.result (chars c.reading.rest.now)
          (chars c.without_first-rest.result.now) c.reading.invariant.read (omega arith)
          c.reading.invariant.size c.group_at-group.ensures some c.without_first-rest.ensures;
      utf8 = search rules;
    }
