use Rattle.std.proofs.Common.{arith}
use Rattle.cn_judge.proofs.Firsts.{firsts-chunk, firsts-next, firsts-none}
use Rattle.cn_judge.proofs.first_bytes.pass_chunks.Goals as goal

pub chunks-init : goal.chunks-init
chunks-init c = record {
  passed = record { within = omega arith; counted = omega (arith, firsts-none c.args.bytes.now) };
}

pub chunks-preserved : goal.chunks-preserved
chunks-preserved c =
    let before = c.chunks.invariant.passed in
    let next = firsts-chunk c.args.bytes.now _ c.chunks.passed before.within c.in-Some.ensures.cases in
    record {
      passed = record {
        within = next.0;
        counted = omega (arith, before.counted, next.1, c.firsts_of-firsts.ensures, c.if-firsts-left.false);
      };
    }

pub last-preserved : goal.last-preserved
last-preserved c =
    let before = c.last.invariant.passed in
    let next = firsts-next c.args.bytes.now c.last.passed in
    record {
      passed = record {
        within = omega (arith, c.last-test.true);
        counted = omega (arith, before.counted, next, c.first_count.ensures, c.if-first_count-eq0.true);
      };
    }
