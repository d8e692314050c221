use Rattle.std.proofs.Common.{◌≡◌, ◌-◌, ◌*◌, ◌^◌}
use Rattle.cn_quantity.specs.Trimmed.{decimals_over}
use Rattle.cn_quantity.proofs.Trims.{over_from}
use Rattle.cn_quantity.proofs.trimmed.decimals_over.Given as goal

abbrev pub invariant-loop-decimals : goal.invariant-loop-decimals
invariant-loop-decimals l = record {
  reached : l.reached ≡ l.divisor * 10 ^ l.decimals;
  rest : decimals_over l.divisor l.denominator
      ≡ over_from l.divisor l.denominator l.decimals (39 - l.decimals);
}
