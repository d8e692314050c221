use Rattle.std.proofs.Common.{◌+◌, ◌/◌, ◌%◌, ◌^◌, ◌≤◌, refl, ap, ◌∙◌, arith, length-set}
use Rattle.cn_spell.proofs.SectionCuts.{cut-more, cut-few, each-more, each-part}
use Rattle.cn_spell.proofs.sections.take_sections.Goals as goal

pub put_part-requires : goal.put_part-requires
put_part-requires c =
    let l = c.loop-left in
    let few = cut-few c.args.magnitude l.count 4 l.left (omega arith) l.invariant.split
    (omega arith) in
    record { part = omega arith; room = omega (arith, few, l.invariant.size) }

pub loop-left-preserved : goal.loop-left-preserved
loop-left-preserved c =
    let l = c.loop-left in
    let number = c.args.magnitude in
    let part = c.split_part-next.ensures.part in
    let put = c.put_part.ensures in
    record {
      split = c.split_part-next.ensures.above ∙ cut-more number l.count 4 l.left l.invariant.split;
      each = each-part number l.count l.left l.sections c.put_part.new.sections l.invariant.split
          l.invariant.each put.lower
          (put.first ∙ ap (λ n. n % 10 ^ 4) part) (put.second ∙ ap (λ n. n / 10 ^ 4 % 10 ^ 4) part)
          (put.third ∙ ap (λ n. n / 10 ^ 8 % 10 ^ 4) part) (put.fourth
          ∙ ap (λ n. n / 10 ^ 12) part);
      some = λ h. omega arith;
      few = cut-few number l.count 4 l.left (omega arith) l.invariant.split (omega arith);
      size = put.length ∙ l.invariant.size;
    }

pub loop-above-preserved : goal.loop-above-preserved
loop-above-preserved c =
    let l = c.loop-above in
    let number = c.args.magnitude in
    let few : l.count + 1 ≤ 9 = cut-few number l.count 1 l.above (omega arith) l.invariant.split
    (omega arith) in
    record {
      split = cut-more number l.count 1 l.above l.invariant.split;
      each = each-more number l.count l.above (l.above % 10 ^ 4) l.sections
          (omega (arith, few, l.invariant.size)) l.invariant.split refl l.invariant.each;
      some = λ h. omega arith;
      few = few;
      size = simp length-set l.invariant.size;
    }
