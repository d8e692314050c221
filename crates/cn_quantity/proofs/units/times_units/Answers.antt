use Rattle.std.proofs.Common.{rules, ap, sym, ◌∙◌}
use Rattle.cn_core.specs.Text.{text_of}
use Rattle.cn_quantity.specs.Units.{times_units}
use Rattle.cn_quantity.proofs.Growing.{times-unit, times_units-past}
use Rattle.cn_quantity.proofs.units.times_units.Goals as goal

pub returns-in_err-product : goal.returns-in_err-product
returns-in_err-product c =
    rw c.from_residual.ensures
    (sym (times_units-past c.args.method c.args.number c.multiplying.product _ _
    (text_of c.args.text.now) _ _ c.multiplying.invariant.same c.in-Some.ensures.parts.text
    (search rules) c.in_err-product.ensures))

pub multiplying-preserved-in_ok-product : goal.multiplying-preserved-in_ok-product
multiplying-preserved-in_ok-product c = record {
  same =
      rw c.in_ok-product.ensures.1 (sym (times-unit c.args.method c.multiplying.product c.in-Some.c _
      (text_of c.in-Some.after.now) (search rules) c.in_ok-product.ensures.0.0)
      ∙ ap (times_units c.args.method c.multiplying.product) (sym c.in-Some.ensures.parts.text)
      ∙ c.multiplying.invariant.same);
  fits = search rules;
  utf8 = search rules;
}
