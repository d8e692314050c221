use Rattle.std.proofs.Common.{◌≡◌, ◌%◌, arith, ◌∙◌, nat_abs, ap, rules}
use mir.Syntax.{w128}
use mir.Val.{SFits}
use Rattle.std.proofs.lemmas.Int.{to_z-of_z}
use Rattle.cn_quantity.proofs.WholeQuantities.{whole-answer, whole-none}
use Rattle.cn_quantity.proofs.quantity.Quantity.to_whole.Goals as goal

pub returns-then-rest-gt0 : goal.returns-then-rest-gt0
returns-then-rest-gt0 g c = λ n times _.
    let fits : SFits w128 c.args.self.numerator = search rules in
    let same = to_z-of_z w128 c.args.self.numerator fits in
    let size : c.unsigned_abs-magnitude.result ≡ nat_abs c.args.self.numerator =
    c.unsigned_abs-magnitude.ensures.value ∙ ap nat_abs same in
    let none = whole-none c.args.self.numerator n c.args.self.denominator times.exact in
    let rest = ap (λ m. m % c.args.self.denominator) size in
    omega (arith, none, rest)

pub returns : goal.returns
returns g c =
    let fits : SFits w128 c.args.self.numerator = search rules in
    let same = to_z-of_z w128 c.args.self.numerator fits in
    let size : c.unsigned_abs-magnitude.result ≡ nat_abs c.args.self.numerator =
    c.unsigned_abs-magnitude.ensures.value ∙ ap nat_abs same in
    let found = simp same at c.from_magnitude.ensures in
    whole-answer g.T.Whole.kind g.T.Whole.number c.args.self.numerator c.args.self.denominator _ _
    (omega arith) size c.if-rest-gt0.false found.value found.held
