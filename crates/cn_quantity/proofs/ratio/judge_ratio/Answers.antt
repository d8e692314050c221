use Rattle.std.proofs.Common.{ap, sym, ◌∙◌}
use Rattle.cn_core.specs.Text.{text_of}
use Rattle.cn_judge.specs.Piece.{answer_at}
use Rattle.cn_quantity.proofs.Ratios.{mixed-is, simple-is}
use Rattle.cn_quantity.proofs.ratio.judge_ratio.Goals as goal

pub returns-in-Some : goal.returns-in-Some
returns-in-Some c = mixed-is c.args.method c.args.skipped c.args.text.now _ c.in-Some.ensures

pub returns-in-None : goal.returns-in-None
returns-in-None c =
    c.judge_simple.ensures
    ∙ ap (answer_at c.args.skipped c.args.text.now)
    (sym (simple-is c.args.method (text_of c.args.text.now) (sym c.in-None.ensures)))
