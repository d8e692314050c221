use Rattle.std.proofs.Common.{rules}
use Rattle.cn_core.proofs.EndBuffers.{Prepends-first}
use Rattle.cn_quantity_text.proofs.write_figures.put_figures.Goals as goal

pub returns-clause-text : goal.returns-clause-text
returns-clause-text c =
    let all = Prepends-first _ _ _ c.new-text.ensures.empty c.put_signed.ensures in search (rules, all)
