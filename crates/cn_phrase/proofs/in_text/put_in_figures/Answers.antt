use Rattle.std.proofs.Common.{ap, subst}
use Rattle.std.proofs.lemmas.Result.{on_ok_weaker}
use Rattle.cn_replace.specs.Chains.{in_chains}
use Rattle.cn_phrase.specs.InText.{item_holds, text_for_item, text_in_figures}
use Rattle.cn_phrase.proofs.ItemsFound.{all-left}
use Rattle.cn_phrase.proofs.in_text.put_in_figures.Goals as goal

pub returns : goal.returns
unfolding text_in_figures
returns g c =
    let how = c.args.in_text.replacement in
    on_ok_weaker c.put_in_chains.result
    (subst (g.S.Sink.took c.args.sink.now _)
    (ap (in_chains (text_for_item how.method how.figures c.args.in_text.wanted)
    (item_holds how.method how.figures c.args.in_text.wanted) c.args.text.now)
    (all-left c.args.in_text.wanted c.args.text.now)))
    c.put_in_chains.ensures
