use Rattle.std.proofs.Common.{ap, subst}
use Rattle.std.proofs.lemmas.Result.{on_ok_weaker}
use Rattle.cn_replace.specs.Chains.{in_chains}
use Rattle.cn_codes.specs.CodesInText.{rest_here, span_holds, text_for_span, text_with_codes}
use Rattle.cn_codes.proofs.PartsFound.{all-left}
use Rattle.cn_codes.proofs.with_codes.put_coded.Goals as goal

pub returns : goal.returns
unfolding text_with_codes
returns g c =
    let items = c.args.with_codes.items in
    let how = items.replacement in
    on_ok_weaker c.put_in_chains.result
    (subst (g.S.Sink.took c.args.sink.now _)
    (ap (in_chains (text_for_span how.method how.figures items.wanted)
    (span_holds how.method how.figures items.wanted) c.args.text.now)
    (all-left (rest_here items.wanted) c.args.text.now)))
    c.put_in_chains.ensures
