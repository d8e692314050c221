use Rattle.std.proofs.Common.{sym, ◌∙◌}
use Rattle.std.proofs.lemmas.Result.{on_ok_weaker}
use Rattle.cn_find.specs.Spans.{span_of}
use Rattle.cn_replace.proofs.Replacing.{put-old}
use Rattle.cn_replace.proofs.chains.put_part.Goals as goal

pub returns-else-branch : goal.returns-else-branch
returns-else-branch g c =
    let span = span_of c.args.found in
    on_ok_weaker c.put.result
    (put-old g.S.Sink.took g.met.S.Sink.took_both _ _ _
    (g.R.Rewriting.new c.args.rewriting span) span.text
    (sym c.in_ok-put_new.ensures.variant ∙ c.if-branch.false) c.in_ok-put_new.ensures.text)
    c.put.ensures
