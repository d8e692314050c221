use Rattle.std.proofs.Common.{chars, subst}
use Rattle.std.proofs.lemmas.Result.{on_ok_weaker}
use Rattle.cn_codes.specs.CodesInFigures.{code_characters, ten_text}
use Rattle.cn_codes.proofs.in_figures.put_tens.Goals as goal

pub returns : goal.returns
returns g c =
    on_ok_weaker c.put_characters-2.result
    (λ put. g.met.S.Sink.took_both _ _ _ (code_characters (chars c.args.tens.now)) _
    c.in_ok-put_characters.ensures
    (g.met.S.Sink.took_both _ _ _ (ten_text (chars c.args.tens.now) (chars c.args.ones.now))
    (code_characters (chars c.args.ones.now))
    (subst (g.S.Sink.took c.put_characters.new.sink c.put.new.self) c.ten_text.ensures c.in_ok-put.ensures)
    put)) c.put_characters-2.ensures
