use Rattle.std.proofs.Common.{OnOk, sym, subst}
use Rattle.std.proofs.lemmas.Str.{encodes-chars}
use Rattle.cn_replace.proofs.numbers.put_same.Goals as goal

pub returns : goal.returns
returns g c =
    subst (λ bytes. OnOk c.put.result (g.S.Sink.took c.args.sink.now c.put.new.self bytes))
    (sym (encodes-chars c.args.text.now c.utf8.text)) c.put.ensures
