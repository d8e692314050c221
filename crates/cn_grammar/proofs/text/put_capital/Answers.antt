use Rattle.std.proofs.Common.{subst}
use Rattle.std.specs.Char.{encode_utf8}
use Rattle.cn_core.specs.Buffers.{Appends}
use Rattle.cn_grammar.proofs.Puts.{puts-one}
use Rattle.cn_grammar.proofs.text.put_capital.Goals as goal

pub returns : goal.returns
returns g c = puts-one _ c.args.hand _ _ c.args.capital
    (subst (λ one. Appends c.args.text.now c.put_char.new.self (encode_utf8 one)) c.character.ensures
    c.put_char.ensures)
