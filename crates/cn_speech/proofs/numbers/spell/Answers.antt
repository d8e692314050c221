use Rattle.std.proofs.Common.{arith}
use Rattle.cn_core.specs.declared.case.ChineseCase.TheVariants.{Lower}
use Rattle.cn_quantity_text.proofs.SpelledBytes.{spelled-bytes}
use Rattle.cn_speech.proofs.numbers.spell.Goals as goal

pub returns-clause-text : goal.returns-clause-text
returns-clause-text c =
    let voice = c.args.voice in
    (spelled-bytes voice.variant Lower voice.method c.args.n c.in-Ok.text.now
    (omega (arith, c.requires)) c.in-Ok.ensures).characters
