use Rattle.std.proofs.Common.{arith}
use Rattle.cn_spell.proofs.Rooms.{put-word}
use Rattle.cn_spell.proofs.pen.OneSpareFront.write_word.Goals as goal

pub returns-clause-text : goal.returns-clause-text
returns-clause-text c =
    put-word c.args.bytes.now c.args.word.now c.args.start (omega (arith, c.requires.spare))
    c.requires.within c.told-word
