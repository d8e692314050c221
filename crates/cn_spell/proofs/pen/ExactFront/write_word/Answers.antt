use Rattle.cn_spell.proofs.Rooms.{put-bytes}
use Rattle.cn_spell.proofs.pen.ExactFront.write_word.Goals as goal

pub returns-clause-text : goal.returns-clause-text
returns-clause-text c =
    put-bytes c.args.bytes.now c.args.word.now c.args.start c.requires.within c.told-word
