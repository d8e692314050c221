use Rattle.std.proofs.Common.{◌≡◌, ◌∙◌, length, drop, arith}
use Rattle.std.proofs.lemmas.List.{length-drop}
use Rattle.cn_spell.proofs.Rooms.{put-if}
use Rattle.cn_spell.proofs.pen.Room.put_if.Goals as goal

pub returns-clause-text : goal.returns-clause-text
returns-clause-text g c =
    let room = c.args.self.now in
    let four : length c.args.word.now ≡ 4 = omega arith in
    let size : length (drop 1 c.args.word.now) ≡ 3 = length-drop 1 c.args.word.now ∙ omega (arith, four) in
    put-if room.bytes.now c.write_word.new.bytes (drop 1 c.args.word.now) room.free c.taken.result
    c.args.is_kept (omega (arith, c.requires)) size c.write_word.ensures.text c.taken.ensures
