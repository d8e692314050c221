use Rattle.std.proofs.Common.{rules, ◌≡◌, ◌∙◌, ap, subst}
use Rattle.cn_core.specs.Spelling.{spelling}
use Rattle.cn_core.specs.Printing.{signed_text}
use Rattle.cn_spell.specs.Working.Room.{Shows}
use Rattle.cn_spell.proofs.spelled.SpelledText.fill.Goals as goal

pub returns : goal.returns
returns g c =
    let self = c.args.self.now in
    let room = c.put_sign.new.self in
    let marks = spelling g.M.KnownMethod.stands_for self.sections.number in
    let lender : room.bytes.ghost_name ≡ c.new-room.result.bytes.ghost_name =
    c.put_sign.ensures.lender ∙ ap (λ s. s.0) c.put_spelling.ensures.setting in
    let characters = ap (λ s. s.1) c.put_spelling.ensures.setting ∙ c.new-room.ensures.characters in
    let shows : Shows room.free room.bytes.now (signed_text self.characters.variant self.characters.case self.negative marks) =
    subst (λ used. Shows room.free room.bytes.now (signed_text used.variant used.case self.negative marks)) characters
    (c.put_sign.ensures.shows _ (rw c.method.ensures at c.put_spelling.ensures.marks)) in
    search (rules, lender, shows)
