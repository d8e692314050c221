use Rattle.std.proofs.Common.{rules, if◌then◌else◌, ◌+◌, ◌≤◌, length, map, pos, refl, ap, arith}
use Rattle.std.proofs.lemmas.List.{length-map}
use Rattle.cn_core.specs.Characters.{minus_char}
use Rattle.cn_core.specs.Spelling.{spelling}
use Rattle.cn_core.specs.Printing.{mark_char, signed_text}
use Rattle.cn_spell.specs.Working.Room.{Counts}
use Rattle.cn_spell.proofs.Bounds.{marks-fit, most_bytes-le}
use Rattle.cn_spell.proofs.Rooms.{Counts-if}
use Rattle.cn_spell.proofs.ThreeBytes.{three-minus}
use Rattle.cn_spell.proofs.spelled.SpelledText.count.Goals as goal

pub put_spelling-requires-clause-room : goal.put_spelling-requires-clause-room
put_spelling-requires-clause-room g c =
    let self = c.args.self.now in
    let method = g.M.KnownMethod.stands_for in
    let same = ap (λ m. length (spelling m self.sections.number)) c.method.ensures in
    omega (
      arith,
      same,
      marks-fit method (pos self.sections.number) self.printable self.small,
      most_bytes-le method,
    )

pub overflow_add-result : goal.overflow_add-result
overflow_add-result g c =
    let self = c.args.self.now in
    let method = g.M.KnownMethod.stands_for in
    let shown : Counts c.put_spelling.new.pen.characters (map (mark_char self.characters.variant self.characters.case) (spelling method self.sections.number)) = rw c.method.ensures at c.put_spelling.ensures.marks self.characters.variant self.characters.case in
    let few : c.put_spelling.new.pen.characters ≤ 77 =
    omega (arith, marks-fit method (pos self.sections.number) self.printable self.small, most_bytes-le method, shown.size, length-map (spelling method self.sections.number) (mark_char self.characters.variant self.characters.case)) in
    search rules

pub returns : goal.returns
returns g c =
    let self = c.args.self.now in
    let variant = self.characters.variant in
    let case = self.characters.case in
    let method = g.M.KnownMethod.stands_for in
    let count = c.put_spelling.new.pen.characters in
    let shown : Counts count (map (mark_char variant case) (spelling method self.sections.number)) = rw c.method.ensures at c.put_spelling.ensures.marks variant case in
    let signed : Counts (if self.negative then count + 1 else count) (signed_text variant case self.negative (spelling method self.sections.number)) =
    Counts-if self.negative (minus_char variant)
    (λ e. rw e refl) (λ e. rw e refl) (three-minus variant) shown in
    record { count = search (rules, signed.size); bytes = signed.bytes }
