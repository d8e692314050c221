use Rattle.std.proofs.Common.{rules, ◌≡◌, ℕ, ◌+◌, ◌*◌, ◌%◌, ◌^◌, ◌<◌, ◌≤◌, ◌++◌, length, ap, ◌∙◌, arith, length-append}
use Rattle.cn_core.proofs.Cuts.{part}
use Rattle.cn_spell.specs.Working.Sections.{section_marks}
use Rattle.cn_spell.specs.Working.Units.{units_behind}
use Rattle.cn_spell.proofs.Walks.{digits_at, lower-same, Fills-more}
use Rattle.cn_spell.proofs.Tops.{Fills-none}
use Rattle.cn_spell.proofs.SectionWalks.{section-more, room-more, spelling-end}
use Rattle.cn_spell.proofs.spell.put_spelling.Goals.{then-section-gt0, else-section-gt0}
use Rattle.cn_spell.proofs.spell.put_spelling.Goals as goal

pub put_units-requires-clause-room : goal.put_units-requires-clause-room
put_units-requires-clause-room g c =
    let l = c.loop-index in
    let sections = c.args.sections.now in
    let value = sections.holds.each l.index c.loop-index-test.true in
    let room = room-more c.args.method sections.number sections.count l.index
    sections.above l.filled sections.holds c.requires.count c.requires.above c.loop-index-test.true
    (omega (arith, value, c.if-section-gt0.true)) l.invariant.under l.invariant.fills in
    omega (arith, room, l.invariant.room, c.requires.room)

pub put_section-requires-clause-room : goal.put_section-requires-clause-room
put_section-requires-clause-room g c =
    let l = c.loop-index in
    let sections = c.args.sections.now in
    let value = sections.holds.each l.index c.loop-index-test.true in
    let room = room-more c.args.method sections.number sections.count l.index
    sections.above l.filled sections.holds c.requires.count c.requires.above c.loop-index-test.true
    (omega (arith, value, c.if-section-gt0.true)) l.invariant.under l.invariant.fills in
    let same = ap (λ n. length (section_marks n)) value in
    omega (arith, same, room, l.invariant.room, c.requires.room, c.put_units.ensures.room)

pub loop-index-init : goal.loop-index-init
loop-index-init g c = search (rules, Fills-none)

pub loop-index-preserved : goal.loop-index-preserved
loop-index-preserved g c =
    let l = c.loop-index in
    let method = c.args.method in
    let sections = c.args.sections.now in
    let number : ℕ = sections.number in
    let power : ℕ = 4 * l.index in
    let next : 4 * (l.index + 1) ≡ 4 * l.index + 4 = omega arith in
    let value = sections.holds.each l.index c.loop-index-test.true in
    elim c.if-section-gt0.branch [
      | then-section-gt0 w ↦
          let pos : 0 < digits_at 4 number power = omega (arith, value, w.if-section-gt0.true) in
          let more = section-more method number l.index l.filled (omega (arith, c.requires.count, c.loop-index-test.true)) pos l.invariant.under l.invariant.fills in
          let size = w.digits_of.result in
          let below : digits_at 4 number power < 10 ^ size = omega (arith, value, w.digits_of.ensures.below) in
          let reach : 10 ^ size ≤ 10 * digits_at 4 number power = omega (arith, value, w.digits_of.ensures.reach) in
          let same = ap (λ n. length (section_marks n)) value in
          let marks = w.put_section.ensures.marks (units_behind method power l.filled ++ part method (number % 10 ^ power)) (w.put_units.ensures.marks (part method (number % 10 ^ power)) l.invariant.marks) in
          rw (w.pen-is, w.filled-is, next, more) (record {
            fills = Fills-more 4 number power size below reach;
            under = omega (arith, w.digits_of.ensures.most);
            room = omega (arith, same, length-append (section_marks (digits_at 4 number power)) (units_behind method power l.filled ++ part method (number % 10 ^ power)), length-append (units_behind method power l.filled) (part method (number % 10 ^ power)), l.invariant.room, w.put_units.ensures.room, w.put_section.ensures.room);
            setting = w.put_section.ensures.setting ∙ w.put_units.ensures.setting ∙ l.invariant.setting;
            marks = rw value at marks;
          })
      | else-section-gt0 w ↦
          let none : digits_at 4 number power ≡ 0 = omega (arith, value, w.if-section-gt0.false) in
          let same = lower-same 4 number power none in
          rw (w.pen-is, w.filled-is, next, same) (record {
            fills = l.invariant.fills;
            under = omega (arith, l.invariant.under);
            room = l.invariant.room;
            setting = l.invariant.setting;
            marks = l.invariant.marks;
          })
    ]

pub put_units-requires-2-clause-room : goal.put_units-requires-2-clause-room
put_units-requires-2-clause-room g c =
    let l = c.loop-index in
    let sections = c.args.sections.now in
    let whole = spelling-end c.args.method sections.number sections.count l.index
    sections.above l.filled sections.holds c.requires.count c.requires.above l.auto.index-end c.loop-index-test.false
    l.invariant.fills l.invariant.under in
    omega (arith, whole.1, l.invariant.room, c.requires.room)

pub put_above-requires-clause-room : goal.put_above-requires-clause-room
put_above-requires-clause-room g c =
    let l = c.loop-index in
    let sections = c.args.sections.now in
    let whole = spelling-end c.args.method sections.number sections.count l.index
    sections.above l.filled sections.holds c.requires.count c.requires.above l.auto.index-end c.loop-index-test.false
    l.invariant.fills l.invariant.under in
    omega (arith, whole.1, l.invariant.room, c.requires.room, c.put_units-2.ensures.room)

pub returns-clause-room : goal.returns-clause-room
returns-clause-room g c =
    let l = c.loop-index in
    let sections = c.args.sections.now in
    let whole = spelling-end c.args.method sections.number sections.count l.index
    sections.above l.filled sections.holds c.requires.count c.requires.above l.auto.index-end c.loop-index-test.false
    l.invariant.fills l.invariant.under in
    omega (arith, whole.1, l.invariant.room, c.put_units-2.ensures.room, c.put_above.ensures.room)

pub returns-clause-marks : goal.returns-clause-marks
returns-clause-marks g c =
    let l = c.loop-index in
    let sections = c.args.sections.now in
    let spelled = spelling-end c.args.method sections.number sections.count l.index
    sections.above l.filled sections.holds c.requires.count c.requires.above l.auto.index-end c.loop-index-test.false
    l.invariant.fills l.invariant.under in
    rw spelled.0 (c.put_above.ensures.marks _ (c.put_units-2.ensures.marks _ l.invariant.marks))
