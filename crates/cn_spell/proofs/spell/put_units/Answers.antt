use Rattle.std.proofs.Common.{Bool, ◌≡◌, ℕ, ◌&&◌, ◌==◌, nat_lt, true, false, [], ◌∷◌, ◌++◌, length, slice_index, ap, if◌then◌else◌, arith}
use Rattle.std.proofs.lemmas.Bool.Decides.{nat_tests}
use Rattle.cn_core.specs.Mark.{digit, unit}
use Rattle.cn_spell.specs.Working.Units.{start_of, unit_behind}
use Rattle.cn_spell.proofs.SectionWalks.{behind-near}
use Rattle.cn_spell.proofs.Pens.{Wrote, Wrote-more}
use Rattle.cn_spell.proofs.UnitLoops.{behind-then, behind-else, behind-room, behind-done}
use Rattle.cn_spell.proofs.spell.put_units.Goals.{then-start-above, else-start-above, then-above-filled+then-filled-start, else-above-filled, else-above-filled-via-then-above-filled+else-filled-start, else-above-filled-via-else-above-filled}
use Rattle.cn_spell.proofs.spell.put_units.Goals as goal

pub put_digit_if-requires-clause-room : goal.put_digit_if-requires-clause-room
put_digit_if-requires-clause-room g c =
    let own = behind-near c.args.method c.args.power c.args.filled (omega arith) c.requires.power
    c.requires.section c.requires.filled (omega arith) in
    omega (arith, ap length own, c.requires.room)

pub put_unit_if-requires : goal.put_unit_if-requires
put_unit_if-requires g c =
    let own = behind-near c.args.method c.args.power c.args.filled (omega arith) c.requires.power
    c.requires.section c.requires.filled (omega arith) in
    record { room = omega (arith, ap length own, c.put_digit_if.ensures.room, c.requires.room) }

pub returns-then-filled-power-clause-room : goal.returns-then-filled-power-clause-room
returns-then-filled-power-clause-room g c =
    let own = behind-near c.args.method c.args.power c.args.filled (omega arith) c.requires.power
    c.requires.section c.requires.filled (omega arith) in
    omega (arith, ap length own, c.put_digit_if.ensures.room, c.put_unit_if.ensures.room)

pub returns-then-filled-power-clause-marks : goal.returns-then-filled-power-clause-marks
returns-then-filled-power-clause-marks g c =
    let own = behind-near c.args.method c.args.power c.args.filled (omega arith) c.requires.power
    c.requires.section c.requires.filled (omega arith) in
    λ marks h. rw (own, ← c.unit_at.ensures) (c.put_unit_if.ensures.marks _
    (c.put_digit_if.ensures.marks marks h))

pub put_digit_if-requires-then-filled-start-clause-room : goal.put_digit_if-requires-then-filled-start-clause-room
put_digit_if-requires-then-filled-start-clause-room g c =
    let l = c.loop-width in
    let own = behind-room c.args.method c.args.power c.args.filled l.above l.width-index
    c.widths-width-items.result.now l.invariant.0 _ _ _ c.loop-width-test.true
    c.if-start-above.true l.invariant.1 c.requires.room l.invariant.2.room in
    omega (arith, own)

pub put_unit_if-requires-then-start-above : goal.put_unit_if-requires-then-start-above
put_unit_if-requires-then-start-above g c =
    let l = c.loop-width in
    let own = behind-room c.args.method c.args.power c.args.filled l.above l.width-index
    c.widths-width-items.result.now l.invariant.0 _ _ _ c.loop-width-test.true
    c.if-start-above.true l.invariant.1 c.requires.room l.invariant.2.room in
    record {
      room = elim c.if-above-filled.branch [
        | then-above-filled+then-filled-start v ↦
            let flag : (l.above == c.args.filled
            && nat_lt c.args.filled
            (start_of (slice_index c.widths-width-items.result.now l.width-index)
            c.args.power)) ≡ true =
            grind (arith, nat_tests, v.if-above-filled.true, v.if-filled-start.true) in
            rw v.pen-is (omega (
              arith,
              rw flag at own,
              v.put_digit_if-then-filled-start.ensures.room,
            ))
        | else-above-filled v ↦ rw v.pen-is (omega (arith, own))
      ];
    }

pub loop-width-preserved : goal.loop-width-preserved
loop-width-preserved g c =
    let l = c.loop-width in
    let widths = c.widths-width-items.result.now in
    let power = c.args.power in
    let filled = c.args.filled in
    let method = c.args.method in
    let start : ℕ = start_of (slice_index widths l.width-index) power in
    elim c.if-start-above.branch [
      | then-start-above w ↦
          let test : Bool = l.above == filled && nat_lt filled start in
          let zero : Wrote (g.P.Pen.left c.args.pen.now) (g.P.Pen.left w.if-above-filled.pen)
          (g.P.Pen.setting c.args.pen.now) (g.P.Pen.setting w.if-above-filled.pen)
          (g.P.Pen.has_put c.args.pen.now)
          (g.P.Pen.has_put w.if-above-filled.pen) ((if test then digit 0 ∷ [] else [])
          ++ l.invariant.0) = elim w.if-above-filled.branch [
            | then-above-filled+then-filled-start v ↦
                let flag : (l.above == filled && nat_lt filled start) ≡ true =
                grind (arith, nat_tests, v.if-above-filled.true, v.if-filled-start.true) in
                rw (v.pen-is, flag) (Wrote-more (digit 0) l.invariant.2
                v.put_digit_if-then-filled-start.ensures.room v.put_digit_if-then-filled-start.ensures.setting v.put_digit_if-then-filled-start.ensures.marks)
            | else-above-filled v ↦
                let flag : (l.above == filled && nat_lt filled start) ≡ false =
                elim v.else-above-filled.branch [
                  | else-above-filled-via-then-above-filled+else-filled-start u ↦
                      grind (arith, nat_tests, u.if-above-filled.true, u.if-filled-start.false)
                  | else-above-filled-via-else-above-filled u ↦
                      grind (arith, nat_tests, u.if-above-filled.false)
                ] in
                rw (v.pen-is, flag) l.invariant.2
          ] in (
            unit_behind method filled l.above start ++ l.invariant.0,
            rw w.above-is (behind-then method power filled l.above l.width-index widths
                l.invariant.0 _ c.loop-width-test.true w.if-start-above.true l.invariant.1),
            rw (w.pen-is, ← w.unit_at-then-start-above.ensures) (Wrote-more (unit _) zero
                w.put_unit_if-then-start-above.ensures.room w.put_unit_if-then-start-above.ensures.setting w.put_unit_if-then-start-above.ensures.marks),
          )
      | else-start-above w ↦ (
        l.invariant.0,
        rw w.above-is (behind-else method power filled l.above l.width-index widths l.invariant.0 _
            c.loop-width-test.true w.if-start-above.false l.invariant.1),
        rw w.pen-is l.invariant.2,
      )
    ]

pub returns-clause-room : goal.returns-clause-room
returns-clause-room g c =
    let l = c.loop-width in
    let own = behind-done c.args.method c.args.power c.args.filled l.above l.width-index
    c.widths-width-items.result.now l.invariant.0 _ c.loop-width-test.false l.invariant.1 in
    omega (arith, ap length own, l.invariant.2.room)

pub returns-clause-marks : goal.returns-clause-marks
returns-clause-marks g c =
    let l = c.loop-width in
    let own = behind-done c.args.method c.args.power c.args.filled l.above l.width-index
    c.widths-width-items.result.now l.invariant.0 _ c.loop-width-test.false l.invariant.1 in
    λ marks h. rw own (l.invariant.2.marks marks h)
