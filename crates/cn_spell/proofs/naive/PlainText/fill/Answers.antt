use Rattle.std.proofs.Common.{rules, ◌≡◌, ℕ, ◌*◌, ◌++◌, if◌then◌else◌, refl, subst, sym, ap, ◌∙◌, arith}
use Rattle.cn_core.specs.Naive.{decimal_digits}
use Rattle.cn_core.specs.Printing.{signed_text}
use Rattle.cn_spell.specs.Working.Room.{Shows}
use Rattle.cn_spell.specs.Working.Sections.{lowest_marks}
use Rattle.cn_spell.proofs.NaiveTexts.{lowest-section, decimal-sections, length-plain}
use Rattle.cn_spell.proofs.naive.PlainText.fill.Goals as goal

pub put_section-requires : goal.put_section-requires
put_section-requires g c =
    let l = c.loop-index in
    let self = c.args.self.now in
    let sections = self.sections in
    let size = c.digits_of-size.ensures in
    let total = length-plain self.characters.variant self.characters.case self.negative
    sections.number sections.count sections.above c.digits_of-size.result self.small sections.holds
    size.some size.below size.reach in
    let value = sections.holds.each l.index c.loop-index-test.true in
    record {
      section = omega (arith, value);
      room = omega (arith, total, l.invariant.free, l.room.apart, c.requires, c.loop-index-test.true);
    }

pub loop-index-preserved : goal.loop-index-preserved
loop-index-preserved g c =
    let l = c.loop-index in
    let sections = c.args.self.now.sections in
    let value = sections.holds.each l.index c.loop-index-test.true in
    let put = c.put_section.ensures in
    record {
      shows = rw (← lowest-section sections.number l.index _ value) (put.marks _ l.invariant.shows);
      free = omega (arith, put.room, l.invariant.free, l.room.apart, c.put_section.new.pen.apart);
      characters = ap (λ s. s.1) put.setting ∙ l.invariant.characters;
      lender = ap (λ s. s.0) put.setting ∙ l.invariant.lender;
    }

pub put_digits-requires : goal.put_digits-requires
put_digits-requires g c =
    let l = c.loop-index in
    let self = c.args.self.now in
    let sections = self.sections in
    let size = c.digits_of-size.ensures in
    let total = length-plain self.characters.variant self.characters.case self.negative
    sections.number sections.count sections.above c.digits_of-size.result self.small sections.holds
    size.some size.below size.reach in
    record { room = omega (arith, total, l.invariant.free, l.room.apart, c.requires, l.auto.index-end) }

pub put_sign-requires : goal.put_sign-requires
put_sign-requires g c = λ negative.
    let l = c.loop-index in
    let self = c.args.self.now in
    let sections = self.sections in
    let size = c.digits_of-size.ensures in
    let total = length-plain self.characters.variant self.characters.case self.negative
    sections.number sections.count sections.above c.digits_of-size.result self.small sections.holds
    size.some size.below size.reach in
    let sign : ℕ = if self.negative then 1 else 0 in
    let one : sign ≡ 1 = rw negative refl in
    omega (
      arith,
      total,
      one,
      l.invariant.free,
      l.room.apart,
      c.put_digits.new.pen.apart,
      c.put_digits.ensures.room,
      c.requires,
      l.auto.index-end,
    )

pub returns : goal.returns
returns g c =
    let l = c.loop-index in
    let self = c.args.self.now in
    let sections = self.sections in
    let size = c.digits_of-size.ensures in
    let put = c.put_digits.ensures in
    let room = c.put_sign.new.self in
    let end : l.index ≡ sections.count = omega (arith, l.auto.index-end, c.loop-index-test.false) in
    let whole = decimal-sections sections.number sections.count sections.above
    c.digits_of-size.result self.small sections.holds size.some size.below size.reach in
    let digits : lowest_marks c.digits_of-size.result sections.above
    ++ lowest_marks (4 * l.index) sections.number ≡ decimal_digits sections.number =
    rw end (sym whole) in
    let lender = c.put_sign.ensures.lender ∙ ap (λ s. s.0) put.setting ∙ l.invariant.lender in
    let shows : Shows room.free room.bytes.now (signed_text self.characters.variant
    self.characters.case self.negative (decimal_digits sections.number)) =
    subst (λ used. Shows room.free room.bytes.now
    (signed_text used.variant used.case self.negative (decimal_digits sections.number)))
    (ap (λ s. s.1) put.setting ∙ l.invariant.characters)
    (c.put_sign.ensures.shows _ (rw digits at (put.marks _ l.invariant.shows))) in
    search (rules, lender, shows)
