use Rattle.std.proofs.Common.{rules, ◌^◌, ◌<◌, arith}
use Rattle.cn_spell.proofs.NaiveTexts.{length-plain, three-naive}
use Rattle.cn_spell.proofs.ThreeBytes.{length-encode_all}
use Rattle.cn_spell.proofs.naive.PlainText.count.Goals as goal

pub returns-clause-count : goal.returns-clause-count
returns-clause-count c =
    let self = c.args.self.now in
    let sections = self.sections in
    let size = c.digits_of-above.ensures in
    let total = length-plain self.characters.variant self.characters.case self.negative
    sections.number sections.count sections.above c.digits_of-above.result self.small sections.holds
    size.some size.below size.reach in
    search (rules, total)

pub returns-clause-bytes : goal.returns-clause-bytes
returns-clause-bytes c =
    let self = c.args.self.now in
    let small : self.sections.number < 10 ^ 64 = omega (arith, self.small) in
    length-encode_all _ (three-naive self.characters.variant self.characters.case self.negative
    self.sections.number small)
