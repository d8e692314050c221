use Rattle.std.proofs.Common.{◌++◌, subst}
use Rattle.cn_spell.proofs.NaiveTexts.{lowest-four}
use Rattle.cn_spell.proofs.naive.put_section.Goals as goal

pub returns-clause-marks : goal.returns-clause-marks
returns-clause-marks g c = λ marks h.
    subst (λ four. g.P.Pen.has_put c.put_digit_if-4.new.self (four ++ marks))
    (lowest-four c.args.section c.requires.section)
    (c.put_digit_if-4.ensures.marks _ (c.put_digit_if-3.ensures.marks _
    (c.put_digit_if-2.ensures.marks _ (c.put_digit_if.ensures.marks _ h))))
