use Rattle.std.proofs.Common.{◌<◌, ◌&&◌, not, nat_le, inl, inr, ap, ap₂, sym, ◌∙◌, arith, rules}
use Rattle.cn_core.specs.Text.{text_of}
use Rattle.cn_quantity.specs.declared.characters.DigitKind.TheVariants.{Figure}
use Rattle.cn_quantity.specs.Digits.{begins_with_nought, leading_digits}
use Rattle.cn_quantity.specs.Figures.{after_whole}
use Rattle.cn_quantity.proofs.FigureGroups.{after-comma, after-figures, digits-over, go_on, go_on-more, go_on-stops, groups-begin, groups-none, more_groups}
use Rattle.cn_quantity.proofs.figures.after_whole.Goals as goal

pub grouping-init : goal.grouping-init
grouping-init c =
    let text = text_of c.args.text.now in
    let some : 0 < leading_digits Figure text =
    omega (arith, c.if-count-eq0.false, c.split_digits-count.ensures.count) in
    let rest = c.split_digits-count.ensures.rest in
    record {
      same = ap₂ go_on (c.may_lead_groups-leads.ensures
          ∙ ap (λ n. nat_le n 3 && not (begins_with_nought text)) c.split_digits-count.ensures.count)
          (ap more_groups rest) ∙ groups-begin text some;
      after = rw rest (after-figures text);
      bare = rw rest (digits-over Figure text);
      utf8 = search rules;
    }

pub returns-then-count-eq0 : goal.returns-then-count-eq0
returns-then-count-eq0 c =
    groups-none (text_of c.args.text.now) (sym c.split_digits-count.ensures.count
    ∙ c.if-count-eq0.true)

pub returns-then-not-leads : goal.returns-then-not-leads
returns-then-not-leads c =
    let leads = c.may_lead_groups-leads.result in
    let count = c.split_digits-size.ensures.count in
    sym c.grouping.invariant.same ∙ ap (λ l. go_on leads (more_groups l)) c.in-Some.ensures.parts.text
    ∙ go_on-stops leads c.in-Some.c (text_of c.in-Some.group.now) (search rules)
    (λ on three. elim c.then-not-leads.either [
      | inl off ↦ cc
      | inr some ↦ some.1 (count ∙ three)
    ])

pub grouping-preserved : goal.grouping-preserved
grouping-preserved c =
    let l = c.grouping in
    let group = text_of c.in-Some.group.now in
    let leads = c.may_lead_groups-leads.result in
    let rest = c.split_digits-size.ensures.rest in
    let parts = c.in-Some.ensures.parts.text in
    record {
      same = rw rest (go_on-more leads c.in-Some.c group (search rules) c.if-not-leads.false
          (sym c.split_digits-size.ensures.count ∙ c.if-size-ne3.false)
          ∙ ap (λ l. go_on leads (more_groups l)) (sym parts) ∙ l.invariant.same);
      after = rw rest (after-figures group ∙ sym (after-comma c.in-Some.c group (search rules))
          ∙ ap after_whole (sym parts) ∙ l.invariant.after);
      bare = rw rest (digits-over Figure group);
      utf8 = search rules;
    }
