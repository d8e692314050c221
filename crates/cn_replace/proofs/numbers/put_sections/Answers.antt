use Rattle.std.proofs.Common.{sym, ◌∙◌, rules}
use Rattle.cn_replace.proofs.Tenths.{section_done, section_end, section_fails, sections_none}
use Rattle.cn_replace.proofs.numbers.put_sections.Goals as goal

pub putting-init : goal.putting-init
putting-init g c = record {
  so_far = sections_none g.S.Sink.took g.met.S.Sink.took_both _ _ _
      (g.met.S.Sink.took_none c.args.sink.now);
  utf8_start = search rules;
  utf8 = search rules;
}

pub before_rest-requires : goal.before_rest-requires
before_rest-requires g c =
    section_end g.S.Sink.took g.met.S.Sink.took_both _ _ _ _ _ _ _ _ c.putting.invariant.so_far
    c.in-Some.ensures.parts

pub returns-then-not-branch : goal.returns-then-not-branch
returns-then-not-branch g c =
    section_fails g.S.Sink.took g.met.S.Sink.took_both _ _ _ _ _ _ _ _ c.putting.invariant.so_far
    c.in-Some.ensures.parts _ c.before_rest.ensures
    (sym c.is_above.ensures ∙ c.if-is_above.true) _ _ _ c.if-not-branch.true
    c.in_ok-put_section.ensures

pub putting-preserved-else-not-branch : goal.putting-preserved-else-not-branch
putting-preserved-else-not-branch g c = record {
  so_far = section_done g.S.Sink.took g.met.S.Sink.took_both _ _ _ _ _ _ _ _
      c.putting.invariant.so_far c.in-Some.ensures.parts _ c.before_rest.ensures
      (sym c.is_above.ensures ∙ c.if-is_above.true) _ _ c.if-not-branch.false
      c.in_ok-put_section.ensures;
  utf8_start = search rules;
  utf8 = search rules;
}
