use Rattle.std.proofs.Common.{sym, ◌∙◌, arith, rules}
use Rattle.cn_grammar.proofs.Reading.{unfinished-read, reading-more, reading-refused, reading-ended}
use Rattle.cn_grammar.proofs.reader.read_form.Goals as goal

pub returns-in-None : goal.returns-in-None
returns-in-None g c =
    reading-refused g.G.Grammar.is_form g.G.Grammar.machine c.states_read_the_forms.ensures _ _ c.in-Some.after.now
    c.reading.state _ c.in-Some.character c.reading.invariant.reading c.in-Some.ensures.parts
    (sym c.in-None.ensures)

pub reading-preserved : goal.reading-preserved
reading-preserved g c = record {
  reading = reading-more g.G.Grammar.machine _ _ c.in-Some.after.now c.reading.state
      c.in-Some-step.next _ c.in-Some.character c.reading.invariant.reading
      c.in-Some.ensures.parts (sym c.step.ensures ∙ c.in-Some-step.is);
  within = omega (arith, c.reading.invariant.within, c.in-Some.ensures.shorter);
  utf8 = search rules;
}

pub returns-in-None-end : goal.returns-in-None-end
returns-in-None-end g c =
    unfinished-read g.G.Grammar.is_form g.G.Grammar.machine c.states_read_the_forms.ensures _ c.reading.state
    (reading-ended g.G.Grammar.machine _ _ c.reading.state _ c.reading.invariant.reading
    c.in_default.ensures.parts) (sym c.end.ensures ∙ c.in-None-end.is)
