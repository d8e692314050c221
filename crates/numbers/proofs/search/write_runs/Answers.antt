use Rattle.std.proofs.Common.{◌≡◌, ◌+◌, ◌-◌, ◌<◌, ◌^◌, [], length, chars, take, IsUtf8, rules, arith, append-nil, sym, subst, refl, ap, ◌∙◌}
use Rattle.std.specs.Io.KnownBytes.{Appends}
use Rattle.chinese_number.specs.Spans.{span_of}
use Rattle.numbers.proofs.Found.{First-of, Left, Left-all, Passed, Passed-none, Passed-more, cut_at, few-chars}
use Rattle.numbers.specs.Answers.{AreFound, found_text}
use Rattle.numbers.proofs.search.write_runs.Goals as goal

pub searching-init : goal.searching-init
searching-init g c = record {
  passed = Passed-none _ _ _ _;
  left = (
    c.requires.0,
    0,
    refl,
    subst (λ runs. Left c.requires.0 runs c.args.text.now 0) (sym c.requires.1)
        (Left-all c.requires.0 c.args.text.now c.utf8.text),
  );
  utf8 = search rules;
}

pub overflow_sub-rest : goal.overflow_sub-rest
overflow_sub-rest g c =
    let span = span_of c.in-Some.found in
    let l = c.searching.invariant.left in
    let f = First-of l.3 span _ c.in-Some.ensures.steps (search rules) (search rules) in f.within

pub split_at-requires : goal.split_at-requires
split_at-requires g c =
    let span = span_of c.in-Some.found in
    let l = c.searching.invariant.left in
    let f = First-of l.3 span _ c.in-Some.ensures.steps (search rules) (search rules) in f.boundary

pub overflow_add-column : goal.overflow_add-column
overflow_add-column g c =
    let span = span_of c.in-Some.found in
    let l = c.searching.invariant.left in
    let one : IsUtf8 span.before = search rules in
    let two : IsUtf8 span.text = search rules in
    let f = First-of l.3 span _ c.in-Some.ensures.steps one two in
    let few = few-chars span.before one in
    let some = few-chars span.text two in
    let short : length span.before < 2 ^ 63 = search rules in
    let brief : length span.text < 2 ^ 63 = search rules in
    let here = c.char_count-column.ensures
    ∙ ap (λ t. length (chars t)) c.split_at.ensures.front in
    omega (arith, few, some, short, brief, here, f.counted, l.2)

pub overflow_sub-column : goal.overflow_sub-column
overflow_sub-column g c =
    let span = span_of c.in-Some.found in
    let l = c.searching.invariant.left in
    let f = First-of l.3 span _ c.in-Some.ensures.steps (search rules) (search rules) in
    let here = c.char_count-column.ensures
    ∙ ap (λ t. length (chars t)) c.split_at.ensures.front in
    omega (arith, here, f.counted, l.2, c.char_count.ensures)

pub searching-preserved : goal.searching-preserved
searching-preserved g c =
    let span = span_of c.in-Some.found in
    let l = c.searching.invariant.left in
    let f = First-of l.3 span _ c.in-Some.ensures.steps (search rules) (search rules) in
    let count = length (chars (take (cut_at span c.searching.rest.now) c.searching.rest.now)) in
    let here : c.char_count-column.result ≡ count = c.char_count-column.ensures
    ∙ ap (λ t. length (chars t)) c.split_at.ensures.front in
    let wrote = c.in_ok-write_found.ensures in
    let contents = g.W.Write.contents in
    let at : c.searching.column + c.char_count-column.result - c.char_count.result
    ≡ 1 + length (chars span.before) =
    omega (arith, here, f.counted, l.2, c.char_count.ensures) in
    record {
      passed = Passed-more _ _ _ _ _ _ span c.next.new.self wrote.0
          (subst (λ runs. Passed c.args.search c.args.line (contents c.args.writer.now)
          (contents c.searching.writer) c.args.runs runs) c.in-Some.ensures.steps
          c.searching.invariant.passed) wrote.1
          (subst (λ n. Appends (contents c.searching.writer) (contents c.write_found.new.writer)
          (found_text c.args.line n span.text wrote.0)) at wrote.2);
      left = (
        l.0,
        l.1 + count,
        omega (arith, here, l.2),
        subst (λ rest. Left l.0 c.next.new.self rest (l.1 + count))
            (sym (c.split_at.ensures.back ∙ f.behind)) f.left,
      );
      utf8 = search rules;
    }

pub returns : goal.returns
returns g c =
    let p = subst (λ runs. Passed c.args.search c.args.line (g.W.Write.contents c.args.writer.now)
    (g.W.Write.contents c.searching.writer) c.args.runs runs) c.in_default.ensures.steps.0
    c.searching.invariant.passed in (
      p.written,
      subst (AreFound c.args.search c.args.line c.args.runs) (append-nil p.written)
          (p.completes [] refl),
      p.appends,
    )
