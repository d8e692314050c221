use Rattle.std.proofs.Common.{◌≡◌, ◌∷◌, [], Bool, true, false, rules, sym, subst, ◌∙◌}
use Rattle.chinese_number.specs.Spans.{span_of}
use Rattle.examples.proofs.Chapters.{Passed, Passed-none, Passed-more, Passed-all, first-within}
use Rattle.examples.proofs.chapter.chapter_number.Goals as goal

other : (one two : Bool) → one ≡ false → one ≡ two → two ≡ true → ⊥
other one two h e named = cc

pub loop-found-init : goal.loop-found-init
loop-found-init c = subst (Passed c.args.line.now)
    (sym (c.into_iter-found-iterator.ensures.into_iter_gives
    ∙ c.find_numbers-found-items.ensures.numbers))
    (Passed-none c.args.line.now)

pub loop-found-preserved-in_default : goal.loop-found-preserved-in_default
loop-found-preserved-in_default c =
    let span = span_of c.in-Some.found in
    let e : c.loop-found.found-iterator ≡ span ∷ c.next.new.self = search rules in
    Passed-more c.args.line.now span c.next.new.self
    (subst (Passed c.args.line.now) e c.loop-found.invariant) (λ named. (_, c.in_default.ensures))

pub loop-found-preserved : goal.loop-found-preserved
loop-found-preserved c =
    let span = span_of c.in-Some.found in
    let e : c.loop-found.found-iterator ≡ span ∷ c.next.new.self = search rules in
    Passed-more c.args.line.now span c.next.new.self
    (subst (Passed c.args.line.now) e c.loop-found.invariant)
    (λ named. absurd (other _ _ c.if-names_chapter.false c.names_chapter.ensures named))

pub returns-in-Ok : goal.returns-in-Ok
returns-in-Ok c =
    let span = span_of c.in-Some.found in
    let e : c.loop-found.found-iterator ≡ span ∷ c.next.new.self = search rules in (
      span,
      (
        first-within c.args.line.now span c.next.new.self
            (subst (Passed c.args.line.now) e c.loop-found.invariant),
        sym c.names_chapter.ensures ∙ c.if-names_chapter.true,
      ),
      c.in-Ok.ensures,
    )

pub returns : goal.returns
returns c =
    let e : c.loop-found.found-iterator ≡ [] = search rules in
    Passed-all c.args.line.now (subst (Passed c.args.line.now) e c.loop-found.invariant)
