use Rattle.std.proofs.Common.{◌≡◌, ◌∷◌, [], ◌++◌, ◌∙◌, ap, chars, refl, rules, sym}
use Rattle.std.specs.Option.{option_map}
use Rattle.cn_find.specs.Spans.{in_front, span_of, text_before}
use Rattle.cn_find.proofs.Runs.{front-utf8}
use Rattle.cn_speech.specs.Speech.{left_from, left_here}
use Rattle.cn_speech.specs.SpokenParts.{part_of}
use Rattle.cn_speech.proofs.SpeechSteps.{LeftStep, LeftStep-of, leaves-bytes, rest-of}
use Rattle.cn_speech.proofs.speech.next_left.Goals as goal

pub searching-init : goal.searching-init
searching-init c = record {
  same = refl;
  ends = c.requires.ahead;
  given_ends = c.requires.given;
  ahead_utf8 = search rules;
  given_utf8 = search rules;
}

pub after_as_many-next-requires : goal.after_as_many-next-requires
after_as_many-next-requires c = let leaves = rest-of c.args.wanted
    (in_front (text_before c.args.meant.now c.searching.ahead.now)) _ _ _ _ _
    c.in-Some.ensures.parts c.part_at-part.ensures c.rest_here-rest.ensures in leaves.0

pub searching-preserved : goal.searching-preserved
searching-preserved c =
    let step : LeftStep c.args.wanted c.args.meant.now c.searching.ahead.now c.args.text.now
    c.searching.given.now c.rest_here-rest.result.now c.after_as_many-next.result.now
    (option_map part_of c.part_at-part.result) =
    LeftStep-of c.args.wanted c.args.meant.now c.searching.ahead.now c.searching.given.now
    c.in-Some.behind.now c.rest_here-rest.result.now c.after_as_many-next.result.now
    (text_before c.searching.given.now c.after_as_many-next.result.now) _
    (option_map part_of c.part_at-part.result) c.searching.invariant.ends
    c.utf8.meant c.searching.invariant.ahead_utf8 (search rules)
    (front-utf8 _ _ c.after_as_many-next.ensures.ends c.searching.invariant.given_utf8 (search rules))
    c.in-Some.ensures.parts c.part_at-part.ensures c.rest_here-rest.ensures
    c.after_as_many-next.ensures.rest (sym c.after_as_many-next.ensures.ends)
    c.args.text.now c.searching.invariant.given_ends c.utf8.text c.searching.invariant.given_utf8
    (search rules) in
    let none : left_here (in_front (text_before c.args.text.now c.searching.given.now))
    (chars c.searching.given.now) (chars c.after_as_many-next.result.now)
    (option_map part_of c.part_at-part.result) ≡ [] = search rules in
    record {
      same = c.searching.invariant.same ∙ step.same ∙ ap (λ l. l ++ left_from c.args.wanted 0
          (in_front (text_before c.args.meant.now c.rest_here-rest.result.now))
          (chars c.rest_here-rest.result.now)
          (in_front (text_before c.args.text.now c.after_as_many-next.result.now))
          (chars c.after_as_many-next.result.now)) none;
      ends = step.ends;
      given_ends = step.given_ends;
      ahead_utf8 = search rules;
      given_utf8 = search rules;
    }

pub searching-smaller : goal.searching-smaller
searching-smaller c = leaves-bytes c.searching.ahead.now c.rest_here-rest.result.now
    c.searching.invariant.ahead_utf8 c.rest_here-rest.utf8 (rest-of c.args.wanted
    (in_front (text_before c.args.meant.now c.searching.ahead.now)) _ _ _ _ _
    c.in-Some.ensures.parts c.part_at-part.ensures c.rest_here-rest.ensures)

pub returns-in-Some-left_here-clause-parts : goal.returns-in-Some-left_here-clause-parts
returns-in-Some-left_here-clause-parts c =
    let step : LeftStep c.args.wanted c.args.meant.now c.searching.ahead.now c.args.text.now
    c.searching.given.now c.rest_here-rest.result.now c.after_as_many-next.result.now
    (option_map part_of c.part_at-part.result) =
    LeftStep-of c.args.wanted c.args.meant.now c.searching.ahead.now c.searching.given.now
    c.in-Some.behind.now c.rest_here-rest.result.now c.after_as_many-next.result.now
    (text_before c.searching.given.now c.after_as_many-next.result.now) _
    (option_map part_of c.part_at-part.result) c.searching.invariant.ends
    c.utf8.meant c.searching.invariant.ahead_utf8 (search rules)
    (front-utf8 _ _ c.after_as_many-next.ensures.ends c.searching.invariant.given_utf8 (search rules))
    c.in-Some.ensures.parts c.part_at-part.ensures c.rest_here-rest.ensures
    c.after_as_many-next.ensures.rest (sym c.after_as_many-next.ensures.ends)
    c.args.text.now c.searching.invariant.given_ends c.utf8.text c.searching.invariant.given_utf8
    (search rules) in
    c.searching.invariant.same ∙ step.same ∙ ap (λ l. l ++ left_from c.args.wanted 0
    (in_front (text_before c.args.meant.now c.rest_here-rest.result.now))
    (chars c.rest_here-rest.result.now)
    (in_front (text_before c.args.text.now c.after_as_many-next.result.now))
    (chars c.after_as_many-next.result.now)) c.in-Some-left_here.ensures

pub returns-in-Some-left_here-clause-place : goal.returns-in-Some-left_here-clause-place
returns-in-Some-left_here-clause-place c =
    let step : LeftStep c.args.wanted c.args.meant.now c.searching.ahead.now c.args.text.now
    c.searching.given.now c.rest_here-rest.result.now c.after_as_many-next.result.now
    (option_map part_of c.part_at-part.result) =
    LeftStep-of c.args.wanted c.args.meant.now c.searching.ahead.now c.searching.given.now
    c.in-Some.behind.now c.rest_here-rest.result.now c.after_as_many-next.result.now
    (text_before c.searching.given.now c.after_as_many-next.result.now) _
    (option_map part_of c.part_at-part.result) c.searching.invariant.ends
    c.utf8.meant c.searching.invariant.ahead_utf8 (search rules)
    (front-utf8 _ _ c.after_as_many-next.ensures.ends c.searching.invariant.given_utf8 (search rules))
    c.in-Some.ensures.parts c.part_at-part.ensures c.rest_here-rest.ensures
    c.after_as_many-next.ensures.rest (sym c.after_as_many-next.ensures.ends)
    c.args.text.now c.searching.invariant.given_ends c.utf8.text c.searching.invariant.given_utf8
    (search rules) in
    record { given = step.given_ends; ahead = step.ends }
