use Rattle.std.proofs.Common.{◌≡◌, true, ◌∙◌, ◌++◌, ap, chars, rules, sym}
use Rattle.cn_find.specs.Spans.{in_front, text_before}
use Rattle.cn_phrase.proofs.Between.{characters-before, part-span}
use Rattle.std.specs.Option.{option_map}
use Rattle.cn_speech.specs.Speech.{is_left}
use Rattle.cn_speech.specs.SpokenParts.{part_of}
use Rattle.cn_speech.proofs.SpeechSteps.{left-plain, left-span}
use Rattle.cn_speech.proofs.speech.left_here.Goals as goal

pub returns-then-has_figure : goal.returns-then-has_figure
returns-then-has_figure c =
    let left_is : is_left (option_map part_of c.args.part) ≡ true = search rules in
    left-span (in_front (text_before c.args.text.now c.args.given.now)) (chars c.args.given.now)
    (chars c.args.next.now) (option_map part_of c.args.part) (chars c.text_before-2.result.now) _ left_is
    (characters-before c.args.given.now c.args.next.now c.text_before-2.result.now
    (sym c.requires.next ∙ ap (λ l. l ++ c.args.next.now) (sym c.text_before-2.ensures)) c.text_before-2.utf8)
    (sym c.has_figure.ensures ∙ c.if-has_figure.true)
    (part-span c.args.text.now c.args.given.now c.args.next.now c.text_before.result.now c.text_before-2.result.now
    c.text_before.ensures c.text_before-2.ensures c.requires.next c.text_before.utf8 c.text_before-2.utf8 c.utf8.next)

pub returns-else-has_figure : goal.returns-else-has_figure
returns-else-has_figure c = left-plain (in_front (text_before c.args.text.now c.args.given.now))
    (chars c.args.given.now) (chars c.args.next.now) (option_map part_of c.args.part)
    (chars c.text_before-2.result.now)
    (characters-before c.args.given.now c.args.next.now c.text_before-2.result.now
    (sym c.requires.next ∙ ap (λ l. l ++ c.args.next.now) (sym c.text_before-2.ensures)) c.text_before-2.utf8)
    (sym c.has_figure.ensures ∙ c.if-has_figure.false)
