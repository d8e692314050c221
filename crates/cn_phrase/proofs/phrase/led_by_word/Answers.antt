use Rattle.std.proofs.Common.{chars, sym, ◌∙◌}
use Rattle.cn_find.specs.Spans.{in_front}
use Rattle.cn_phrase.proofs.Beginnings.{nothing_by_word}
use Rattle.cn_phrase.proofs.phrase.led_by_word.Goals as goal

pub returns-else-begins_lead : goal.returns-else-begins_lead
returns-else-begins_lead c = sym (nothing_by_word (in_front c.args.before.now) (chars c.args.text.now)
    (sym c.begins_lead.ensures ∙ c.if-begins_lead.false))
