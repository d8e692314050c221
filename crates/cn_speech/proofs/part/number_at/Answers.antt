use Rattle.std.proofs.Common.{◌∙◌, ap, chars}
use Rattle.cn_find.specs.Spans.{in_front, text_before}
use Rattle.cn_phrase.specs.Items.{item_at, item_of}
use Rattle.cn_speech.proofs.PartLeaves.{item-ends}
use Rattle.cn_speech.proofs.part.number_at.Goals as goal

pub item_or_left-requires : goal.item_or_left-requires
item_or_left-requires c = item-ends c.args.wanted
    (in_front (text_before c.args.whole.now c.args.ahead.now)) (chars c.args.ahead.now)
    (item_of c.in-Some-item_at.item) c.in-Some-item_at.ensures
