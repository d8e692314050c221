use Rattle.std.proofs.Common.{chars}
use Rattle.cn_find.specs.Spans.{in_front, text_before}
use Rattle.cn_phrase.specs.Items.{item_of}
use Rattle.cn_speech.proofs.PartLeaves.{item-ends}
use Rattle.cn_speech.proofs.part.currency_at.Goals as goal

pub is_of_currency-requires : goal.is_of_currency-requires
is_of_currency-requires c = item-ends c.args.wanted
    (in_front (text_before c.args.whole.now c.args.ahead.now)) (chars c.args.ahead.now)
    (item_of c.in_ok-item.item) c.in_ok-item.ensures
