use Rattle.std.proofs.Common.{ap, refl, ◌∙◌, chars}
use Rattle.cn_find.specs.Spans.{span_of}
use Rattle.cn_replace.proofs.Texts.{if_puts}
use Rattle.cn_phrase.specs.InText.{item_text, text_for_item}
use Rattle.cn_phrase.proofs.in_text.InText.put_item.Goals as goal

pub returns : goal.returns
unfolding text_for_item
returns g c = if_puts g.S.Sink.took _ _ _ _ _
    (ap (item_text c.args.self.replacement.method c.args.self.replacement.figures
    (span_of c.args.part) (chars c.text_from.result.now)) c.requires.item
    ∙ rw c.text_from.ensures.text refl)
    c.put_known.ensures
