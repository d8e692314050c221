use Rattle.cn_phrase.proofs.Between.{part-span}
use Rattle.cn_phrase.proofs.items.part_between.Goals as goal

pub returns-clause-span : goal.returns-clause-span
returns-clause-span c = part-span c.args.whole.now c.args.ahead.now c.args.rest.now _ _
    c.text_before.ensures c.text_before-2.ensures c.requires.rest c.text_before.utf8
    c.text_before-2.utf8 c.utf8.rest
