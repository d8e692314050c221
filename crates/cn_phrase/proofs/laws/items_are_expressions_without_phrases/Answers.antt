use Rattle.cn_phrase.proofs.PlainItems.{items-plain}
use Rattle.cn_phrase.proofs.laws.items_are_expressions_without_phrases.Goals as goal

pub returns : goal.returns
returns c = items-plain c.args.wanted
