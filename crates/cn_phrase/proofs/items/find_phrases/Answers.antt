use Rattle.cn_phrase.proofs.ItemsFound.{all-left}
use Rattle.cn_phrase.proofs.items.find_phrases.Goals as goal

pub returns : goal.returns
returns c = all-left c.args.wanted c.args.text.now
