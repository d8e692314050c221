use Rattle.cn_phrase.proofs.PlainTexts.{texts-plain}
use Rattle.cn_phrase.proofs.laws.texts_without_phrases_are_written_as_their_quantities.Goals as goal

pub returns : goal.returns
returns c = λ bytes utf8 plain.
    texts-plain c.args.method c.args.figures c.args.wanted bytes utf8 plain
