use Rattle.std.proofs.Common.{ap, ◌∙◌, chars}
use Rattle.std.proofs.lemmas.Str.{chars-nil}
use Rattle.cn_replace.specs.Clings.{clings}
use Rattle.cn_phrase.proofs.money.clings_before.Goals as goal

pub returns : goal.returns
returns c = c.clings.ensures ∙ ap (clings (chars c.args.before.now)) chars-nil
