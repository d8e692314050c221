use Rattle.std.proofs.Common.{◌≡◌, IfSome, Some, chars, rules, subst}
use Rattle.cn_phrase.specs.Phrases.{after_lead}
use Rattle.cn_phrase.specs.Suffix.{EndsWith}
use Rattle.cn_phrase.proofs.Advances.{ahead-lead}
use Rattle.cn_phrase.proofs.compact.put_lead.Goals as goal

pub put_passed-requires : goal.put_passed-requires
put_passed-requires g c =
    let e : after_lead c.args.lead (chars c.args.text.now) ≡ Some (chars c.in-Some.start.now) =
    search rules in
    subst (λ o. IfSome o (EndsWith (chars c.args.text.now))) e
    (ahead-lead c.args.lead (chars c.args.text.now))
