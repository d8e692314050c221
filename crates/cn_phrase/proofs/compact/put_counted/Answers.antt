use Rattle.std.proofs.Common.{◌≡◌, IfSome, Some, chars, rules, subst}
use Rattle.cn_phrase.specs.Suffix.{EndsWith}
use Rattle.cn_phrase.specs.Words.{after_halved}
use Rattle.cn_phrase.proofs.Suffixes.{leaves-halved}
use Rattle.cn_phrase.proofs.compact.put_counted.Goals as goal

pub put_passed-requires : goal.put_passed-requires
put_passed-requires g c =
    let e : after_halved (chars c.args.words.now) ≡ Some (chars c.in-Some.rest.now) =
    search rules in
    subst (λ o. IfSome o (EndsWith (chars c.args.words.now))) e
    (leaves-halved (chars c.args.words.now))
