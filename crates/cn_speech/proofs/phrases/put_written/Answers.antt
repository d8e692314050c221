use Rattle.std.proofs.Common.{◌≡◌, IfSome, Some, chars, rules, subst}
use Rattle.cn_phrase.specs.Suffix.{EndsWith}
use Rattle.cn_phrase.specs.Words.{after_word}
use Rattle.cn_phrase.proofs.Suffixes.{leaves-word}
use Rattle.cn_speech.proofs.phrases.put_written.Goals as goal

pub put_passed-requires : goal.put_passed-requires
put_passed-requires g c =
    let e : after_word c.args.word (chars c.args.text.now) ≡ Some (chars c.in-Some.rest.now) =
    search rules in
    subst (λ o. IfSome o (EndsWith (chars c.args.text.now))) e
    (leaves-word c.args.word (chars c.args.text.now))
