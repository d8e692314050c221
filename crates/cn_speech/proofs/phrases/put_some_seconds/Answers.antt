use Rattle.std.proofs.Common.{codes}
use Rattle.std.specs.Char.{encode_utf8}
use Rattle.std.specs.Str.{chars}
use Rattle.std.proofs.lemmas.Result.{on_ok_weaker}
use Rattle.cn_speech.specs.SpokenPhrases.{two_digits}
use Rattle.cn_speech.specs.Voice.{word}
use Rattle.cn_speech.proofs.Said.{said-both}
use Rattle.cn_speech.proofs.phrases.put_some_seconds.Goals as goal

pub returns : goal.returns
unfolding encode_utf8 chars
returns g c =
    let both = g.met.S.Sink.took_both in
    on_ok_weaker c.put_word.result
    (λ last. said-both g.S.Sink.took both _ _ _ (two_digits c.args.voice c.args.second) (word c.args.voice (codes "秒"))
    c.in_ok-put_two_digits.ensures last)
    c.put_word.ensures
