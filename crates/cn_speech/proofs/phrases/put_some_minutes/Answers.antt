use Rattle.std.proofs.Common.{◌++◌, codes}
use Rattle.std.specs.Char.{encode_utf8}
use Rattle.std.specs.Str.{chars}
use Rattle.std.proofs.lemmas.Result.{on_ok_weaker}
use Rattle.cn_speech.specs.SpokenPhrases.{seconds_said, two_digits}
use Rattle.cn_speech.specs.Voice.{word}
use Rattle.cn_speech.proofs.Said.{said-both}
use Rattle.cn_speech.proofs.phrases.put_some_minutes.Goals as goal

pub returns : goal.returns
unfolding encode_utf8 chars
returns g c =
    let both = g.met.S.Sink.took_both in
    on_ok_weaker c.put_seconds.result
    (λ last. said-both g.S.Sink.took both _ _ _ (two_digits c.args.voice c.args.minute) ((word c.args.voice (codes "分")) ++ (seconds_said c.args.voice c.args.second))
    c.in_ok-put_two_digits.ensures
    (said-both g.S.Sink.took both _ _ _ (word c.args.voice (codes "分")) (seconds_said c.args.voice c.args.second)
    c.in_ok-put_word.ensures last))
    c.put_seconds.ensures
