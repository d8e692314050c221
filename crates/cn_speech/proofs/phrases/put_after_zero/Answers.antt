use Rattle.std.proofs.Common.{codes}
use Rattle.std.specs.Char.{encode_utf8}
use Rattle.std.specs.Str.{chars}
use Rattle.std.proofs.lemmas.Result.{on_ok_weaker}
use Rattle.cn_speech.specs.Numbers.{whole_said}
use Rattle.cn_speech.specs.Voice.{word}
use Rattle.cn_speech.proofs.Said.{said-both}
use Rattle.cn_speech.proofs.phrases.put_after_zero.Goals as goal

pub returns : goal.returns
unfolding encode_utf8 chars
returns g c =
    let both = g.met.S.Sink.took_both in
    on_ok_weaker c.put_number.result
    (λ last. said-both g.S.Sink.took both _ _ _ (word c.args.voice (codes "零")) (whole_said c.args.voice c.args.n)
    c.in_ok-put_word.ensures last)
    c.put_number.ensures
