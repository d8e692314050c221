use Rattle.std.proofs.Common.{◌++◌, codes}
use Rattle.std.specs.Char.{encode_utf8}
use Rattle.std.specs.Str.{chars}
use Rattle.std.proofs.lemmas.Result.{on_ok_weaker}
use Rattle.cn_speech.specs.Numbers.{one_by_one, whole_said}
use Rattle.cn_speech.specs.Voice.{word}
use Rattle.cn_speech.proofs.Said.{said-both}
use Rattle.cn_speech.proofs.phrases.put_date.Goals as goal

pub returns : goal.returns
unfolding encode_utf8 chars
returns g c =
    let both = g.met.S.Sink.took_both in
    on_ok_weaker c.put_word-3.result
    (λ last. said-both g.S.Sink.took both _ _ _ (one_by_one c.args.voice (chars c.args.figures.now)) ((word c.args.voice (codes "年")) ++ ((whole_said c.args.voice c.args.n.second) ++ ((word c.args.voice (codes "月")) ++ ((whole_said c.args.voice c.args.n.last) ++ (word c.args.voice (codes "日"))))))
    c.in_ok-put_one_by_one.ensures
    (said-both g.S.Sink.took both _ _ _ (word c.args.voice (codes "年")) ((whole_said c.args.voice c.args.n.second) ++ ((word c.args.voice (codes "月")) ++ ((whole_said c.args.voice c.args.n.last) ++ (word c.args.voice (codes "日")))))
    c.in_ok-put_word.ensures
    (said-both g.S.Sink.took both _ _ _ (whole_said c.args.voice c.args.n.second) ((word c.args.voice (codes "月")) ++ ((whole_said c.args.voice c.args.n.last) ++ (word c.args.voice (codes "日"))))
    c.in_ok-put_number.ensures
    (said-both g.S.Sink.took both _ _ _ (word c.args.voice (codes "月")) ((whole_said c.args.voice c.args.n.last) ++ (word c.args.voice (codes "日")))
    c.in_ok-put_word-2.ensures
    (said-both g.S.Sink.took both _ _ _ (whole_said c.args.voice c.args.n.last) (word c.args.voice (codes "日"))
    c.in_ok-put_number-2.ensures last)))))
    c.put_word-3.ensures
