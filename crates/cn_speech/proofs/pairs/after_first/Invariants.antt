use Rattle.std.proofs.Common.{◌≡◌, chars, drop, map}
use Rattle.cn_speech.specs.Pairs.{after_first}
use Rattle.cn_speech.proofs.pairs.after_first.Given as goal

abbrev pub invariant-loop-word : goal.invariant-loop-word
invariant-loop-word l =
    after_first (map (λ word. chars word.now) l.words) (chars l.text)
    ≡ after_first (map (λ word. chars word.now) (drop l.word-index l.words)) (chars l.text)
