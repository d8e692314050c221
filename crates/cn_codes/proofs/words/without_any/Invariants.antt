use Rattle.std.proofs.Common.{◌≡◌, chars, drop, map}
use Rattle.cn_find.specs.Spans.{in_front}
use Rattle.cn_codes.specs.Words.{without_any}
use Rattle.cn_codes.proofs.words.without_any.Given as goal

abbrev pub invariant-loop-word : goal.invariant-loop-word
invariant-loop-word l =
    without_any (map (λ word. chars word.now) l.words) (in_front l.before)
    ≡ without_any (map (λ word. chars word.now) (drop l.word-index l.words)) (in_front l.before)
