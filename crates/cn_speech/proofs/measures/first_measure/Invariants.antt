use Rattle.std.proofs.Common.{◌≡◌, chars, drop, map}
use Rattle.cn_speech.specs.Measures.{first_measure, measure_of}
use Rattle.cn_speech.proofs.measures.first_measure.Given as goal

abbrev pub invariant-loop-row : goal.invariant-loop-row
invariant-loop-row l =
    first_measure l.after_blank (map measure_of l.measures) (chars l.text)
    ≡ first_measure l.after_blank (map measure_of (drop l.row-index l.measures)) (chars l.text)
